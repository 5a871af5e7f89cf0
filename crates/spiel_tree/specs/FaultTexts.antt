-- What the faults of a tree say.
use Rattle.std.specs.Prelude.{ℕ, List, ◌++◌, map, codes}
use Rattle.std.specs.List.{join_with_byte}
use Rattle.std.specs.Fmt.{decimal}
use Rattle.spiel_tree.specs.declared.tree.TreeFault.{TreeFault}
use Rattle.spiel_tree.specs.declared.tree.TreeFault.TheVariants.{TooMany, Simultaneous, Recall, Actions, NoMemory}

-- the numbers of a history in brackets, with commas between them
abbrev pub history_text : List ℕ → List ℕ
history_text history = codes "[" ++ join_with_byte 44 (map decimal history) ++ codes "]"

-- a player, and two histories
abbrev pub pair_text : ℕ → List ℕ → List ℕ → List ℕ
pair_text player first second = codes "player " ++ decimal player ++ codes ": " ++ history_text first ++ codes " and " ++ history_text second

abbrev pub fault_text : TreeFault → List ℕ
fault_text (TooMany limit) = codes "more than " ++ decimal limit ++ codes " histories"
fault_text (Simultaneous history) = codes "simultaneous node at " ++ history_text history
fault_text (Recall player first second) = codes "imperfect recall of " ++ pair_text player first second
fault_text (Actions player first second) = codes "actions differ for " ++ pair_text player first second
fault_text NoMemory = codes "no memory"
