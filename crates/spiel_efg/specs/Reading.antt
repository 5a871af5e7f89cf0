-- What a game's file gives, or the first thing that is wrong with it.
use Rattle.std.specs.Prelude.{ℕ, zero, suc, Bool, true, false, nat_lt, if◌then◌else◌, List, [], ◌∷◌, length, Result, Ok, Err}
use Rattle.spiel_string.specs.Tokens.{file_tokens}
use Rattle.spiel_string.specs.declared.token.Token.{Token}
use Rattle.spiel_string.specs.declared.token.TokenFault.{TokenFault}
use Rattle.spiel_string.specs.declared.token.TokenFault.TheVariants.{Unclosed, NoMemory as NoMemoryForTokens}
use Rattle.spiel_efg.specs.EfgPays.{are_pays_fine}
use Rattle.spiel_efg.specs.Tree.{most_moves, most_nodes}
use Rattle.spiel_efg.specs.ReadingTokens.{Mark, Rest, Read, and_then, begins_at, rest_from, stop}
use Rattle.spiel_efg.specs.ReadingLines.{head_at, node_behind}
use Rattle.spiel_efg.specs.ReadingNodes.{go_on, one_tree, with_node}
use Rattle.spiel_efg.specs.declared.parts.EfgParts.{EfgParts}
use Rattle.spiel_efg.specs.declared.read_fault.EfgFault.{EfgFault}
use Rattle.spiel_efg.specs.declared.read_fault.EfgFault.TheVariants.{Token as UnclosedToken, TooLarge, PayTooFine, NoMemory}
use Rattle.spiel_efg.specs.declared.read_mentions.Begins.{Begins}
use Rattle.spiel_efg.specs.declared.read_mentions.Head.{Head}
use Rattle.spiel_efg.specs.declared.read_nodes.Grown.{Grown}

-- ---- nodes
-- so many moves stand above the node that comes next, the first of the list being the nearest node
abbrev pub is_too_deep : List ℕ → Bool
is_too_deep to_come = nat_lt (suc most_moves) (length to_come)

-- a node may not begin
abbrev pub too_large : {A : Type 0} → Begins → Rest → Result A EfgFault
too_large begin rest = Err TooLarge

-- the word that a node begins with, where the node isn't too deep
abbrev pub begun_at : Grown → Rest → Read Begins
begun_at grown rest = and_then (λ begin left. if is_too_deep grown.to_come then Err TooLarge else Ok (begin, left)) (begins_at rest)

abbrev pub with_mention : Grown → Rest → Result Grown EfgFault → Read Grown
with_mention grown left (Ok more) = Ok (more, left)
with_mention grown left (Err fault) = Err fault

-- what has grown after the next node
unfoldable pub node_at : ℕ → Grown → Rest → Read Grown
node_at players grown rest =
    and_then (λ begin inner. and_then (λ mention left. with_mention grown left (with_node grown mention)) (node_behind players begin inner)) (begun_at grown rest)

-- no subtree is to come
abbrev pub is_whole : List ℕ → Bool
is_whole [] = true
is_whole (count ∷ to_come) = false

-- what has grown when the tree is whole, of which so many nodes more may come
unfoldable pub tree_at : ℕ → ℕ → Grown → Rest → Read Grown
tree_at zero players grown rest = if is_whole grown.to_come then Ok (grown, rest) else and_then too_large (begins_at rest)
tree_at (suc more) players grown rest = if is_whole grown.to_come then Ok (grown, rest) else and_then (tree_at more players) (node_at players grown rest)

-- ---- the file
abbrev pub seed : Grown
seed = record { sets = []; outcomes = []; nodes = []; to_come = one_tree }

abbrev pub parts_with : Head → Grown → EfgParts
parts_with head grown = record {
  title = head.title;
  players = head.players;
  comment = head.comment;
  sets = grown.sets;
  outcomes = grown.outcomes;
  nodes = grown.nodes;
}

-- nothing stands behind the tree
abbrev pub ended : {A : Type 0} → A → List Mark → Rest → Result A EfgFault
ended found [] rest = Ok found
ended found (mark ∷ marks) rest = stop rest

-- the tree behind the head
abbrev pub behind_head : Head → Rest → Result EfgParts EfgFault
behind_head head rest = and_then (λ grown left. ended (parts_with head grown) left.marks left) (tree_at most_nodes (length head.players) seed rest)

-- the parts that the tokens give
unfoldable pub parts_at : Rest → Result EfgParts EfgFault
parts_at rest = and_then behind_head (head_at rest)

abbrev pub with_tokens : List ℕ → Result (List Token) TokenFault → Result EfgParts EfgFault
with_tokens bytes (Ok tokens) = parts_at (rest_from bytes tokens 0)
with_tokens bytes (Err (Unclosed at)) = Err (UnclosedToken at)
with_tokens bytes (Err NoMemoryForTokens) = Err NoMemory

-- the parts that a file gives, or the first thing that is wrong with it: an unclosed text comes before
-- all else
unfoldable pub parts_of_file : List ℕ → Result EfgParts EfgFault
parts_of_file bytes = with_tokens bytes (file_tokens bytes)

-- the parts of a game, unless payoffs are too fine
abbrev pub fine_parts : EfgParts → Result EfgParts EfgFault
fine_parts parts = if are_pays_fine parts then Ok parts else Err PayTooFine

-- the parts of the game that a file gives: the sizes of payoffs are tested behind all else
unfoldable pub game_of_file : List ℕ → Result EfgParts EfgFault
game_of_file bytes = go_on fine_parts (parts_of_file bytes)
