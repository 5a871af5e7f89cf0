-- What stands at a history of a game that is given as a table, and which nodes a table may have.
use Rattle.std.specs.Prelude.{ℕ, ◌^◌, ℤ, nat_abs, Bool, ◌&&◌, nat_le, nat_lt, List, length, map, sum, Option, Some, None}
use Rattle.std.specs.List.{list_all, slice_get}
use Rattle.spiel_test_games.specs.declared.node.Node.{Node}
use Rattle.spiel_test_games.specs.declared.node.Node.TheVariants.{Chance as Draw, Decision, Terminal}

-- an outcome of chance: its weight, and the entry of the node to which it leads
abbrev pub Outcome : Type 0
Outcome = ℕ × ℕ

abbrev pub weights_in : List Outcome → List ℕ
weights_in outcomes = map (λ outcome. outcome.0) outcomes

abbrev pub entry_of : Option Outcome → Option ℕ
entry_of None = None
entry_of (Some outcome) = Some outcome.1

-- where in the table a number leads
abbrev pub entry_after : Node → ℕ → Option ℕ
entry_after (Draw outcomes) a = entry_of (slice_get outcomes.now a)
entry_after (Decision mover seen entries) a = slice_get entries.now a
entry_after (Terminal pays) a = None

-- ---- which nodes a table may have
-- the sum of all weights of a chance node
abbrev pub is_total : ℕ → Bool
is_total total = nat_le 1 total && nat_le total (2 ^ 62)

abbrev pub are_outcomes : List Outcome → Bool
are_outcomes outcomes = nat_le (length outcomes) (2 ^ 20) && is_total (sum (weights_in outcomes))

-- a byte of printable ASCII
abbrev pub is_printed : ℕ → Bool
is_printed byte = nat_le 32 byte && nat_le byte 126

-- a text that can be printed, of at most 32,768 bytes
abbrev pub is_printable : List ℕ → Bool
is_printable text = nat_le (length text) 32768 && list_all is_printed text

-- a player has one number at least
abbrev pub is_decision : ℕ → ℕ → List ℕ → List ℕ → Bool
is_decision players mover seen entries = nat_lt mover players && (is_printable seen && (nat_le 1 (length entries) && nat_le (length entries) (2 ^ 20)))

abbrev pub are_pays : List ℤ → Bool
are_pays pays = list_all (λ pay. nat_le (nat_abs pay) (2 ^ 62)) pays

-- a node of a game of so many players
abbrev pub is_node : ℕ → Node → Bool
is_node players (Draw outcomes) = are_outcomes outcomes.now
is_node players (Decision mover seen entries) = is_decision players mover seen.now entries.now
is_node players (Terminal pays) = are_pays pays.now
