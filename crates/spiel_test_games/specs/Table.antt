-- Games that are given as tables of nodes.
use Rattle.std.specs.Prelude.{ℕ, ◌^◌, ℤ, pos, Bool, true, false, ◌&&◌, nat_le, nat_lt, ◌==◌, List, [], length, slice_index_or, codes, Option, Some, None}
use Rattle.std.specs.List.{fold, list_all, range_with_len, slice_get}
use Rattle.spiel_api.specs.declared.place.Place.{Place}
use Rattle.spiel_api.specs.declared.place.Place.TheVariants.{End, Chance, Move}
use Rattle.spiel_api.specs.Rules.{Rules}
use Rattle.spiel_test_games.specs.declared.node.Node.{Node}
use Rattle.spiel_test_games.specs.declared.node.Node.TheVariants.{Chance as Draw, Decision, Terminal}
use Rattle.spiel_test_games.specs.Node.{entry_after, is_node, weights_in}

-- ---- the node at which a play stands
abbrev pub node_in : List Node → Option ℕ → Option Node
node_in nodes None = None
node_in nodes (Some entry) = slice_get nodes entry

-- the node to which a number leads
abbrev pub next_node : List Node → Option Node → ℕ → Option Node
next_node nodes None a = None
next_node nodes (Some node) a = node_in nodes (entry_after node a)

-- the node to which numbers lead from the first one
abbrev pub node_after : List Node → List ℕ → Option Node
node_after nodes h = fold (next_node nodes) (node_in nodes (Some 0)) h

abbrev pub node_if : Bool → Option Node → Option Node
node_if true found = found
node_if false found = None

-- a play ends with its 4,096th number
abbrev pub node_at : List Node → List ℕ → Option Node
node_at nodes h = node_if (nat_lt (length h) 4096) (node_after nodes h)

-- ---- what a node says
-- where no node is, the play is over
abbrev pub place_of : Option Node → Place
place_of None = End
place_of (Some (Draw outcomes)) = Chance
place_of (Some (Decision mover seen entries)) = Move mover
place_of (Some (Terminal pays)) = End

-- the numbers of a node, from 0 on, for those who have them
abbrev pub numbers_if : Bool → ℕ → List ℕ
numbers_if false count = []
numbers_if true count = range_with_len 0 count

abbrev pub numbers_of : Option Node → ℕ → List ℕ
numbers_of None p = []
numbers_of (Some (Draw outcomes)) p = numbers_if true (length outcomes.now)
numbers_of (Some (Decision mover seen entries)) p = numbers_if (mover == p) (length entries.now)
numbers_of (Some (Terminal pays)) p = []

abbrev pub weights_of : Option Node → List ℕ
weights_of None = []
weights_of (Some (Draw outcomes)) = weights_in outcomes.now
weights_of (Some (Decision mover seen entries)) = []
weights_of (Some (Terminal pays)) = []

-- what the mover sees
abbrev pub seen_at : Option Node → List ℕ
seen_at None = []
seen_at (Some (Draw outcomes)) = []
seen_at (Some (Decision mover seen entries)) = seen.now
seen_at (Some (Terminal pays)) = []

-- a player gets what is given, or nothing
abbrev pub pay_of : Option Node → ℕ → ℤ
pay_of None p = pos 0
pay_of (Some (Draw outcomes)) p = pos 0
pay_of (Some (Decision mover seen entries)) p = pos 0
pay_of (Some (Terminal pays)) p = slice_index_or pays.now p (pos 0)

abbrev pub table_rules : ℕ → ℕ → List Node → Rules
table_rules players unit nodes = record {
  players = players;
  unit = unit;
  cap = 2 ^ 62;
  one_shot = false;
  place = λ h. place_of (node_at nodes h);
  legal = λ h p. numbers_of (node_at nodes h) p;
  weights = λ h. weights_of (node_at nodes h);
  info = λ h p. seen_at (node_at nodes h);
  name = λ h p a. codes "go";
  pay = λ h p. pay_of (node_at nodes h) p;
}

-- ---- which tables make a game
abbrev pub is_table : ℕ → ℕ → List Node → Bool
is_table players unit nodes = nat_le 1 players && (nat_le players 64 && (nat_le 1 unit && (nat_le unit (2 ^ 62) && list_all (λ node. is_node players node) nodes)))
