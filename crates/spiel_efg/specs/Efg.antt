-- Extensive games: a tree of moves of chance and of players, with information sets and outcomes (Kuhn 1953; Gambit's
-- extensive form games). A history is the number of an action at each node of a path, counted from 0.
use Rattle.std.specs.Prelude.{ℕ, pos, List, [], ◌∷◌, ◌++◌, length, slice_index_or, codes, unwrap_or}
use Rattle.std.specs.List.{range_with_len}
use Rattle.std.specs.Fmt.{decimal}
use Rattle.spiel_api.specs.declared.place.Place.{Place}
use Rattle.spiel_api.specs.declared.place.Place.TheVariants.{End, Chance as ChancePlace, Move}
use Rattle.spiel_api.specs.Rules.{Rules}
use Rattle.spiel_api.specs.Turns.{Turns, turn_rules}
use Rattle.spiel_matrix.specs.Names.{strategy_name}
use Rattle.spiel_efg.specs.declared.parts.EfgAction.{EfgAction}
use Rattle.spiel_efg.specs.declared.parts.EfgSet.{EfgSet}
use Rattle.spiel_efg.specs.declared.parts.EfgNode.{EfgNode}
use Rattle.spiel_efg.specs.declared.parts.EfgParts.{EfgParts}
use Rattle.spiel_efg.specs.declared.parts.NodeKind.{NodeKind}
use Rattle.spiel_efg.specs.declared.parts.NodeKind.TheVariants.{Chance, Personal, Terminal}
use Rattle.spiel_efg.specs.Sets.{action_count, probabilities, set_at, whole_weights}
use Rattle.spiel_efg.specs.Tree.{nodes_after, subtrees}
use Rattle.spiel_efg.specs.EfgPays.{efg_cap, efg_unit, own_pay, pay_along}

-- ---- the node of a history
-- what happens at the first of these nodes
abbrev pub first_kind : List EfgNode → NodeKind
first_kind [] = Terminal
first_kind (node ∷ nodes) = node.kind

abbrev pub kind_after : EfgParts → List ℕ → NodeKind
kind_after parts h = first_kind (nodes_after (subtrees parts.sets) parts.nodes h)

-- ---- what a node says
-- who moves at a set
abbrev pub mover_at : List EfgSet → ℕ → ℕ
mover_at sets place = unwrap_or (set_at sets place).player 0

abbrev pub kind_place : List EfgSet → NodeKind → Place
kind_place sets (Chance place) = ChancePlace
kind_place sets (Personal place) = Move (mover_at sets place)
kind_place sets Terminal = End

-- the numbers of the actions
abbrev pub kind_numbers : List EfgSet → NodeKind → List ℕ
kind_numbers sets kind = range_with_len 0 (action_count sets kind)

abbrev pub kind_weights : List EfgSet → NodeKind → List ℕ
kind_weights sets (Chance place) = whole_weights (probabilities (set_at sets place).actions)
kind_weights sets (Personal place) = []
kind_weights sets Terminal = []

-- whoever moves sees the number of the set
abbrev pub set_text : ℕ → List ℕ
set_text number = codes "set " ++ decimal number

abbrev pub kind_info : List EfgSet → NodeKind → List ℕ
kind_info sets (Chance place) = []
kind_info sets (Personal place) = set_text (set_at sets place).number
kind_info sets Terminal = []

-- what stands where no action is
abbrev pub no_action : EfgAction
no_action = record { name = []; weight = record { num = pos 0; den = 1 } }

-- the printed form of an action's name
abbrev pub action_text : List EfgAction → ℕ → List ℕ
action_text actions a = strategy_name (slice_index_or actions a no_action).name a

abbrev pub kind_name : List EfgSet → NodeKind → ℕ → List ℕ
kind_name sets (Chance place) a = action_text (set_at sets place).actions a
kind_name sets (Personal place) a = action_text (set_at sets place).actions a
kind_name sets Terminal a = []

-- ---- the game
-- a return is the sum of the payoffs on the path
abbrev pub efg_turns : EfgParts → Turns
efg_turns parts = record {
  players = length parts.players;
  unit = efg_unit parts;
  cap = efg_cap parts;
  place = λ h. kind_place parts.sets (kind_after parts h);
  numbers = λ h. kind_numbers parts.sets (kind_after parts h);
  weights = λ h. kind_weights parts.sets (kind_after parts h);
  info = λ h p. kind_info parts.sets (kind_after parts h);
  name = λ h p a. kind_name parts.sets (kind_after parts h) a;
  pay = λ h p. pay_along (subtrees parts.sets) (own_pay parts p) parts.nodes h;
}

abbrev pub efg_rules : EfgParts → Rules
efg_rules parts = turn_rules (efg_turns parts)
