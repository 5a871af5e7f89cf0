-- The tree of a game: what is told of it, and what is wrong with one.
use Rattle.std.specs.Prelude.{◌≡◌, ℕ, ◌<◌, ◌≤◌, ℤ, pos, List, [], ◌∷◌, length, Option, Some, nat_lt, if◌then◌else◌, ⊤}
use Rattle.std.specs.Option.{option_map}
use Rattle.spiel_api.specs.Rules.{Rules}
use Rattle.spiel_api.specs.Laws.{IsLawful}
use Rattle.spiel_tree.specs.Rows.{Row, Step, history_of, rows, way_on}
use Rattle.spiel_tree.specs.Flat.{IsBuilt, row_at, rows_of}
use Rattle.spiel_tree.specs.States.{AreFirsts, AreStarts}
use Rattle.spiel_tree.specs.Faults.{IsFaultless, IsFirst, first_fault}
use Rattle.spiel_tree.specs.declared.flat.Rows.{Rows}
use Rattle.spiel_tree.specs.declared.faults.Fault.{Fault}
use Rattle.spiel_tree.specs.declared.faults.Fault.TheVariants as by_rows
use Rattle.spiel_tree.specs.declared.tree.TreeFault.{TreeFault}
use Rattle.spiel_tree.specs.declared.tree.TreeFault.TheVariants as told

-- what a tree tells
pub record Whole : Type 0 where
  -- a return is counted in parts of 1/unit
  pub unit : ℤ
  pub players : ℕ
  -- all histories in preorder
  pub rows : List Row

abbrev pub tree_of : Rules → Whole
tree_of rules = record { unit = pos rules.unit; players = rules.players; rows = rows rules }

-- the tree of a lawful game, with at most 1,048,576 histories and no fault
pub record IsGameTree (tree : Whole) : Type 0 where
  pub rules : Rules
  pub lawful : IsLawful rules
  pub is : tree ≡ tree_of rules
  pub few : length tree.rows ≤ 1048576
  pub faultless : IsFaultless tree.rows

-- the columns are those of this tree
pub record IsTree (tree : Whole) (flat : Rows) (starts firsts : List ℕ) : Type 0 where
  pub built : IsBuilt flat
  pub players : length flat.texts.items ≡ tree.players
  pub rows : rows_of flat ≡ tree.rows
  pub game : IsGameTree tree
  pub starts_are : AreStarts tree.players tree.rows starts
  pub firsts_are : AreFirsts tree.players tree.rows firsts

-- a fault of rows, told by histories
abbrev pub fault_told : List Row → Fault → TreeFault
fault_told rows (by_rows.Simultaneous k) = told.Simultaneous (history_of (row_at rows k))
fault_told rows (by_rows.Recall p f k) = told.Recall p (history_of (row_at rows f)) (history_of (row_at rows k))
fault_told rows (by_rows.Actions p f k) = told.Actions p (history_of (row_at rows f)) (history_of (row_at rows k))

-- the first row with a fault decides, where there aren't too many
pub record IsTold (rules : Rules) (limit : ℕ) (fault : TreeFault) : Type 0 where
  pub few : length (rows rules) ≤ limit
  pub by : Fault
  pub first : IsFirst (rows rules) by
  pub told : fault ≡ fault_told (rows rules) by

-- why a game has no tree
abbrev pub IsFault : Rules → ℕ → TreeFault → Type 0
IsFault rules limit (told.TooMany most) = (most ≡ limit) × (limit < length (rows rules))
IsFault rules limit told.NoMemory = ⊤
IsFault rules limit fault = IsTold rules limit fault

-- why a game has no tree, as a function that computes: too many histories come before all else
unfoldable pub tree_fault : Rules → ℕ → Option TreeFault
tree_fault rules limit = if nat_lt limit (length (rows rules)) then Some (told.TooMany limit) else option_map (fault_told (rows rules)) (first_fault (rows rules))

-- the fault is the one that was computed, unless memory ran out
abbrev pub IsComputed : Option TreeFault → TreeFault → Type 0
IsComputed computed told.NoMemory = ⊤
IsComputed computed fault = computed ≡ Some fault

-- ---- ways
-- the last index of a way
abbrev pub last_index : List Step → ℕ
last_index [] = 0
last_index (step ∷ []) = step.index
last_index (step ∷ next ∷ way) = last_index (next ∷ way)

-- a row is another's parent: one step leads from it to the other
pub record IsParent (rows : List Row) (parent row : ℕ) : Type 0 where
  pub before : parent < row
  pub way : (row_at rows row).way ≡ way_on (row_at rows parent) (last_index (row_at rows row).way)
  pub index : last_index (row_at rows row).way < length (row_at rows parent).here.numbers
