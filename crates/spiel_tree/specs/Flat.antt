-- Flat rows, read as rows that know their ways.
use Rattle.std.specs.Prelude.{◌≡◌, ℕ, suc, ◌<◌, ◌==◌, Bool, false, cond, List, [], ◌∷◌, ◌++◌, length, slice_index_or, slice_set, All, Option, Some, None, ℤ}
use Rattle.spiel_api.specs.declared.place.Place.{Place}
use Rattle.spiel_api.specs.declared.place.Place.TheVariants.{End, Chance, Move, Joint}
use Rattle.spiel_tree.specs.FirstSeen.{with_text, place_of_text, text_at, first_seen, IsNumberIn}
use Rattle.spiel_tree.specs.Rows.{Node, Row, Step, way_on}
use Rattle.spiel_tree.specs.declared.flat.FlatRow.{FlatRow}
use Rattle.spiel_tree.specs.declared.flat.Rows.{Rows}

-- a flat row with the lists that are kept apart from it
pub record Cell : Type 0 where
  pub row : FlatRow
  pub numbers : List ℕ
  pub weights : List ℕ
  pub pays : List ℤ

abbrev pub cells : List FlatRow → List (List ℕ) → List (List ℕ) → List (List ℤ) → List Cell
cells (row ∷ rows) (n ∷ numbers) (w ∷ weights) (p ∷ pays) = record { row = row; numbers = n; weights = w; pays = p } ∷ cells rows numbers weights pays
cells rows numbers weights pays = []

-- ---- the texts of each player
abbrev pub texts_of : List (List (List ℕ)) → ℕ → List (List ℕ)
texts_of texts p = slice_index_or texts p []

-- the text with a number, at a move
abbrev pub info_in : List (List (List ℕ)) → Place → ℕ → List ℕ
info_in texts End n = []
info_in texts Chance n = []
info_in texts (Move p) n = text_at (texts_of texts p) n
info_in texts (Joint p) n = []

-- the texts after one more that a mover sees
abbrev pub texts_with : List (List (List ℕ)) → Place → List ℕ → List (List (List ℕ))
texts_with texts End info = texts
texts_with texts Chance info = texts
texts_with texts (Move p) info = slice_set texts p (with_text (texts_of texts p) info)
texts_with texts (Joint p) info = texts

-- its number
abbrev pub number_with : List (List (List ℕ)) → Place → List ℕ → ℕ
number_with texts End info = 0
number_with texts Chance info = 0
number_with texts (Move p) info = place_of_text (texts_of texts p) info
number_with texts (Joint p) info = 0

-- a text that only a mover sees
abbrev pub shown : Place → List ℕ → List ℕ
shown End info = []
shown Chance info = []
shown (Move p) info = info
shown (Joint p) info = []

abbrev pub IsMoverBelow : ℕ → Place → Type 0
IsMoverBelow n End = Unit {0}
IsMoverBelow n Chance = Unit {0}
IsMoverBelow n (Move p) = p < n
IsMoverBelow n (Joint p) = Unit {0}

-- ---- the rows
abbrev pub node_in : List (List (List ℕ)) → Cell → Node
node_in texts cell = record {
  place = cell.row.place;
  info = info_in texts cell.row.place cell.row.text;
  numbers = cell.numbers;
  weights = cell.weights;
  pays = cell.pays;
}

abbrev pub no_node : Node
no_node = record { place = End; info = []; numbers = []; weights = []; pays = [] }

abbrev pub no_row : Row
no_row = record { way = []; here = no_node }

abbrev pub row_at : List Row → ℕ → Row
row_at rows k = slice_index_or rows k no_row

-- the way to a row, whose parent is one of the rows
abbrev pub way_to : List Row → Option ℕ → ℕ → List Step
way_to rows None step = []
way_to rows (Some parent) step = way_on (row_at rows parent) step

abbrev pub row_in : List (List (List ℕ)) → List Row → Cell → Row
row_in texts rows cell = record { way = way_to rows cell.row.parent cell.row.step; here = node_in texts cell }

abbrev pub rows_after : List (List (List ℕ)) → List Row → List Cell → List Row
rows_after texts done [] = done
rows_after texts done (cell ∷ rest) = rows_after texts (done ++ row_in texts done cell ∷ []) rest

abbrev pub cells_of : Rows → List Cell
cells_of t = cells t.flat t.numbers t.weights t.pays

-- the rows, each with its way
abbrev pub rows_of : Rows → List Row
rows_of t = rows_after t.texts.items [] (cells_of t)

-- ---- what holds of them
abbrev pub moves : ℕ → Place → Bool
moves p End = false
moves p Chance = false
moves p (Move q) = p == q
moves p (Joint q) = false

-- the texts of a player, in order
abbrev pub infos : ℕ → List Row → List (List ℕ)
infos p [] = []
infos p (row ∷ rows) = cond (moves p row.here.place) (row.here.info ∷ infos p rows) (infos p rows)

abbrev pub HasNumber : List (List (List ℕ)) → Place → ℕ → Type 0
HasNumber texts End n = Unit {0}
HasNumber texts Chance n = Unit {0}
HasNumber texts (Move p) n = IsNumberIn (texts_of texts p) n
HasNumber texts (Joint p) n = Unit {0}

abbrev pub AreNumbers : List (List (List ℕ)) → List Cell → Type 0
AreNumbers texts [] = Unit {0}
AreNumbers texts (cell ∷ rest) = HasNumber texts cell.row.place cell.row.text × AreNumbers texts rest

abbrev pub IsBefore : Option ℕ → ℕ → Type 0
IsBefore None k = k ≡ 0
IsBefore (Some parent) k = parent < k

-- each row but the first has a parent, which stands before it
abbrev pub ParentsBefore : ℕ → List Cell → Type 0
ParentsBefore k [] = Unit {0}
ParentsBefore k (cell ∷ rest) = IsBefore cell.row.parent k × ParentsBefore (suc k) rest

-- The columns are equally long, each row but the first has a parent before it, each row of a mover has the
-- number of its text, and the texts of each player are those of the rows, each once, in the order in
-- which they are first seen.
pub record IsBuilt (t : Rows) : Type 0 where
  pub numbers_even : length t.numbers ≡ length t.flat
  pub weights_even : length t.weights ≡ length t.flat
  pub pays_even : length t.pays ≡ length t.flat
  pub parents : ParentsBefore 0 (cells_of t)
  pub numbered : AreNumbers t.texts.items (cells_of t)
  pub texts : (p : ℕ) → p < length t.texts.items → texts_of t.texts.items p ≡ first_seen [] (infos p (rows_of t))

-- rows were added
pub record AddsRows (old new : Rows) (rows : List Row) : Type 0 where
  pub rows_are : rows_of new ≡ rows_of old ++ rows
  pub built : IsBuilt new
  pub players : length new.texts.items ≡ length old.texts.items

-- each step of a way took one of the numbers that were legal there
abbrev pub StepsWithin : List Row → Type 0
StepsWithin rows = (k : ℕ) → k < length rows → All (λ step. step.index < length step.at.numbers) (row_at rows k).way
