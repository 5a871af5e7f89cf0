-- The numbers that lead to a row.
use Rattle.std.proofs.Common.{◌≡◌, ℕ, suc, ◌<◌, List, [], ◌∷◌, ◌++◌, length, map, Option, Some, None, ap, subst, ◌∙◌, arith}
use Rattle.std.specs.Prelude.{All, slice_index, slice_index_or}
use Rattle.std.proofs.lemmas.List.{map-append}
use Rattle.spiel_tree.specs.declared.flat.FlatRow.{FlatRow}
use Rattle.spiel_tree.specs.declared.flat.Rows.{Rows}
use Rattle.spiel_tree.specs.Rows.{Step, taken, history_of, way_on}
use Rattle.spiel_tree.specs.Flat.{row_at, rows_of, way_to, IsBefore, IsBuilt, StepsWithin}
use Rattle.spiel_tree.proofs.Growing.{rows_length}
use Rattle.spiel_tree.proofs.Reading.{no_flat, flat_row, same_read}

-- the numbers of a row stand in their column
pub numbers_there : (t : Rows) (k : ℕ) → IsBuilt t → k < length (rows_of t) → (row_at (rows_of t) k).here.numbers ≡ slice_index_or t.numbers k []
numbers_there t k is l =
    let below : k < length t.flat = omega (arith, l, rows_length t is) in
    (flat_row t k (slice_index_or t.flat k no_flat) is below (same_read t.flat k no_flat (slice_index_or t.flat k no_flat) below)).numbers

pub last_step : (way : List Step) (step : Step) → All (λ s. s.index < length s.at.numbers) (way ++ step ∷ []) → step.index < length step.at.numbers
last_step [] step all = all 0 step (omega arith)
last_step (s ∷ way) step all = last_step way step (λ k d l. all (suc k) d (omega arith))

-- behind the history of its parent a row's has one number
pub record IsBehind (t : Rows) (k parent index : ℕ) : Type 0 where
  pub before : parent < k
  pub within : index < length (row_at (rows_of t) parent).here.numbers
  pub history : history_of (row_at (rows_of t) k) ≡ history_of (row_at (rows_of t) parent) ++ slice_index (row_at (rows_of t) parent).here.numbers index ∷ []

pub behind : (t : Rows) (k parent : ℕ) (flat : FlatRow) → IsBuilt t → StepsWithin (rows_of t) → k < length (rows_of t) → flat ≡ slice_index_or t.flat k flat → flat.parent ≡ Some parent → IsBehind t k parent flat.step
behind t k parent flat built steps l e some =
    let rows = rows_of t in
    let is = flat_row t k flat built (omega (arith, l, rows_length t built)) e in
    let before : parent < k = subst (λ (p : Option ℕ). IsBefore p k) some is.before in
    let way : (row_at rows k).way ≡ way_on (row_at rows parent) flat.step = is.way ∙ ap (λ (p : Option ℕ). way_to rows p flat.step) some in
    let all : All (λ s. s.index < length s.at.numbers) (way_on (row_at rows parent) flat.step) = subst (All (λ s. s.index < length s.at.numbers)) way (steps k l) in
    record {
      before = before;
      within = last_step (row_at rows parent).way (record { at = (row_at rows parent).here; index = flat.step }) all;
      history = ap (map taken) way ∙ map-append taken (row_at rows parent).way (record { at = (row_at rows parent).here; index = flat.step } ∷ []);
    }

-- the first row has no number
pub root : (t : Rows) (k : ℕ) (flat : FlatRow) → IsBuilt t → k < length (rows_of t) → flat ≡ slice_index_or t.flat k flat → flat.parent ≡ None → history_of (row_at (rows_of t) k) ≡ []
root t k flat built l e none =
    let is = flat_row t k flat built (omega (arith, l, rows_length t built)) e in
    ap (map taken) (is.way ∙ ap (λ (p : Option ℕ). way_to (rows_of t) p flat.step) none)
