-- The rows of a tree, as its columns keep them.
use Rattle.std.proofs.Common.{◌≡◌, ℕ, ◌<◌, List, [], ◌∷◌, ◌++◌, length, Option, Some, None, refl, ap, sym, subst, ◌∙◌, arith}
use Rattle.std.specs.Prelude.{All, slice_index, slice_index_or, IfSome}
use Rattle.spiel_tree.specs.declared.flat.Rows.{Rows}
use Rattle.spiel_tree.specs.Rows.{Row, Step, way_on}
use Rattle.spiel_tree.specs.Flat.{IsBefore, StepsWithin, row_at, way_to}
use Rattle.spiel_tree.specs.Trees.{IsParent, IsTree, Whole, last_index}
use Rattle.spiel_tree.proofs.Growing.{rows_length}
use Rattle.spiel_tree.proofs.Reading.{flat_row, no_flat, same_read}
use Rattle.spiel_tree.specs.States.{first_row, state_at, states_below}
use Rattle.spiel_tree.proofs.FirstRows.{first_row_there}
use Rattle.spiel_tree.proofs.OfGame.{IsSoundRow, sound_rows, tree_steps}
use Rattle.spiel_tree.proofs.WayHistory.{last_step}

-- what the columns say of a row
pub record IsTreeRow (tree : Whole) (flat : Rows) (k : ℕ) : Type 0 where
  pub within : k < length flat.flat
  pub place : (row_at tree.rows k).here.place ≡ (slice_index_or flat.flat k no_flat).place
  pub way : (row_at tree.rows k).way ≡ way_to tree.rows (slice_index_or flat.flat k no_flat).parent (slice_index_or flat.flat k no_flat).step
  pub before : IsBefore (slice_index_or flat.flat k no_flat).parent k
  pub taken : IfSome (slice_index_or flat.flat k no_flat).parent (λ q. (slice_index_or flat.flat k no_flat).step < length (row_at tree.rows q).here.numbers)
  pub numbers : (row_at tree.rows k).here.numbers ≡ slice_index_or flat.numbers k []
  pub weights : (row_at tree.rows k).here.weights ≡ slice_index_or flat.weights k []
  pub pays : (row_at tree.rows k).here.pays ≡ slice_index_or flat.pays k []
  pub numbers_within : k < length flat.numbers
  pub weights_within : k < length flat.weights
  pub pays_within : k < length flat.pays
  pub sound : IsSoundRow tree.players (row_at tree.rows k)

-- the step to a row took one of the numbers of its parent
step_taken : (rows : List Row) (parent : Option ℕ) (step k : ℕ) → StepsWithin rows → k < length rows → (row_at rows k).way ≡ way_to rows parent step
    → IfSome parent (λ q. step < length (row_at rows q).here.numbers)
step_taken rows None step k steps l way = tt
step_taken rows (Some q) step k steps l way =
    last_step (row_at rows q).way (record { at = (row_at rows q).here; index = step }) (subst (All (λ s. s.index < length s.at.numbers)) way (steps k l))

row_is : (tree : Whole) (flat : Rows) (starts firsts : List ℕ) (k : ℕ) → IsTree tree flat starts firsts → k < length tree.rows → IsTreeRow tree flat k
row_is tree flat starts firsts k is l =
    let built = is.built in
    let low : k < length flat.flat = omega (arith, l, rows_length flat built, ap length is.rows) in
    let r = flat_row flat k (slice_index_or flat.flat k no_flat) built low (same_read flat.flat k no_flat (slice_index_or flat.flat k no_flat) low) in
    let way : (row_at tree.rows k).way ≡ way_to tree.rows (slice_index_or flat.flat k no_flat).parent (slice_index_or flat.flat k no_flat).step =
    ap (λ (rows : List Row). (row_at rows k).way) (sym is.rows) ∙ r.way ∙ ap (λ (rows : List Row). way_to rows (slice_index_or flat.flat k no_flat).parent (slice_index_or flat.flat k no_flat).step) is.rows in
    record {
      within = low;
      place = ap (λ (rows : List Row). (row_at rows k).here.place) (sym is.rows) ∙ r.place;
      way = way;
      before = r.before;
      taken = step_taken tree.rows (slice_index_or flat.flat k no_flat).parent (slice_index_or flat.flat k no_flat).step k (tree_steps tree is.game) l way;
      numbers = ap (λ (rows : List Row). (row_at rows k).here.numbers) (sym is.rows) ∙ r.numbers;
      weights = ap (λ (rows : List Row). (row_at rows k).here.weights) (sym is.rows) ∙ r.weights;
      pays = ap (λ (rows : List Row). (row_at rows k).here.pays) (sym is.rows) ∙ r.pays;
      numbers_within = omega (arith, low, built.numbers_even);
      weights_within = omega (arith, low, built.weights_even);
      pays_within = omega (arith, low, built.pays_even);
      sound = sound_rows tree is.game k l;
    }

-- the same of a tree that is seen so
pub tree_row : (seen tree : Whole) (flat : Rows) (starts firsts : List ℕ) (k : ℕ) → IsTree seen flat starts firsts → seen ≡ tree → k < length tree.rows → IsTreeRow tree flat k
tree_row seen tree flat starts firsts k is e l = row_is tree flat starts firsts k (subst (λ (t : Whole). IsTree t flat starts firsts) e is) l

last_pushed : (way : List Step) (step : Step) → last_index (way ++ step ∷ []) ≡ step.index
last_pushed [] step = refl
last_pushed (a ∷ []) step = refl
last_pushed (a ∷ b ∷ way) step = last_pushed (b ∷ way) step

-- the last index of the way behind a parent
pub last_of_way : (rows : List Row) (parent : Option ℕ) (step k : ℕ) → IsBefore parent k → 0 < k → last_index (way_to rows parent step) ≡ step
last_of_way rows None step k before l = absurd (omega (arith, before, l))
last_of_way rows (Some q) step k before l = last_pushed (row_at rows q).way (record { at = (row_at rows q).here; index = step })

pub parent_is : (rows : List Row) (parent : Option ℕ) (step k : ℕ) → IsBefore parent k → (row_at rows k).way ≡ way_to rows parent step
    → IfSome parent (λ q. step < length (row_at rows q).here.numbers) → IfSome parent (λ q. IsParent rows q k)
parent_is rows None step k before way within = tt
parent_is rows (Some q) step k before way within =
    let last : last_index (row_at rows k).way ≡ step = ap last_index way ∙ last_pushed (row_at rows q).way (record { at = (row_at rows q).here; index = step }) in
    record {
      before = before;
      way = way ∙ ap (λ (i : ℕ). way_on (row_at rows q) i) (sym last);
      index = omega (arith, last, within);
    }

-- the first row of an information state is one of the rows
pub first_within_tree : (seen tree : Whole) (flat : Rows) (starts firsts : List ℕ) (s k : ℕ) → IsTree seen flat starts firsts → seen ≡ tree
    → s < length (states_below tree.players tree.rows) → k ≡ slice_index_or firsts s k → k < length tree.rows
first_within_tree seen tree flat starts firsts s k is e l read =
    let is : IsTree tree flat starts firsts = subst (λ (t : Whole). IsTree t flat starts firsts) e is in
    let first : slice_index firsts s ≡ first_row (state_at tree.players tree.rows s).player (state_at tree.players tree.rows s).text tree.rows = is.firsts_are.each s l in
    let same : k ≡ slice_index firsts s = read ∙ same_read firsts s k 0 (omega (arith, l, is.firsts_are.count)) in
    omega (arith, first, same, first_row_there tree.players tree.rows s l)
