-- What is read of flat rows.
use Rattle.std.proofs.Common.{◌≡◌, ℕ, zero, suc, ◌+◌, ◌<◌, List, [], ◌∷◌, ◌++◌, length, Option, Some, None, refl, ap, sym, subst, ◌∙◌, arith, length-append}
use Rattle.std.specs.Prelude.{ℤ, slice_index_or}
use Rattle.spiel_api.specs.declared.place.Place.TheVariants.{End}
use Rattle.spiel_tree.specs.declared.flat.FlatRow.{FlatRow}
use Rattle.spiel_tree.specs.declared.flat.Rows.{Rows}
use Rattle.spiel_tree.specs.Rows.{Row}
use Rattle.spiel_tree.specs.Flat.{Cell, cells, cells_of, row_at, row_in, node_in, way_to, rows_after, rows_of, info_in, HasNumber, AreNumbers, IsBefore, ParentsBefore, IsBuilt}
use Rattle.spiel_tree.proofs.Growing.{rows_length}

abbrev pub no_flat : FlatRow
no_flat = record { parent = None; step = 0; place = End; text = 0 }

abbrev no_cell : Cell
no_cell = record { row = no_flat; numbers = []; weights = []; pays = [] }

abbrev cell_at : List Cell → ℕ → Cell
cell_at cs k = slice_index_or cs k no_cell

-- a row that was read, by any default
pub same_read : {X : Type 0} (xs : List X) (k : ℕ) (a b : X) → k < length xs → slice_index_or xs k a ≡ slice_index_or xs k b
same_read [] k a b l = absurd (omega arith)
same_read (x ∷ xs) zero a b l = refl
same_read (x ∷ xs) (suc k) a b l = same_read xs k a b (omega arith)

cell_is : (rows : List FlatRow) (numbers weights : List (List ℕ)) (pays : List (List ℤ)) (k : ℕ) → length numbers ≡ length rows → length weights ≡ length rows → length pays ≡ length rows → k < length rows
    → cell_at (cells rows numbers weights pays) k ≡ record { row = slice_index_or rows k no_flat; numbers = slice_index_or numbers k []; weights = slice_index_or weights k []; pays = slice_index_or pays k [] }
cell_is [] numbers weights pays k a b c l = absurd (omega arith)
cell_is (x ∷ rows) [] weights pays k a b c l = absurd (omega (arith, a))
cell_is (x ∷ rows) (y ∷ numbers) [] pays k a b c l = absurd (omega (arith, b))
cell_is (x ∷ rows) (y ∷ numbers) (z ∷ weights) [] k a b c l = absurd (omega (arith, c))
cell_is (x ∷ rows) (y ∷ numbers) (z ∷ weights) (q ∷ pays) zero a b c l = refl
cell_is (x ∷ rows) (y ∷ numbers) (z ∷ weights) (q ∷ pays) (suc k) a b c l = cell_is rows numbers weights pays k (omega (arith, a)) (omega (arith, b)) (omega (arith, c)) (omega arith)

at_front : (xs ys : List Row) (k : ℕ) → k < length xs → row_at (xs ++ ys) k ≡ row_at xs k
at_front [] ys k l = absurd (omega arith)
at_front (x ∷ xs) ys zero l = refl
at_front (x ∷ xs) ys (suc k) l = at_front xs ys k (omega arith)

at_back : (xs : List Row) (y : Row) (ys : List Row) → row_at (xs ++ y ∷ ys) (length xs) ≡ y
at_back [] y ys = refl
at_back (x ∷ xs) y ys = at_back xs y ys

-- the rows that are done stay at the front
after_front : (texts : List (List (List ℕ))) (done : List Row) (cs : List Cell) (k : ℕ) → k < length done → row_at (rows_after texts done cs) k ≡ row_at done k
after_front texts done [] k l = refl
after_front texts done (c ∷ cs) k l =
    after_front texts (done ++ row_in texts done c ∷ []) cs k (omega (arith, l, length-append done (row_in texts done c ∷ []))) ∙ at_front done (row_in texts done c ∷ []) k l

-- the way to a row, by the rows before it or by more of them
way_same : (some all : List Row) (parent : Option ℕ) (step k : ℕ) → IsBefore parent k → ((q : ℕ) → q < k → row_at some q ≡ row_at all q) → way_to some parent step ≡ way_to all parent step
way_same some all None step k is same = refl
way_same some all (Some q) step k is same = ap (λ (row : Row). Rattle.spiel_tree.specs.Rows.way_on row step) (same q is)

-- each row is that of its cell
after_at : (texts : List (List (List ℕ))) (done : List Row) (cs : List Cell) (k : ℕ) → k < length cs → ParentsBefore (length done) cs
    → row_at (rows_after texts done cs) (length done + k) ≡ record { way = way_to (rows_after texts done cs) (cell_at cs k).row.parent (cell_at cs k).row.step; here = node_in texts (cell_at cs k) }
after_at texts done [] k l are = absurd (omega arith)
after_at texts done (c ∷ cs) zero l are =
    let row = row_in texts done c in
    let longer : length (done ++ row ∷ []) ≡ length done + 1 = length-append done (row ∷ []) in
    let plus : length done + 0 ≡ length done = omega arith in
    ap (λ (n : ℕ). row_at (rows_after texts (done ++ row ∷ []) cs) n) plus
    ∙ after_front texts (done ++ row ∷ []) cs (length done) (omega (arith, longer))
    ∙ at_back done row []
    ∙ ap (λ way. record { way = way; here = node_in texts c })
    (way_same done (rows_after texts done (c ∷ cs)) c.row.parent c.row.step (length done) are.0 (λ q l. sym (after_front texts done (c ∷ cs) q l)))
after_at texts done (c ∷ cs) (suc k) l are =
    let row = row_in texts done c in
    let longer : length (done ++ row ∷ []) ≡ suc (length done) = omega (arith, length-append done (row ∷ [])) in
    let more = after_at texts (done ++ row ∷ []) cs k (omega arith) (subst (λ n. ParentsBefore n cs) (sym longer) are.1) in
    ap (λ (n : ℕ). row_at (rows_after texts (done ++ row ∷ []) cs) n) (omega (arith, longer)) ∙ more

has_number_at : (texts : List (List (List ℕ))) (cs : List Cell) (k : ℕ) → k < length cs → AreNumbers texts cs → HasNumber texts (cell_at cs k).row.place (cell_at cs k).row.text
has_number_at texts [] k l are = absurd (omega arith)
has_number_at texts (c ∷ cs) zero l are = are.0
has_number_at texts (c ∷ cs) (suc k) l are = has_number_at texts cs k (omega arith) are.1

before_at : (n : ℕ) (cs : List Cell) (k : ℕ) → k < length cs → ParentsBefore n cs → IsBefore (cell_at cs k).row.parent (n + k)
before_at n [] k l are = absurd (omega arith)
before_at n (c ∷ cs) zero l are = let same : n + 0 ≡ n = omega arith in subst (IsBefore c.row.parent) (sym same) are.0
before_at n (c ∷ cs) (suc k) l are =
    let same : suc n + k ≡ n + suc k = omega arith in
    subst (IsBefore (cell_at cs k).row.parent) same (before_at (suc n) cs k (omega arith) are.1)

-- what a flat row says of its row
pub record IsFlatRow (t : Rows) (k : ℕ) (flat : FlatRow) : Type 0 where
  pub place : (row_at (rows_of t) k).here.place ≡ flat.place
  pub info : (row_at (rows_of t) k).here.info ≡ info_in t.texts.items flat.place flat.text
  pub has : HasNumber t.texts.items flat.place flat.text
  pub numbers : (row_at (rows_of t) k).here.numbers ≡ slice_index_or t.numbers k []
  pub weights : (row_at (rows_of t) k).here.weights ≡ slice_index_or t.weights k []
  pub pays : (row_at (rows_of t) k).here.pays ≡ slice_index_or t.pays k []
  pub way : (row_at (rows_of t) k).way ≡ way_to (rows_of t) flat.parent flat.step
  pub before : IsBefore flat.parent k

-- of built rows, each flat row says what its row is
pub flat_row : (t : Rows) (k : ℕ) (flat : FlatRow) → IsBuilt t → k < length t.flat → flat ≡ slice_index_or t.flat k flat → IsFlatRow t k flat
flat_row t k flat is l e =
    let texts = t.texts.items in
    let same : flat ≡ slice_index_or t.flat k no_flat = e ∙ same_read t.flat k flat no_flat l in
    let count : length (cells_of t) ≡ length t.flat = omega (arith, rows_length t is, Rattle.spiel_tree.proofs.Growing.length-after texts [] (cells_of t)) in
    let within : k < length (cells_of t) = omega (arith, l, count) in
    let cell : cell_at (cells_of t) k ≡ record { row = flat; numbers = slice_index_or t.numbers k []; weights = slice_index_or t.weights k []; pays = slice_index_or t.pays k [] } =
    cell_is t.flat t.numbers t.weights t.pays k is.numbers_even is.weights_even is.pays_even l
    ∙ ap (λ (r : FlatRow). record { row = r; numbers = slice_index_or t.numbers k []; weights = slice_index_or t.weights k []; pays = slice_index_or t.pays k [] }) (sym same) in
    let front : 0 + k ≡ k = omega arith in
    let row : row_at (rows_of t) k ≡ record { way = way_to (rows_of t) (cell_at (cells_of t) k).row.parent (cell_at (cells_of t) k).row.step; here = node_in texts (cell_at (cells_of t) k) } =
    ap (λ (n : ℕ). row_at (rows_of t) n) (sym front) ∙ after_at texts [] (cells_of t) k within is.parents in
    let has = has_number_at texts (cells_of t) k within is.numbered in
    let before : IsBefore (cell_at (cells_of t) k).row.parent k = subst (IsBefore (cell_at (cells_of t) k).row.parent) front (before_at 0 (cells_of t) k within is.parents) in
    record {
      place = ap (λ (r : Row). r.here.place) row ∙ ap (λ (c : Cell). c.row.place) cell;
      info = ap (λ (r : Row). r.here.info) row ∙ ap (λ (c : Cell). info_in texts c.row.place c.row.text) cell;
      has = subst (λ (c : Cell). HasNumber texts c.row.place c.row.text) cell has;
      numbers = ap (λ (r : Row). r.here.numbers) row ∙ ap (λ (c : Cell). c.numbers) cell;
      weights = ap (λ (r : Row). r.here.weights) row ∙ ap (λ (c : Cell). c.weights) cell;
      pays = ap (λ (r : Row). r.here.pays) row ∙ ap (λ (c : Cell). c.pays) cell;
      way = ap (λ (r : Row). r.way) row ∙ ap (λ (c : Cell). way_to (rows_of t) c.row.parent c.row.step) cell;
      before = subst (λ (c : Cell). IsBefore c.row.parent k) cell before;
    }
