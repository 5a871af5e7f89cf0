-- Returns that sum to one number, leaf by leaf.
use Rattle.std.proofs.Common.{◌≡◌, ℕ, zero, suc, ◌+◌, ◌<◌, ◌≤◌, Bool, true, false, cond, ◌&&◌, List, [], ◌∷◌, ◌++◌, length, take, drop, ℤ, refl, ap, ap₂, sym, ◌∙◌, arith, take_all}
use Rattle.std.specs.Ordering.{int_eq}
use Rattle.std.proofs.lemmas.Bool.{true≢false, false≢true}
use Rattle.std.proofs.lemmas.Bool.Decides.{Decides-int_eq}
use Rattle.spiel_api.specs.declared.place.Place.{Place}
use Rattle.spiel_api.specs.declared.place.Place.TheVariants.{End, Chance, Move, Joint}
use Rattle.spiel_tree.specs.Rows.{Row}
use Rattle.spiel_tree.specs.Flat.{row_at}
use Rattle.spiel_response.specs.Reach.{is_end, leaves}
use Rattle.spiel_response.specs.BestResponses.{all_sum_to, same_sums, sum_at}
use Rattle.spiel_response.proofs.Leaves.{leaves_more, leaves_split}

pub end_is : (place : Place) → is_end place ≡ true → place ≡ End
end_is End e = refl
end_is Chance e = absurd (false≢true e)
end_is (Move p) e = absurd (false≢true e)
end_is (Joint p) e = absurd (false≢true e)

all_sum_to-append : (total : ℤ) (xs ys : List Row) → all_sum_to total (xs ++ ys) ≡ (all_sum_to total xs && all_sum_to total ys)
all_sum_to-append total [] ys = refl
all_sum_to-append total (x ∷ xs) ys = by (int_eq (sum_at x) total) (all_sum_to-append total xs ys)
  where
    by : (b : Bool) → all_sum_to total (xs ++ ys) ≡ (all_sum_to total xs && all_sum_to total ys) → (b && all_sum_to total (xs ++ ys)) ≡ ((b && all_sum_to total xs) && all_sum_to total ys)
    by true e = e
    by false e = refl

-- a row more
pub sums_more : (total : ℤ) (rows : List Row) (k : ℕ) (b : Bool) → k < length rows → all_sum_to total (leaves (take k rows)) ≡ true → all_sum_to total (leaves (row_at rows k ∷ [])) ≡ b
    → all_sum_to total (leaves (take (k + 1) rows)) ≡ b
sums_more total rows k b l before here =
    ap (all_sum_to total) (leaves_more rows k l) ∙ all_sum_to-append total (leaves (take k rows)) (leaves (row_at rows k ∷ []))
    ∙ ap₂ (λ (x y : Bool). x && y) before here

-- one that differs
pub sums_differ : (total : ℤ) (rows : List Row) (k : ℕ) → k < length rows → all_sum_to total (leaves (take k rows)) ≡ true → all_sum_to total (leaves (row_at rows k ∷ [])) ≡ false
    → all_sum_to total (leaves rows) ≡ false
sums_differ total rows k l before here =
    ap (all_sum_to total) (leaves_split rows (k + 1)) ∙ all_sum_to-append total (leaves (take (k + 1) rows)) (leaves (drop (k + 1) rows))
    ∙ ap (λ (b : Bool). b && all_sum_to total (leaves (drop (k + 1) rows))) (sums_more total rows k false l before here)

pub sums_all : (total : ℤ) (rows : List Row) (k : ℕ) (b : Bool) → length rows ≤ k → all_sum_to total (leaves (take k rows)) ≡ b → all_sum_to total (leaves rows) ≡ b
sums_all total rows k b l e = ap (λ (rs : List Row). all_sum_to total (leaves rs)) (sym (take_all k rows l)) ∙ e

-- against the first leaf
pub first_sum : (rows : List Row) (f : ℕ) → f < length rows → is_end (row_at rows f).here.place ≡ true → ((k : ℕ) → k < f → is_end (row_at rows k).here.place ≡ false)
    → all_sum_to (sum_at (row_at rows f)) (leaves rows) ≡ same_sums (leaves rows)
first_sum [] f l e before = absurd (omega arith)
first_sum (row ∷ rows) zero l e before = by (is_end row.here.place) e
  where
    same : int_eq (sum_at row) (sum_at row) ≡ true
    same = (Decides-int_eq (sum_at row) (sum_at row)).1 refl

    by : (b : Bool) → b ≡ true → all_sum_to (sum_at row) (cond b (row ∷ leaves rows) (leaves rows)) ≡ same_sums (cond b (row ∷ leaves rows) (leaves rows))
    by true e = ap (λ (c : Bool). c && all_sum_to (sum_at row) (leaves rows)) same
    by false e = absurd (false≢true e)
first_sum (row ∷ rows) (suc f) l e before = by (is_end row.here.place) (before 0 (omega arith)) (first_sum rows f (omega arith) e (λ k m. before (suc k) (omega arith)))
  where
    by : (b : Bool) → b ≡ false → all_sum_to (sum_at (row_at rows f)) (leaves rows) ≡ same_sums (leaves rows)
        → all_sum_to (sum_at (row_at rows f)) (cond b (row ∷ leaves rows) (leaves rows)) ≡ same_sums (cond b (row ∷ leaves rows) (leaves rows))
    by true g ih = absurd (true≢false g)
    by false g ih = ih
