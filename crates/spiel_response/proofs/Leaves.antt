-- The leaves among the rows, and those before a row.
use Rattle.std.proofs.Common.{◌≡◌, ℕ, ◌+◌, ◌<◌, ◌≤◌, Bool, true, false, cond, List, [], ◌∷◌, ◌++◌, length, map, take, drop, ap, sym, subst, ◌∙◌, take-append-drop, take_all}
use Rattle.std.specs.Prelude.{None}
use Rattle.std.proofs.lemmas.List.{append-nil, map-append, take_more}
use Rattle.std.proofs.lemmas.List.Elements.{filter-append}
use Rattle.spiel_frac.specs.Multiples.{ArePositive, least_common_multiple, least_multiple}
use Rattle.spiel_frac.proofs.CommonMultiples.{least_multiple-grows, least_multiple-is, least_multiple-push}
use Rattle.spiel_tree.specs.Rows.{Row}
use Rattle.spiel_tree.specs.Flat.{no_row, row_at}
use Rattle.spiel_response.specs.Reach.{is_end, leaves, scale_of, totals_to}
use Rattle.spiel_response.specs.Values.{Judged}
use Rattle.spiel_response.specs.Weighed.{IsJudgeable, scale_before}
use Rattle.spiel_response.proofs.Products.{all_positive}

-- one row more
pub leaves_more : (rows : List Row) (k : ℕ) → k < length rows → leaves (take (k + 1) rows) ≡ leaves (take k rows) ++ leaves (row_at rows k ∷ [])
leaves_more rows k l = ap leaves (take_more rows k no_row l) ∙ filter-append (λ row. is_end row.here.place) (take k rows) (row_at rows k ∷ [])

-- a leaf more
pub leaf_more : (rows : List Row) (k : ℕ) → k < length rows → is_end (row_at rows k).here.place ≡ true → leaves (take (k + 1) rows) ≡ leaves (take k rows) ++ row_at rows k ∷ []
leaf_more rows k l e = leaves_more rows k l ∙ ap (λ (b : Bool). leaves (take k rows) ++ cond b (row_at rows k ∷ []) []) e

-- a row that is no leaf
pub no_leaf_more : (rows : List Row) (k : ℕ) → k < length rows → is_end (row_at rows k).here.place ≡ false → leaves (take (k + 1) rows) ≡ leaves (take k rows)
no_leaf_more rows k l e = leaves_more rows k l ∙ ap (λ (b : Bool). leaves (take k rows) ++ cond b (row_at rows k ∷ []) []) e ∙ append-nil (leaves (take k rows))

-- the leaves before a row are the first of all
pub leaves_split : (rows : List Row) (k : ℕ) → leaves rows ≡ leaves (take k rows) ++ leaves (drop k rows)
leaves_split rows k = ap leaves (sym (take-append-drop k rows)) ∙ filter-append (λ row. is_end row.here.place) (take k rows) (drop k rows)

-- ---- the scale
positive_parts : (xs ys : List ℕ) → ArePositive (xs ++ ys) → ArePositive xs × ArePositive ys
positive_parts [] ys all = (tt, all)
positive_parts (x ∷ xs) ys all = let rest = positive_parts xs ys all.1 in ((all.0, rest.0), rest.1)

-- the products at the leaves before a row, and at the others, are above 0
parts_positive : (j : Judged) → IsJudgeable j → (k : ℕ)
    → ArePositive (map (totals_to j.tree.rows j.profile None) (leaves (take k j.tree.rows))) × ArePositive (map (totals_to j.tree.rows j.profile None) (leaves (drop k j.tree.rows)))
parts_positive j ok k =
    let products = totals_to j.tree.rows j.profile None in
    let split = ap (map products) (leaves_split j.tree.rows k) ∙ map-append products (leaves (take k j.tree.rows)) (leaves (drop k j.tree.rows)) in
    positive_parts (map products (leaves (take k j.tree.rows))) (map products (leaves (drop k j.tree.rows))) (subst ArePositive split (all_positive j ok))

pub scale_before_positive : (j : Judged) → IsJudgeable j → (k : ℕ) → 1 ≤ scale_before j k
scale_before_positive j ok k = (least_multiple-is (map (totals_to j.tree.rows j.profile None) (leaves (take k j.tree.rows))) (parts_positive j ok k).0).positive

-- the scale of the leaves before a row is at most that of all
pub scale_grows : (j : Judged) → IsJudgeable j → (k : ℕ) → scale_before j k ≤ scale_of j.tree.rows j.profile
unfolding scale_of
scale_grows j ok k =
    let products = totals_to j.tree.rows j.profile None in
    let parts = parts_positive j ok k in
    let split = ap (map products) (leaves_split j.tree.rows k) ∙ map-append products (leaves (take k j.tree.rows)) (leaves (drop k j.tree.rows)) in
    subst (λ (xs : List ℕ). scale_before j k ≤ least_multiple xs) (sym split)
    (least_multiple-grows (map products (leaves (take k j.tree.rows))) (map products (leaves (drop k j.tree.rows))) parts.0 parts.1)

-- with a leaf more
pub scale_leaf : (j : Judged) (k : ℕ) → k < length j.tree.rows → is_end (row_at j.tree.rows k).here.place ≡ true
    → least_common_multiple (scale_before j k) (totals_to j.tree.rows j.profile None (row_at j.tree.rows k)) ≡ scale_before j (k + 1)
scale_leaf j k l e =
    let products = totals_to j.tree.rows j.profile None in
    sym (least_multiple-push (map products (leaves (take k j.tree.rows))) (products (row_at j.tree.rows k)))
    ∙ ap least_multiple (sym (map-append products (leaves (take k j.tree.rows)) (row_at j.tree.rows k ∷ [])))
    ∙ ap (λ (rows : List Row). least_multiple (map products rows)) (sym (leaf_more j.tree.rows k l e))

-- with a row that is no leaf
pub scale_no_leaf : (j : Judged) (k : ℕ) → k < length j.tree.rows → is_end (row_at j.tree.rows k).here.place ≡ false → scale_before j k ≡ scale_before j (k + 1)
scale_no_leaf j k l e = ap (λ (rows : List Row). least_multiple (map (totals_to j.tree.rows j.profile None) rows)) (sym (no_leaf_more j.tree.rows k l e))

-- with all rows
pub scale_all : (j : Judged) (k : ℕ) → length j.tree.rows ≤ k → scale_before j k ≡ scale_of j.tree.rows j.profile
unfolding scale_of
scale_all j k l = ap (λ (rows : List Row). least_multiple (map (totals_to j.tree.rows j.profile None) (leaves rows))) (take_all k j.tree.rows l)
