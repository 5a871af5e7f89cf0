-- The products on the ways of a tree: they are above 0, no weight passes its total, and all of them
-- divide the scale.
use Rattle.std.proofs.Common.{◌≡◌, ℕ, zero, suc, ◌+◌, ◌*◌, ◌<◌, ◌≤◌, ◌⊎◌, inl, inr, Bool, true, false, cond, List, [], ◌∷◌, ◌++◌, length, map, refl, ap, sym, subst, ◌∙◌, arith, length-append, mul-le-mul, ⊎_elim}
use Rattle.std.specs.Prelude.{slice_index, sum, Option, None}
use Rattle.std.specs.Int.{◌∣◌}
use Rattle.std.proofs.Math.Nat.{dvd_refl, dvd_trans, dvd-mul_right, mul-dvd-mul, mul-pos, one-dvd}
use Rattle.std.proofs.lemmas.Bool.{cases_lt}
use Rattle.std.proofs.lemmas.List.{get_or_past}
use Rattle.std.proofs.lemmas.List.Sums.{get_or-le-sum_by}
use Rattle.std.proofs.lemmas.List.Elements.{All-get_or}
use Rattle.spiel_api.specs.declared.place.Place.{Place}
use Rattle.spiel_api.specs.declared.place.Place.TheVariants.{End, Chance, Move, Joint}
use Rattle.spiel_api.specs.Place.{IsOpen}
use Rattle.spiel_frac.specs.Multiples.{ArePositive, IsLeastMultiple, IsMultiple}
use Rattle.spiel_frac.proofs.CommonMultiples.{least_multiple-is}
use Rattle.spiel_tree.specs.Rows.{Node, Row, Step, way_on}
use Rattle.spiel_tree.specs.Flat.{row_at}
use Rattle.spiel_tree.specs.States.{state_number}
use Rattle.spiel_tree.specs.Closed.{IsClosed}
use Rattle.spiel_tree.proofs.Parents.{tree_goes_from, tree_root}
use Rattle.spiel_tree.proofs.StateMoves.{move_state}
use Rattle.spiel_tree.proofs.TreeLaws.{chance_sums, tree_closed}
use Rattle.spiel_policy.specs.Profiles.{AreReduced, Profile, weights_of}
use Rattle.spiel_response.specs.Reach.{is_end, is_left_out, leaves, product, scale_of, total_by, total_of, totals_to, weight_by, weight_of}
use Rattle.spiel_response.specs.Values.{Judged}
use Rattle.spiel_response.specs.Weighed.{IsJudgeable}

-- ---- a step
-- the total at each history is above 0
total_by_positive : (j : Judged) → IsJudgeable j → (k : ℕ) → k < length j.tree.rows → (place : Place) → (row_at j.tree.rows k).here.place ≡ place
    → 1 ≤ total_by j.tree.rows j.profile (row_at j.tree.rows k).here place
total_by_positive j ok k l End e = omega arith
total_by_positive j ok k l Chance e = (chance_sums j.tree ok.game k l e).0
total_by_positive j ok k l (Move p) e =
    let state = state_number j.tree.rows p (row_at j.tree.rows k).here.info in
    let within : state < length j.profile = omega (arith, move_state j.tree ok.game k p l e, ok.fits.states) in
    (All-get_or AreReduced j.profile state [] within ok.fits.reduced).least.positive
total_by_positive j ok k l (Joint p) e = omega arith

pub total_positive : (j : Judged) → IsJudgeable j → (k : ℕ) → k < length j.tree.rows → 1 ≤ total_of j.tree.rows j.profile (row_at j.tree.rows k).here
total_positive j ok k l = total_by_positive j ok k l (row_at j.tree.rows k).here.place refl

part_of_sum : (xs : List ℕ) (i : ℕ) → slice_index xs i ≤ sum xs
part_of_sum xs i = ⊎_elim
    (λ (l : i < length xs). get_or-le-sum_by (λ (x : ℕ). x) xs i 0 l)
    (λ (m : length xs ≤ i). let none = get_or_past xs i 0 m in omega arith)
    (cases_lt i (length xs))

-- a weight is at most its total
weight_within : (rows : List Row) (profile : Profile) (node : Node) (index : ℕ) (place : Place) → weight_by rows profile node index place ≤ total_by rows profile node place
weight_within rows profile node index End = omega arith
weight_within rows profile node index Chance = part_of_sum node.weights index
weight_within rows profile node index (Move p) = part_of_sum (weights_of profile (state_number rows p node.info)) index
weight_within rows profile node index (Joint p) = omega arith

-- ---- a way
pub product-append : (left : Option ℕ) (factor : Step → ℕ) (way more : List Step) → product left factor (way ++ more) ≡ product left factor way * product left factor more
product-append left factor [] more = let one : product left factor more ≡ 1 * product left factor more = omega arith in one
product-append left factor (step ∷ way) more =
    let rest = ap (λ (n : ℕ). cond (is_left_out left step.at.place) 1 (factor step) * n) (product-append left factor way more) in
    omega arith

-- one step more
pub product_on : (left : Option ℕ) (factor : Step → ℕ) (row : Row) (index : ℕ)
    → product left factor (way_on row index) ≡ product left factor row.way * cond (is_left_out left row.here.place) 1 (factor (record { at = row.here; index = index }))
product_on left factor row index =
    let step : Step = record { at = row.here; index = index } in
    let one : product left factor (step ∷ []) ≡ cond (is_left_out left row.here.place) 1 (factor step) = omega arith in
    product-append left factor row.way (step ∷ []) ∙ ap (λ (n : ℕ). product left factor row.way * n) one

-- the weights on a way are at most the totals
pub weights_within : (j : Judged) (left : Option ℕ) (way : List Step) → product left (weight_of j.tree.rows j.profile) way ≤ product left (λ step. total_of j.tree.rows j.profile step.at) way
weights_within j left [] = omega arith
weights_within j left (step ∷ way) = mul-le-mul (by (is_left_out left step.at.place)) (weights_within j left way)
  where
    by : (b : Bool) → cond b 1 (weight_of j.tree.rows j.profile step) ≤ cond b 1 (total_of j.tree.rows j.profile step.at)
    by true = omega arith
    by false = weight_within j.tree.rows j.profile step.at step.index step.at.place

-- the product without a player's steps divides that of all steps
left_divides : (left : Option ℕ) (factor : Step → ℕ) (way : List Step) → product left factor way ∣ product None factor way
left_divides left factor [] = dvd_refl 1
left_divides left factor (step ∷ way) = mul-dvd-mul (cond (is_left_out left step.at.place) 1 (factor step)) (product left factor way) (by (is_left_out left step.at.place)) (left_divides left factor way)
  where
    by : (b : Bool) → cond b 1 (factor step) ∣ factor step
    by true = one-dvd (factor step)
    by false = dvd_refl (factor step)

-- ---- the rows
positive_before : (j : Judged) → IsJudgeable j → (left : Option ℕ) (n k : ℕ) → k < n → k < length j.tree.rows → 0 < totals_to j.tree.rows j.profile left (row_at j.tree.rows k)
positive_before j ok left zero k m l = absurd (omega arith)
positive_before j ok left (suc n) zero m l =
    let root = ap (product left (λ step. total_of j.tree.rows j.profile step.at)) (tree_root j.tree ok.game) in
    omega (arith, root)
positive_before j ok left (suc n) (suc k) m l =
    let from = tree_goes_from j.tree ok.game (suc k) (omega arith) l in
    let within : from.parent < length j.tree.rows = omega (arith, from.before, l) in
    let before = positive_before j ok left n from.parent (omega (arith, from.before, m)) within in
    let parent = row_at j.tree.rows from.parent in
    let whole : Step → ℕ = λ step. total_of j.tree.rows j.profile step.at in
    subst (λ (n : ℕ). 0 < n) (sym (ap (product left whole) from.way ∙ product_on left whole parent from.index))
    (mul-pos before (by (is_left_out left parent.here.place) (total_of j.tree.rows j.profile parent.here) (total_positive j ok from.parent within)))
  where
    by : (b : Bool) (n : ℕ) → 1 ≤ n → 0 < cond b 1 n
    by true n p = omega arith
    by false n p = p

-- the product of the totals is above 0
pub totals_positive : (j : Judged) → IsJudgeable j → (left : Option ℕ) (k : ℕ) → k < length j.tree.rows → 0 < totals_to j.tree.rows j.profile left (row_at j.tree.rows k)
totals_positive j ok left k l = positive_before j ok left (suc k) k (omega arith) l

leaves_positive : (g : Row → ℕ) (rows : List Row) → ((k : ℕ) → k < length rows → 0 < g (row_at rows k)) → ArePositive (map g (leaves rows))
leaves_positive g [] each = tt
leaves_positive g (row ∷ rows) each = by (is_end row.here.place) (leaves_positive g rows (λ k l. each (suc k) (omega arith)))
  where
    by : (b : Bool) → ArePositive (map g (leaves rows)) → ArePositive (map g (cond b (row ∷ leaves rows) (leaves rows)))
    by true more = (each 0 (omega arith), more)
    by false more = more

pub all_positive : (j : Judged) → IsJudgeable j → ArePositive (map (totals_to j.tree.rows j.profile None) (leaves j.tree.rows))
all_positive j ok = leaves_positive (totals_to j.tree.rows j.profile None) j.tree.rows (totals_positive j ok None)

pub scale_is_least : (j : Judged) → IsJudgeable j → IsLeastMultiple (map (totals_to j.tree.rows j.profile None) (leaves j.tree.rows)) (scale_of j.tree.rows j.profile)
unfolding scale_of
scale_is_least j ok = least_multiple-is (map (totals_to j.tree.rows j.profile None) (leaves j.tree.rows)) (all_positive j ok)

-- ---- all products divide the scale
leaf_divides : (g : Row → ℕ) (n : ℕ) (rows : List Row) (k : ℕ) → k < length rows → is_end (row_at rows k).here.place ≡ true → IsMultiple (map g (leaves rows)) n → g (row_at rows k) ∣ n
leaf_divides g n [] k l e all = absurd (omega arith)
leaf_divides g n (row ∷ rows) zero l e all = by (is_end row.here.place) e all
  where
    by : (b : Bool) → b ≡ true → IsMultiple (map g (cond b (row ∷ leaves rows) (leaves rows))) n → g row ∣ n
    by true e all = all.0
    by false e all = cc
leaf_divides g n (row ∷ rows) (suc k) l e all = by (is_end row.here.place) all (leaf_divides g n rows k (omega arith) e)
  where
    by : (b : Bool) → IsMultiple (map g (cond b (row ∷ leaves rows) (leaves rows))) n → (IsMultiple (map g (leaves rows)) n → g (row_at rows k) ∣ n) → g (row_at rows k) ∣ n
    by true all more = more all.1
    by false all more = more all

open_or_end : (place : Place) → (is_end place ≡ true) ⊎ IsOpen place
open_or_end End = inl refl
open_or_end Chance = inr tt
open_or_end (Move p) = inr tt
open_or_end (Joint p) = inr tt

-- at most n numbers are to come
divides_from : (j : Judged) (bound scale : ℕ) → IsClosed j.tree.rows bound → IsMultiple (map (totals_to j.tree.rows j.profile None) (leaves j.tree.rows)) scale
    → (n k : ℕ) → k < length j.tree.rows → bound < length (row_at j.tree.rows k).way + n → totals_to j.tree.rows j.profile None (row_at j.tree.rows k) ∣ scale
divides_from j bound scale closed all zero k l m = absurd (omega (arith, closed.bounded k l, m))
divides_from j bound scale closed all (suc n) k l m = by (open_or_end row.here.place) (divides_from j bound scale closed all n)
  where
    row : Row
    row = row_at j.tree.rows k

    whole : Step → ℕ
    whole step = total_of j.tree.rows j.profile step.at

    by : (is_end row.here.place ≡ true) ⊎ IsOpen row.here.place
        → ((k : ℕ) → k < length j.tree.rows → bound < length (row_at j.tree.rows k).way + n → totals_to j.tree.rows j.profile None (row_at j.tree.rows k) ∣ scale) → product None whole row.way ∣ scale
    by (inl e) more = leaf_divides (totals_to j.tree.rows j.profile None) scale j.tree.rows k l e all
    by (inr o) more =
        let on = closed.goes_on k l o in
        let longer : length (row_at j.tree.rows on.row).way ≡ length row.way + 1 = ap length on.way ∙ length-append row.way (record { at = row.here; index = on.index } ∷ []) in
        dvd_trans (product None whole row.way)
        (subst (λ (m : ℕ). product None whole row.way ∣ m) (sym (ap (product None whole) on.way ∙ product-append None whole row.way (record { at = row.here; index = on.index } ∷ [])))
        (dvd-mul_right (product None whole row.way) (product None whole (record { at = row.here; index = on.index } ∷ []))))
        (more on.row on.within (omega (arith, m, longer)))

-- the product of the totals on each way divides the scale, without a player's steps as well
pub totals_divide : (j : Judged) → IsJudgeable j → (left : Option ℕ) (k : ℕ) → k < length j.tree.rows → totals_to j.tree.rows j.profile left (row_at j.tree.rows k) ∣ scale_of j.tree.rows j.profile
totals_divide j ok left k l =
    let closed = tree_closed j.tree ok.game in
    dvd_trans (totals_to j.tree.rows j.profile left (row_at j.tree.rows k)) (left_divides left (λ step. total_of j.tree.rows j.profile step.at) (row_at j.tree.rows k).way)
    (divides_by j 4096 closed (scale_is_least j ok).multiple k l)
  where
    divides_by : (j : Judged) (bound : ℕ) → IsClosed j.tree.rows bound → IsMultiple (map (totals_to j.tree.rows j.profile None) (leaves j.tree.rows)) (scale_of j.tree.rows j.profile)
        → (k : ℕ) → k < length j.tree.rows → totals_to j.tree.rows j.profile None (row_at j.tree.rows k) ∣ scale_of j.tree.rows j.profile
    divides_by j bound closed all k l = divides_from j bound (scale_of j.tree.rows j.profile) closed all (suc bound) k l (omega arith)
