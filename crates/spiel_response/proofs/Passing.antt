-- What a pass down the rows of a tree does at one row.
use Rattle.std.proofs.Common.{◌≡◌, ℕ, ◌*◌, ◌/◌, ◌<◌, ◌≤◌, Bool, true, false, cond, List, [], length, ap, ap₂, sym, subst, ◌∙◌, arith}
use Rattle.std.specs.Prelude.{Option, None}
use Rattle.std.specs.Int.{◌∣◌}
use Rattle.spiel_tree.specs.Rows.{Row, Step}
use Rattle.spiel_tree.specs.Flat.{row_at}
use Rattle.spiel_tree.specs.Trees.{IsParent, last_index}
use Rattle.spiel_tree.proofs.Parents.{tree_root}
use Rattle.spiel_response.specs.Reach.{is_left_out, product, reach, scale_of, total_of, totals_to, weight_of, weights_to}
use Rattle.spiel_response.specs.Values.{Judged}
use Rattle.spiel_response.specs.Weighed.{IsJudgeable}
use Rattle.spiel_response.proofs.Products.{product_on, totals_divide, totals_positive, total_positive, weights_within}
use Rattle.spiel_response.proofs.Reached.{reach_within, step_reach}

-- ---- the products of the totals
-- nothing is multiplied on the way to the first row
pub root_totals : (j : Judged) → IsJudgeable j → (k : ℕ) → k ≡ 0 → 1 ≡ totals_to j.tree.rows j.profile None (row_at j.tree.rows k)
root_totals j ok k e =
    sym (ap (λ (n : ℕ). product None (λ step. total_of j.tree.rows j.profile step.at) (row_at j.tree.rows n).way) e
    ∙ ap (product None (λ step. total_of j.tree.rows j.profile step.at)) (tree_root j.tree ok.game))

-- from a parent to its child: times the parent's total
pub child_totals : (j : Judged) (rows : List Row) (parent k : ℕ) → rows ≡ j.tree.rows → IsParent rows parent k
    → totals_to j.tree.rows j.profile None (row_at j.tree.rows k) ≡ totals_to j.tree.rows j.profile None (row_at j.tree.rows parent) * total_of j.tree.rows j.profile (row_at j.tree.rows parent).here
child_totals j rows parent k e is =
    let at : IsParent j.tree.rows parent k = subst (λ (rs : List Row). IsParent rs parent k) e is in
    let whole : Step → ℕ = λ step. total_of j.tree.rows j.profile step.at in
    ap (product None whole) at.way ∙ product_on None whole (row_at j.tree.rows parent) (last_index (row_at j.tree.rows k).way)

-- ---- reach weights
pub root_reach : (j : Judged) → IsJudgeable j → (left : Option ℕ) (k : ℕ) → k ≡ 0 → scale_of j.tree.rows j.profile ≡ reach j.tree.rows j.profile left (row_at j.tree.rows k)
root_reach j ok left k e =
    let way : (row_at j.tree.rows k).way ≡ [] = ap (λ (n : ℕ). (row_at j.tree.rows n).way) e ∙ tree_root j.tree ok.game in
    let scale = scale_of j.tree.rows j.profile in
    let one : scale / 1 ≡ scale = omega arith in
    let same : 1 * (scale / 1) ≡ scale = omega (arith, one) in
    sym (ap (λ (steps : List Step). product left (weight_of j.tree.rows j.profile) steps * (scale / product left (λ step. total_of j.tree.rows j.profile step.at) steps)) way ∙ same)

-- from a parent to its child: nothing where the step is left out, else by the weight over the total
pub reach_past : (j : Judged) (rows : List Row) (left : Option ℕ) (parent k : ℕ) → rows ≡ j.tree.rows → IsParent rows parent k → is_left_out left (row_at j.tree.rows parent).here.place ≡ true
    → reach j.tree.rows j.profile left (row_at j.tree.rows parent) ≡ reach j.tree.rows j.profile left (row_at j.tree.rows k)
reach_past j rows left parent k same is e =
    let at : IsParent j.tree.rows parent k = subst (λ (rs : List Row). IsParent rs parent k) same is in
    let row = row_at j.tree.rows parent in
    let index = last_index (row_at j.tree.rows k).way in
    let unchanged : (f : Step → ℕ) → product left f row.way ≡ product left f (row_at j.tree.rows k).way = λ f.
    let whole = ap (product left f) at.way ∙ product_on left f row index ∙ ap (λ (b : Bool). product left f row.way * cond b 1 (f (record { at = row.here; index = index }))) e in
    let one : product left f row.way * 1 ≡ product left f row.way = omega arith in
    sym (whole ∙ one) in
    ap₂ (λ (n d : ℕ). n * (scale_of j.tree.rows j.profile / d)) (unchanged (weight_of j.tree.rows j.profile)) (unchanged (λ step. total_of j.tree.rows j.profile step.at))

pub reach_step : (j : Judged) → IsJudgeable j → (rows : List Row) (left : Option ℕ) (parent k w t reached : ℕ) → rows ≡ j.tree.rows → k < length j.tree.rows → IsParent rows parent k
    → is_left_out left (row_at j.tree.rows parent).here.place ≡ false → t ≡ total_of j.tree.rows j.profile (row_at j.tree.rows parent).here
    → w ≡ weight_of j.tree.rows j.profile (record { at = (row_at j.tree.rows parent).here; index = last_index (row_at j.tree.rows k).way })
    → reached ≡ reach j.tree.rows j.profile left (row_at j.tree.rows parent) → reached / t * w ≡ reach j.tree.rows j.profile left (row_at j.tree.rows k)
reach_step j ok rows left parent k w t reached same l is e total weight from =
    let at : IsParent j.tree.rows parent k = subst (λ (rs : List Row). IsParent rs parent k) same is in
    let row = row_at j.tree.rows parent in
    let index = last_index (row_at j.tree.rows k).way in
    let scale = scale_of j.tree.rows j.profile in
    let n = weights_to j.tree.rows j.profile left row in
    let d = totals_to j.tree.rows j.profile left row in
    let within : parent < length j.tree.rows = omega (arith, at.before, l) in
    let on : (f : Step → ℕ) → product left f (row_at j.tree.rows k).way ≡ product left f row.way * f (record { at = row.here; index = index }) = λ f.
    ap (product left f) at.way ∙ product_on left f row index ∙ ap (λ (b : Bool). product left f row.way * cond b 1 (f (record { at = row.here; index = index }))) e in
    let weights : weights_to j.tree.rows j.profile left (row_at j.tree.rows k) ≡ n * w = on (weight_of j.tree.rows j.profile) ∙ ap (λ (x : ℕ). n * x) (sym weight) in
    let totals : totals_to j.tree.rows j.profile left (row_at j.tree.rows k) ≡ d * t = on (λ step. total_of j.tree.rows j.profile step.at) ∙ ap (λ (x : ℕ). d * x) (sym total) in
    let divides : d * t ∣ scale = subst (λ (x : ℕ). x ∣ scale) totals (totals_divide j ok left k l) in
    ap (λ (x : ℕ). x / t * w) from
    ∙ step_reach scale n d w t (totals_positive j ok left parent within) (subst (λ (x : ℕ). 0 < x) (sym total) (total_positive j ok parent within)) divides
    ∙ ap₂ (λ (x y : ℕ). x * (scale / y)) (sym weights) (sym totals)

-- no reach weight passes the scale
pub reach_small : (j : Judged) → IsJudgeable j → (left : Option ℕ) (k : ℕ) → k < length j.tree.rows → reach j.tree.rows j.profile left (row_at j.tree.rows k) ≤ scale_of j.tree.rows j.profile
reach_small j ok left k l =
    reach_within (scale_of j.tree.rows j.profile) (weights_to j.tree.rows j.profile left (row_at j.tree.rows k)) (totals_to j.tree.rows j.profile left (row_at j.tree.rows k))
    (weights_within j left (row_at j.tree.rows k).way) (totals_divide j ok left k l)
