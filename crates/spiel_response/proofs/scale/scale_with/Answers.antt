use Rattle.std.proofs.Common.{◌≡◌, ◌+◌, ◌<◌, ◌≤◌, ℕ, None, true, sym, subst, ap, ap₂, arith, ◌∙◌}
use Rattle.std.specs.Prelude.{IfNone, IfSome}
use Rattle.spiel_frac.specs.Fraction.{most}
use Rattle.spiel_frac.specs.Multiples.{least_common_multiple}
use Rattle.spiel_tree.specs.Flat.{row_at}
use Rattle.spiel_response.specs.Reach.{is_end}
use Rattle.spiel_response.specs.Values.{Judged}
use Rattle.spiel_response.specs.Weighed.{IsJudgeable, scale_before}
use Rattle.spiel_response.proofs.Leaves.{scale_before_positive, scale_leaf}
use Rattle.spiel_response.proofs.Products.{totals_positive}
use Rattle.spiel_response.proofs.scale.scale_with.Goals as goal

pub lcm-requires-clause-a : goal.lcm-requires-clause-a
lcm-requires-clause-a c =
    let judged = c.args.weighed.now in
    omega (arith, c.requires.before, scale_before_positive judged (subst IsJudgeable c.weighed.view_is c.weighed.invariant) c.args.row)

pub lcm-requires-clause-b : goal.lcm-requires-clause-b
lcm-requires-clause-b c =
    let judged = c.args.weighed.now in
    omega (arith, c.requires.product, totals_positive judged (subst IsJudgeable c.weighed.view_is c.weighed.invariant) None c.args.row c.requires.within)

next : (c : goal.After-lcm) → least_common_multiple c.args.scale c.args.product ≡ scale_before c.args.weighed.now (c.args.row + 1)
next c =
    let judged = c.args.weighed.now in
    let over : is_end (row_at judged.tree.rows c.args.row).here.place ≡ true = ap (λ (j : Judged). is_end (row_at j.tree.rows c.args.row).here.place) (sym c.weighed.view_is) ∙ ap is_end (sym c.in-End.ensures) in
    ap₂ least_common_multiple c.requires.before c.requires.product ∙ scale_leaf judged c.args.row c.requires.within over

pub returns-in-End-clause-some : goal.returns-in-End-clause-some
returns-in-End-clause-some c = subst (λ (n : ℕ). IfSome c.lcm.result (λ m. (m ≡ n) × (m ≤ most))) (next c) c.lcm.ensures.some

pub returns-in-End-clause-none : goal.returns-in-End-clause-none
returns-in-End-clause-none c = subst (λ (n : ℕ). IfNone c.lcm.result (most < n)) (next c) c.lcm.ensures.none
