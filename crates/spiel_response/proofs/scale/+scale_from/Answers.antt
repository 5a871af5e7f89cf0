use Rattle.std.proofs.Common.{◌+◌, ◌<◌, length, subst, ap, arith, ◌∙◌}
use Rattle.spiel_tree.specs.Flat.{row_at}
use Rattle.spiel_response.specs.Values.{Judged}
use Rattle.spiel_response.specs.Weighed.{IsJudgeable, scale_before}
use Rattle.spiel_response.proofs.Descents.{below, last_child, no_child, product_below}
use Rattle.spiel_response.proofs.Leaves.{scale_grows}
use Rattle.spiel_response.proofs.scale.+scale_from.Goals as goal

pub returns-in_err-scale-clause-none : goal.returns-in_err-scale-clause-none
returns-in_err-scale-clause-none t c =
    let grows = scale_grows c.args.weighed.now (subst IsJudgeable c.weighed.view_is c.weighed.invariant) (c.args.row + 1) in
    rw c.from_residual.ensures (omega (arith, grows, c.in_err-scale.ensures.none))

pub returns-then-count-eq0-clause-next : goal.returns-then-count-eq0-clause-next
returns-then-count-eq0-clause-next t c =
    let count = c.row_count-count.ensures ∙ ap (λ (j : Judged). length (row_at j.tree.rows c.args.row).here.numbers) c.weighed.view_is in
    no_child c.args.weighed.now (subst IsJudgeable c.weighed.view_is c.weighed.invariant) c.args.row c.row_count-count.result c.requires.within count (omega (arith, c.if-count-eq0.true))

pub returns-then-count-eq0-clause-scale : goal.returns-then-count-eq0-clause-scale
returns-then-count-eq0-clause-scale t c =
    let count = c.row_count-count.ensures ∙ ap (λ (j : Judged). length (row_at j.tree.rows c.args.row).here.numbers) c.weighed.view_is in
    c.in_ok-scale.ensures.some.0
    ∙ ap (scale_before c.args.weighed.now) (no_child c.args.weighed.now (subst IsJudgeable c.weighed.view_is c.weighed.invariant) c.args.row c.row_count-count.result c.requires.within count (omega (arith, c.if-count-eq0.true)))

pub scale_from-requires : goal.scale_from-requires
scale_from-requires t c =
    let j = c.args.weighed.now in
    let ok : IsJudgeable j = subst IsJudgeable c.weighed.view_is c.weighed.invariant in
    let count = c.row_count-count.ensures ∙ ap (λ (j : Judged). length (row_at j.tree.rows c.args.row).here.numbers) c.weighed.view_is in
    let index : c.loop-index.index < length (row_at j.tree.rows c.args.row).here.numbers = omega (arith, count, c.loop-index-test.true) in
    let at = below j ok c.args.row c.loop-index.index c.loop-index.next c.requires.within index c.loop-index.invariant.next_is in
    let product = c.in_ok-below.ensures.some ∙ product_below j ok c.args.row c.loop-index.index c.loop-index.next c.requires.within index c.loop-index.invariant.next_is in
    (omega (arith, c.decreases, at.parent.before, at.within), (at.within, (product, (c.loop-index.invariant.scale_is, c.loop-index.invariant.small))))

pub returns-clause-next : goal.returns-clause-next
returns-clause-next t c =
    let count = c.row_count-count.ensures ∙ ap (λ (j : Judged). length (row_at j.tree.rows c.args.row).here.numbers) c.weighed.view_is in
    c.loop-index.invariant.next_is
    ∙ last_child c.args.weighed.now (subst IsJudgeable c.weighed.view_is c.weighed.invariant) c.args.row c.loop-index.index c.requires.within (omega (arith, count, c.loop-index-test.false, c.loop-index.auto.index-end))

pub returns-clause-scale : goal.returns-clause-scale
returns-clause-scale t c =
    let count = c.row_count-count.ensures ∙ ap (λ (j : Judged). length (row_at j.tree.rows c.args.row).here.numbers) c.weighed.view_is in
    c.loop-index.invariant.scale_is ∙ ap (scale_before c.args.weighed.now) (c.loop-index.invariant.next_is
    ∙ last_child c.args.weighed.now (subst IsJudgeable c.weighed.view_is c.weighed.invariant) c.args.row c.loop-index.index c.requires.within (omega (arith, count, c.loop-index-test.false, c.loop-index.auto.index-end)))
