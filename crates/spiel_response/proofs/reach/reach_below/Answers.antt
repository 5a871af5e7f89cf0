use Rattle.std.proofs.Common.{refl, sym, subst, ap, arith, ◌∙◌}
use Rattle.spiel_tree.specs.Flat.{row_at}
use Rattle.spiel_tree.specs.Subtrees.{child_at}
use Rattle.spiel_response.specs.Reach.{is_left_out}
use Rattle.spiel_response.specs.Values.{Judged}
use Rattle.spiel_response.specs.Weighed.{IsJudgeable}
use Rattle.spiel_response.proofs.Descents.{below, left_below, taken_below}
use Rattle.spiel_response.proofs.Passing.{reach_small}
use Rattle.spiel_response.proofs.reach.reach_below.Goals as goal

pub returns-then-is_left_out : goal.returns-then-is_left_out
returns-then-is_left_out c =
    let j = c.args.weighed.now in
    let ok : IsJudgeable j = subst IsJudgeable c.weighed.view_is c.weighed.invariant in
    let out = ap (λ (x : Judged). is_left_out c.args.left (row_at x.tree.rows c.args.row).here.place) (sym c.weighed.view_is) ∙ sym c.is_left_out.ensures ∙ c.if-is_left_out.true in
    left_below j ok c.args.left c.args.row c.args.index c.args.share c.requires.within c.requires.index c.requires.share out

pub overflow_mul-result : goal.overflow_mul-result
overflow_mul-result c =
    let j = c.args.weighed.now in
    let ok : IsJudgeable j = subst IsJudgeable c.weighed.view_is c.weighed.invariant in
    let kept = ap (λ (x : Judged). is_left_out c.args.left (row_at x.tree.rows c.args.row).here.place) (sym c.weighed.view_is) ∙ sym c.is_left_out.ensures ∙ c.if-is_left_out.false in
    let child = child_at j.tree.rows c.args.row c.args.index in
    let within = (below j ok c.args.row c.args.index child c.requires.within c.requires.index refl).within in
    omega (arith, taken_below j ok c.args.left c.args.row c.args.index c.args.share c.args.weight c.requires.within c.requires.index c.requires.share c.requires.weight kept, reach_small j ok c.args.left child within, c.requires.small)

pub returns : goal.returns
returns c =
    let j = c.args.weighed.now in
    let ok : IsJudgeable j = subst IsJudgeable c.weighed.view_is c.weighed.invariant in
    let kept = ap (λ (x : Judged). is_left_out c.args.left (row_at x.tree.rows c.args.row).here.place) (sym c.weighed.view_is) ∙ sym c.is_left_out.ensures ∙ c.if-is_left_out.false in
    taken_below j ok c.args.left c.args.row c.args.index c.args.share c.args.weight c.requires.within c.requires.index c.requires.share c.requires.weight kept
