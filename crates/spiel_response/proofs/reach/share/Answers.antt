use Rattle.std.proofs.Common.{sym, subst, ap, arith, ◌∙◌}
use Rattle.spiel_tree.specs.Flat.{row_at}
use Rattle.spiel_response.specs.Reach.{is_left_out}
use Rattle.spiel_response.specs.Values.{Judged}
use Rattle.spiel_response.specs.Weighed.{IsJudgeable}
use Rattle.spiel_response.proofs.Descents.{share_left, share_taken}
use Rattle.spiel_response.proofs.Products.{total_positive}
use Rattle.spiel_response.proofs.reach.share.Goals as goal

pub returns-then-is_left_out : goal.returns-then-is_left_out
returns-then-is_left_out c =
    let j = c.args.weighed.now in
    let out = ap (λ (x : Judged). is_left_out c.args.left (row_at x.tree.rows c.args.row).here.place) (sym c.weighed.view_is) ∙ sym c.is_left_out.ensures ∙ c.if-is_left_out.true in
    share_left j c.args.left (row_at j.tree.rows c.args.row) c.args.reached c.requires.reached out

pub nonzero_div-result : goal.nonzero_div-result
nonzero_div-result c =
    omega (arith, total_positive c.args.weighed.now (subst IsJudgeable c.weighed.view_is c.weighed.invariant) c.args.row c.requires.within, c.requires.total)

pub returns : goal.returns
returns c =
    let j = c.args.weighed.now in
    let kept = ap (λ (x : Judged). is_left_out c.args.left (row_at x.tree.rows c.args.row).here.place) (sym c.weighed.view_is) ∙ sym c.is_left_out.ensures ∙ c.if-is_left_out.false in
    share_taken j c.args.left (row_at j.tree.rows c.args.row) c.args.reached c.args.total c.requires.reached c.requires.total kept
