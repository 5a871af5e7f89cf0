use Rattle.std.proofs.Common.{Some, sym, ap, ◌∙◌}
use Rattle.spiel_tree.specs.Flat.{row_at}
use Rattle.spiel_response.specs.Reach.{is_left_out}
use Rattle.spiel_response.specs.Values.{Judged}
use Rattle.spiel_response.proofs.Descents.{share_left}
use Rattle.spiel_response.proofs.reach.certain_share.Goals as goal

pub returns-then-is_left_out : goal.returns-then-is_left_out
returns-then-is_left_out c =
    let j = c.args.weighed.now in
    let out = ap (λ (x : Judged). is_left_out (Some c.args.player) (row_at x.tree.rows c.args.row).here.place) (sym c.weighed.view_is) ∙ sym c.is_left_out.ensures ∙ c.if-is_left_out.true in
    share_left j (Some c.args.player) (row_at j.tree.rows c.args.row) c.args.reached c.requires.reached out
