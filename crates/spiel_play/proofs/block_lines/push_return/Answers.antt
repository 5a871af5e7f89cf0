use Rattle.std.proofs.Common.{rules, ◌≡◌, pos}
use Rattle.spiel_frac.specs.Fraction.{lowest_terms}
use Rattle.spiel_play.proofs.Shown.{fraction_added}
use Rattle.spiel_play.proofs.block_lines.push_return.Goals as goal

pub returns : goal.returns
returns g c =
    let r = g.G.Game.rules c.args.game.now in
    let h = g.G.Game.history_of c.args.game.now c.args.state.now in
    let same : c.unwrap.result ≡ lowest_terms (r.pay h c.args.player) (pos r.unit) = search rules in
    fraction_added c.write_frac.result c.args.out.now c.push.new.self c.write_frac.new.out c.unwrap.result (lowest_terms (r.pay h c.args.player) (pos r.unit)) c.in_ok-push.ensures.ok c.write_frac.ensures same
