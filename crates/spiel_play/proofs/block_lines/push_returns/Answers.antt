use Rattle.std.specs.Prelude.{codes}
use Rattle.spiel_play.specs.Block.{return_text}
use Rattle.spiel_play.proofs.Shown.{text_added}
use Rattle.spiel_play.proofs.block_lines.push_returns.Goals as goal

pub loop-player-preserved : goal.loop-player-preserved
loop-player-preserved g c =
    let text = return_text (g.G.Game.rules c.args.game.now) (g.G.Game.history_of c.args.game.now c.args.state.now) in
    text_added text c.loop-player.player c.args.out.now (codes "returns:") c.loop-player.out c.push_return.new.out c.loop-player.invariant c.in_ok-push_return.ensures
