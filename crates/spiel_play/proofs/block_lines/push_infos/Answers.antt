use Rattle.spiel_play.proofs.Shown.{lines_added}
use Rattle.spiel_play.proofs.block_lines.push_infos.Goals as goal

pub loop-player-preserved : goal.loop-player-preserved
loop-player-preserved g c = lines_added _ c.loop-player.player _ _ _ c.loop-player.invariant c.in_ok-push_info.ensures
