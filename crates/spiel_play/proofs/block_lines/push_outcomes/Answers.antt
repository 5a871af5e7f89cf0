use Rattle.spiel_play.proofs.Shown.{lines_added}
use Rattle.spiel_play.proofs.block_lines.push_outcomes.Goals as goal

pub loop-index-preserved : goal.loop-index-preserved
loop-index-preserved g c = lines_added _ c.loop-index.index _ _ _ c.loop-index.invariant c.in_ok-push_outcome.ensures
