use Rattle.std.proofs.Common.{arith}
use Rattle.std.proofs.lemmas.Grind.{common_steps}
use Rattle.spiel_play.proofs.block_lines.push_all_actions.Goals as goal

pub loop-player-preserved : goal.loop-player-preserved
loop-player-preserved g c = grind (arith, common_steps)
