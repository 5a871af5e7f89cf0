use Rattle.std.proofs.Common.{arith}
use Rattle.std.proofs.lemmas.Grind.{common_steps}
use Rattle.spiel_matrix.proofs.named.whole_pays.Goals as goal

pub loop-pay-preserved : goal.loop-pay-preserved
loop-pay-preserved c = grind (arith, common_steps)
