use Rattle.std.proofs.Common.{arith}
use Rattle.std.proofs.lemmas.Grind.{common_steps}
use Rattle.spiel_matrix.proofs.Paying.{too_large}
use Rattle.spiel_matrix.proofs.pays.pays_in.Goals as goal

pub returns-in_default-clause-fault : goal.returns-in_default-clause-fault
returns-in_default-clause-fault c = too_large c.args.unit c.args.pays.now c.loop-pay.pay-index c.pay-item.result c.loop-pay-test.true c.pay-item.is c.in_default.ensures

pub loop-pay-preserved : goal.loop-pay-preserved
loop-pay-preserved c = grind (arith, common_steps)
