use Rattle.std.proofs.Common.{arith}
use Rattle.std.proofs.lemmas.Grind.{common_steps}
use Rattle.spiel_policy.proofs.reading.take_entries.Goals as goal

pub loop-value-preserved : goal.loop-value-preserved
loop-value-preserved c = grind (arith, common_steps)

pub loop-value-init : goal.loop-value-init
loop-value-init c = grind (arith, common_steps)

pub returns-clause-answer : goal.returns-clause-answer
returns-clause-answer c = grind (arith, common_steps)
