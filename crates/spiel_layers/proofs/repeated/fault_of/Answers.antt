use Rattle.std.proofs.Common.{arith}
use Rattle.std.proofs.lemmas.Grind.{common_steps}
use Rattle.spiel_layers.proofs.repeated.fault_of.Goals as goal

pub returns-then-not-one_shot : goal.returns-then-not-one_shot
returns-then-not-one_shot g c = grind (arith, common_steps)

pub returns : goal.returns
returns g c = grind (arith, common_steps)

pub overflow_mul-times : goal.overflow_mul-times
overflow_mul-times g c = grind (arith, common_steps)
