use Rattle.std.proofs.Common.{arith}
use Rattle.std.proofs.lemmas.Grind.{common_steps}
use Rattle.spiel_string.proofs.words.whole.Goals as goal

pub returns-in_err-n : goal.returns-in_err-n
returns-in_err-n c = grind (arith, common_steps)

pub returns-in_err-n-2 : goal.returns-in_err-n-2
returns-in_err-n-2 c = grind (arith, common_steps)

pub returns-in_ok-n : goal.returns-in_ok-n
returns-in_ok-n c = grind (arith, common_steps)

pub returns-in_ok-n-2 : goal.returns-in_ok-n-2
returns-in_ok-n-2 c = grind (arith, common_steps)

pub overflow_cast-result : goal.overflow_cast-result
overflow_cast-result c = grind (arith, common_steps)

pub overflow_cast-result-in_default : goal.overflow_cast-result-in_default
overflow_cast-result-in_default c = grind (arith, common_steps)

pub overflow_sub-result : goal.overflow_sub-result
overflow_sub-result c = grind (arith, common_steps)
