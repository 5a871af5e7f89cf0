use Rattle.std.proofs.Common.{arith}
use Rattle.std.proofs.lemmas.Grind.{common_steps}
use Rattle.spiel_dice.proofs.liars_dice.LiarsDice.push_call.Goals as goal

pub returns-then-call-liar : goal.returns-then-call-liar
returns-then-call-liar c = grind (arith, common_steps)

pub returns-in_err-write_number : goal.returns-in_err-write_number
returns-in_err-write_number c = grind (arith, common_steps)

pub returns-in_err-push : goal.returns-in_err-push
returns-in_err-push c = grind (arith, common_steps)

pub returns : goal.returns
returns c = grind (arith, common_steps)
