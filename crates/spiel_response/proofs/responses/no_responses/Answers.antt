use Rattle.std.proofs.Common.{arith}
use Rattle.std.proofs.lemmas.Grind.{common_steps}
use Rattle.spiel_response.proofs.responses.no_responses.Goals as goal

pub returns-clause-made : goal.returns-clause-made
returns-clause-made c = grind (arith, common_steps)

pub returns-clause-earned : goal.returns-clause-earned
returns-clause-earned c = grind (arith, common_steps)

pub returns-clause-answers : goal.returns-clause-answers
returns-clause-answers c = grind (arith, common_steps)

pub returns-clause-sums : goal.returns-clause-sums
returns-clause-sums c = grind (arith, common_steps)
