use Rattle.std.proofs.Common.{arith}
use Rattle.std.proofs.lemmas.Grind.{common_steps}
use Rattle.spiel_api.proofs.walking.is_next.Goals as goal

pub returns-in-End : goal.returns-in-End
returns-in-End g c = grind (arith, common_steps)

pub returns-in-Chance : goal.returns-in-Chance
returns-in-Chance g c = grind (arith, common_steps)

pub returns-in-Move : goal.returns-in-Move
returns-in-Move g c = grind (arith, common_steps)

pub returns-in-Joint : goal.returns-in-Joint
returns-in-Joint g c = grind (arith, common_steps)

pub is_among-requires-clause-player : goal.is_among-requires-clause-player
is_among-requires-clause-player g c = grind (arith, common_steps)

pub is_among-requires-in-Move-clause-player : goal.is_among-requires-in-Move-clause-player
is_among-requires-in-Move-clause-player g c = grind (arith, common_steps)

pub is_among-requires-in-Joint-clause-player : goal.is_among-requires-in-Joint-clause-player
is_among-requires-in-Joint-clause-player g c = grind (arith, common_steps)
