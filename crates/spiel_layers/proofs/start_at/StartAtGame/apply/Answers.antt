use Rattle.std.proofs.Common.{arith}
use Rattle.std.proofs.lemmas.Grind.{common_steps}
use Rattle.spiel_layers.proofs.start_at.StartAtGame.apply.Goals as goal

pub returns-clause-ok : goal.returns-clause-ok
returns-clause-ok g c = grind (arith, common_steps)

pub apply-requires-clause-legal : goal.apply-requires-clause-legal
apply-requires-clause-legal g c = grind (arith, common_steps)
