use Rattle.std.proofs.Common.{rules}
use Rattle.spiel_layers.proofs.RepeatFaults.{computed_fault, computed_none}
use Rattle.spiel_layers.proofs.repeated.Repeated.new.Goals as goal

pub returns-in-Some-clause-computed : goal.returns-in-Some-clause-computed
returns-in-Some-clause-computed g c = computed_fault _ _ _ (search rules)

pub returns-in-None-clause-computed : goal.returns-in-None-clause-computed
returns-in-None-clause-computed g c = computed_none g.G.Game c.args.stage c.args.times (search rules)
