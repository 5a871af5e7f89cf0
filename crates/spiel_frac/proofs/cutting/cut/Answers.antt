use Rattle.spiel_frac.proofs.Cuts.{cut_at, cut_nowhere}
use Rattle.spiel_frac.proofs.cutting.cut.Goals as goal

pub returns-in-Some-clause-sides : goal.returns-in-Some-clause-sides
returns-in-Some-clause-sides c = cut_at c.args.mark c.args.text.now c.in-Some.at c.in-Some.ensures

pub returns-in-None-clause-sides : goal.returns-in-None-clause-sides
returns-in-None-clause-sides c = cut_nowhere c.args.mark c.args.text.now c.in-None.ensures
