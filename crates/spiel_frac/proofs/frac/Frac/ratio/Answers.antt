use Rattle.std.proofs.Common.{rules}
use Rattle.spiel_frac.specs.Fraction.{ratio_text}
use Rattle.spiel_frac.proofs.frac.Frac.ratio.Goals as goal

pub returns-clause-text : goal.returns-clause-text
unfolding ratio_text
returns-clause-text c = search rules
