use Rattle.std.proofs.Math.Nat.{pos_of_dvd_of_pos}
use Rattle.spiel_frac.proofs.CommonMultiples.{least_common-is}
use Rattle.spiel_frac.proofs.multiples.lcm.Goals as goal

pub nonzero_div-part : goal.nonzero_div-part
nonzero_div-part c = pos_of_dvd_of_pos c.greatest_common_divisor.ensures.divisor.0 c.requires.a

pub returns-in-Some-clause-least : goal.returns-in-Some-clause-least
returns-in-Some-clause-least c = least_common-is c.args.a c.args.b c.requires.a c.requires.b

pub returns-in_default-clause-least : goal.returns-in_default-clause-least
returns-in_default-clause-least c = least_common-is c.args.a c.args.b c.requires.a c.requires.b

pub returns-in_default-2-clause-least : goal.returns-in_default-2-clause-least
returns-in_default-2-clause-least c = least_common-is c.args.a c.args.b c.requires.a c.requires.b
