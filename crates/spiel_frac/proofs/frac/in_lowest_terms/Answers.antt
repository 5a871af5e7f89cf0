use Rattle.std.proofs.Math.Nat.{pos_of_dvd_of_pos}
use Rattle.spiel_frac.proofs.Divisors.{coprime_parts, positive_part}
use Rattle.spiel_frac.proofs.frac.in_lowest_terms.Goals as goal

pub nonzero_div-result : goal.nonzero_div-result
nonzero_div-result c = pos_of_dvd_of_pos c.greatest_common_divisor-common.ensures.divisor.1 c.requires

pub nonzero_div-result-2 : goal.nonzero_div-result-2
nonzero_div-result-2 c = pos_of_dvd_of_pos c.greatest_common_divisor-common.ensures.divisor.1 c.requires

pub returns-clause-positive : goal.returns-clause-positive
returns-clause-positive c = positive_part c.args.b c.greatest_common_divisor-common.result c.requires c.greatest_common_divisor-common.ensures.divisor.1

pub returns-clause-lowest : goal.returns-clause-lowest
returns-clause-lowest c =
    let is = c.greatest_common_divisor-common.ensures.divisor in
    coprime_parts c.args.a c.args.b c.greatest_common_divisor-common.result (pos_of_dvd_of_pos is.1 c.requires) is
