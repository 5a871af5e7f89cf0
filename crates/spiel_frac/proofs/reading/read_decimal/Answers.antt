use Rattle.std.proofs.Common.{◌≤◌, length, arith, rules}
use Rattle.spiel_frac.proofs.Tens.{scaled_fits}
use Rattle.spiel_frac.proofs.reading.read_decimal.Goals as goal

pub times_tens-requires-clause-small : goal.times_tens-requires-clause-small
times_tens-requires-clause-small c =
    let digits : length c.sides_of_point.result.0.now ≤ 18 = search rules in
    let places : length c.sides_of_point.result.1.now ≤ 18 = search rules in
    scaled_fits c.joined-number.result (length c.sides_of_point.result.0.now) (length c.sides_of_point.result.1.now) 0 _ c.joined-number.ensures.small digits places (omega arith) (omega arith)

pub times_tens-requires-else-is_negative-clause-small : goal.times_tens-requires-else-is_negative-clause-small
times_tens-requires-else-is_negative-clause-small c =
    let digits : length c.sides_of_point.result.0.now ≤ 18 = search rules in
    let places : length c.sides_of_point.result.1.now ≤ 18 = search rules in
    scaled_fits c.joined-number.result (length c.sides_of_point.result.0.now) (length c.sides_of_point.result.1.now) c.short_value-tens.result (length c.sides_of_point.result.1.now) c.joined-number.ensures.small digits places (search rules) (omega arith)
