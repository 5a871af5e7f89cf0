use Rattle.std.proofs.Common.{◌≡◌, ◌∷◌, Some, arith}
use Rattle.json.specs.Json.{after_end_array}
use Rattle.json.specs.Token.{Token}
use Rattle.spiel_policy.proofs.Fronts.{pair_next}
use Rattle.spiel_policy.proofs.entrywise.take_pair.Goals as goal

pub returns-then-take_end_array-clause-next : goal.returns-then-take_end_array-clause-next
returns-then-take_end_array-clause-next c =
    let begun : c.args.reader.now ≡ Token.begin_array ∷ c.takes_array.new.reader = grind arith in
    let close : after_end_array c.take_weight.new.reader ≡ Some c.take_end_array.new.self = grind arith in
    pair_next c.in_ok-number.number c.in_ok-weight.weight c.args.reader.now c.takes_array.new.reader c.take_number.new.reader c.take_weight.new.reader c.take_end_array.new.self (omega arith) begun
    c.in_ok-number.ensures c.in_ok-weight.ensures.next close
