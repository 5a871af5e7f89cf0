use Rattle.std.proofs.Common.{◌≡◌, ◌+◌, ◌*◌, ◌++◌, ◌∙◌, arith}
use Rattle.std.specs.Str.Parse.{digits_value}
use Rattle.spiel_frac.proofs.Tens.{joined_is, joined_small}
use Rattle.spiel_frac.proofs.reading.joined.Goals as goal

value_is : (c : goal.After-from-2) → c.from.result * c.ten_to-shift.result + c.from-2.result ≡ digits_value 10 (c.args.digits.now ++ c.args.places.now)
value_is c =
    joined_is c.args.digits.now c.args.places.now _ _ _ (c.from.ensures ∙ c.short_value.ensures.value) c.ten_to-shift.ensures (c.from-2.ensures ∙ c.short_value-2.ensures.value)

pub returns-clause-value : goal.returns-clause-value
returns-clause-value c = value_is c

pub returns-clause-small : goal.returns-clause-small
returns-clause-small c =
    let value = value_is c in
    let small = joined_small c.args.digits.now c.args.places.now c.requires.digits c.requires.places in
    omega (arith, value, small)
