use Rattle.std.proofs.Common.{◌≡◌, true, rules, arith}
use Rattle.spiel_string.specs.Values.{are_digits}
use Rattle.spiel_string.proofs.Digits.{are_digits-parts, digits_found, digits_small}
use Rattle.spiel_string.proofs.words.digits.Goals as goal

pub short_value-requires-clause-digits : goal.short_value-requires-clause-digits
short_value-requires-clause-digits c =
    let all : are_digits c.args.bytes.now ≡ true = search rules in (are_digits-parts c.args.bytes.now all).2

pub short_value-requires-clause-short : goal.short_value-requires-clause-short
short_value-requires-clause-short c =
    let all : are_digits c.args.bytes.now ≡ true = search rules in (are_digits-parts c.args.bytes.now all).1

pub returns-clause-value : goal.returns-clause-value
returns-clause-value c =
    let all : are_digits c.args.bytes.now ≡ true = search rules in digits_found c.args.bytes.now c.short_value.result all c.short_value.ensures.value

pub returns-clause-small : goal.returns-clause-small
returns-clause-small c =
    let all : are_digits c.args.bytes.now ≡ true = search rules in
    omega (arith, digits_small c.args.bytes.now all, c.short_value.ensures.value)
