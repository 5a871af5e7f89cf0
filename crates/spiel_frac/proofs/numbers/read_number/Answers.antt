use Rattle.std.proofs.Common.{◌≡◌, None}
use Rattle.spiel_frac.specs.Numbers.{decimal_number}
use Rattle.spiel_frac.proofs.DecimalNumbers.{no_number_zero, no_number_letter, number_is, decimal_number-is_text}
use Rattle.spiel_frac.proofs.numbers.read_number.Goals as goal

pub returns-then-has_leading_zero-clause-value : goal.returns-then-has_leading_zero-clause-value
returns-then-has_leading_zero-clause-value c = let zero = c.has_leading_zero.ensures.0 c.if-has_leading_zero.true in no_number_zero c.args.text.now zero.0 zero.1

pub returns-then-has_leading_zero-clause-text : goal.returns-then-has_leading_zero-clause-text
returns-then-has_leading_zero-clause-text c = λ n h.
    let zero = c.has_leading_zero.ensures.0 c.if-has_leading_zero.true in
    decimal_number-is_text None c.args.text.now n (no_number_zero c.args.text.now zero.0 zero.1) h

pub returns-then-not-all_digits-clause-value : goal.returns-then-not-all_digits-clause-value
returns-then-not-all_digits-clause-value c = no_number_letter c.args.text.now (let d = c.if-not-all_digits.true in let e = c.all_digits.ensures in cc)

pub returns-then-not-all_digits-clause-text : goal.returns-then-not-all_digits-clause-text
returns-then-not-all_digits-clause-text c = λ n h.
    decimal_number-is_text None c.args.text.now n (no_number_letter c.args.text.now (let d = c.if-not-all_digits.true in let e = c.all_digits.ensures in cc)) h

value_is : (c : goal.After-parsed_narrow) → c.parsed_narrow.result ≡ decimal_number c.args.text.now
value_is c =
    number_is c.args.text.now c.parsed_narrow.result (let d = c.if-not-all_digits.false in let e = c.all_digits.ensures in cc)
    (λ long first. let n = c.if-has_leading_zero.false in let e = c.has_leading_zero.ensures.1 (long, first) in let none : ⊥ = cc in none) c.parsed_narrow.ensures

pub returns-clause-value : goal.returns-clause-value
returns-clause-value c = value_is c

pub returns-clause-text : goal.returns-clause-text
returns-clause-text c = λ n h. decimal_number-is_text c.parsed_narrow.result c.args.text.now n (value_is c) h
