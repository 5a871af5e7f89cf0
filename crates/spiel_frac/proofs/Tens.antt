-- Powers of ten that fit, and digits times them.
use Rattle.std.proofs.Common.{◌≡◌, ◌<◌, ◌≤◌, ◌+◌, ◌-◌, ◌*◌, ◌^◌, ℕ, true, List, ◌++◌, length, sym, ◌∙◌, subst, arith, length-append}
use Rattle.std.specs.List.{list_all}
use Rattle.std.specs.Char.{is_ascii_digit}
use Rattle.std.specs.Str.Parse.{digits_value}
use Rattle.std.proofs.Math.Nat.{mul-le-mul_right, pow-le-pow_right}
use Rattle.std.proofs.lemmas.Bool.{and_from}
use Rattle.std.proofs.lemmas.List.Folds.{list_all-append}
use Rattle.std.proofs.lemmas.Nat.{pow-add}
use Rattle.spiel_frac.specs.Fraction.{most}
use Rattle.spiel_frac.proofs.Numerals.{digits_small, digits_value-append}

pub tens_fit : (k : ℕ) → k ≤ 36 → 10 ^ k ≤ 10 ^ 36
tens_fit k h = pow-le-pow_right (omega arith) h

-- digits behind others, where t is as many tens as there are
pub joined_is : (digits places : List ℕ) (a t b : ℕ) → a ≡ digits_value 10 digits → t ≡ 10 ^ length places → b ≡ digits_value 10 places → a * t + b ≡ digits_value 10 (digits ++ places)
joined_is digits places a t b p q r = rw (p, q, r) (sym (digits_value-append digits places))

pub joined_small : (digits places : List ℕ) → list_all is_ascii_digit digits ≡ true → list_all is_ascii_digit places ≡ true → digits_value 10 (digits ++ places) < 10 ^ (length digits + length places)
joined_small digits places d p =
    let all : list_all is_ascii_digit (digits ++ places) ≡ true = list_all-append is_ascii_digit digits places ∙ and_from _ _ d p in
    subst (λ (k : ℕ). digits_value 10 (digits ++ places) < 10 ^ k) (length-append digits places) (digits_small (digits ++ places) all)

-- a number of so many digits on both sides of a point, times the tens that are left of an exponent up to 18, fits
pub scaled_fits : (n a b up down : ℕ) → n < 10 ^ (a + b) → a ≤ 18 → b ≤ 18 → up ≤ 18 → b ≤ down → n * 10 ^ (up - down) ≤ most
scaled_fits n a b up down small ha hb hu hd =
    let below : n ≤ 10 ^ (a + b) = omega (arith, small) in
    let product : n * 10 ^ (up - down) ≤ 10 ^ (a + b) * 10 ^ (up - down) = mul-le-mul_right (10 ^ (up - down)) below in
    let joined : 10 ^ (a + b) * 10 ^ (up - down) ≡ 10 ^ (a + b + (up - down)) = sym (pow-add 10 (a + b) (up - down)) in
    let few : 10 ^ (a + b + (up - down)) ≤ 10 ^ 36 = tens_fit (a + b + (up - down)) (omega arith) in
    omega (arith, product, joined, few)
