-- The value of a number, as a fraction in lowest terms.
use Rattle.std.specs.Prelude.{ℕ, ◌+◌, ◌-◌, ◌*◌, ◌^◌, ◌==◌, ◌&&◌, Bool, true, false, List, [], ◌∷◌, ◌++◌, length, nat_le, if◌then◌else◌, Result, Err, ℤ, pos, neg_ℤ}
use Rattle.std.specs.Option.{ok_or}
use Rattle.std.specs.Str.Parse.{digits_value}
use Rattle.spiel_frac.specs.Fraction.{Fraction, quotient}
use Rattle.spiel_frac.specs.Spelling.{Sign, absent, plus, minus, before_point, behind_point, Exponent, without, power, Size, ratio, scaled, Number}
use Rattle.spiel_frac.specs.declared.fault.BadNumber.{BadNumber}
use Rattle.spiel_frac.specs.declared.fault.BadNumber.TheVariants.{Digits, ZeroDenominator}

abbrev pub is_minus : Sign → Bool
is_minus absent = false
is_minus plus = false
is_minus minus = true

-- a number without an exponent has the exponent 0
abbrev pub exponent_digits : Exponent → List ℕ
exponent_digits without = 48 ∷ []
exponent_digits (power capital sign digits) = digits

-- the exponent is negative, or -0
abbrev pub has_minus : Exponent → Bool
has_minus without = false
has_minus (power capital sign digits) = is_minus sign

-- n times ten to the power up - down, as a numerator over a denominator
abbrev pub times_tens : ℕ → ℕ → ℕ → ℕ × ℕ
times_tens n up down = (n * 10 ^ (up - down), 10 ^ (down - up))

-- digits that write n, of which so many stand behind a point, times ten to so many, negative or not
abbrev pub shifted : ℕ → ℕ → Bool → ℕ → ℕ × ℕ
shifted n places negative tens = if negative then times_tens n 0 (places + tens) else times_tens n tens places

-- a numerator and a denominator of the size
abbrev pub size_value : Size → ℕ × ℕ
size_value (ratio above below) = (digits_value 10 above, digits_value 10 below)
size_value (scaled mantissa exponent) =
    let n = digits_value 10 (before_point mantissa ++ behind_point mantissa) in
    shifted n (length (behind_point mantissa)) (has_minus exponent) (digits_value 10 (exponent_digits exponent))

-- no row of digits has more than 18, and no exponent is above 18 in size
abbrev pub is_short : Size → Bool
is_short (ratio above below) = nat_le (length above) 18 && nat_le (length below) 18
is_short (scaled mantissa exponent) =
    nat_le (length (before_point mantissa)) 18 && nat_le (length (behind_point mantissa)) 18
    && (nat_le (length (exponent_digits exponent)) 18 && nat_le (digits_value 10 (exponent_digits exponent)) 18)

abbrev pub signed : Bool → ℕ → ℤ
signed negative n = if negative then neg_ℤ (pos n) else pos n

-- the fraction with this sign, numerator and denominator
abbrev pub fraction_of : Bool → ℕ × ℕ → Result Fraction BadNumber
fraction_of negative parts = if parts.1 == 0 then Err ZeroDenominator else ok_or (quotient (signed negative parts.0) (pos parts.1)) Digits

-- a number of the grammar as a fraction in lowest terms, unless it has too many digits or a denominator of 0
abbrev pub value_of : Number → Result Fraction BadNumber
value_of n = if is_short n.size then fraction_of (is_minus n.sign) (size_value n.size) else Err Digits
