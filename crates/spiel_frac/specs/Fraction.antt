-- Fractions in lowest terms.
use Rattle.std.specs.Prelude.{◌≡◌, ℕ, zero, suc, ◌+◌, ◌-◌, ◌/◌, ◌%◌, ◌^◌, ◌<◌, ◌≤◌, ◌==◌, ◌&&◌, ◌++◌, nat_le, List, [], ◌∷◌, Option, None, Some, ℤ, pos, negsuc, neg_ℤ, unsigned_abs, if◌then◌else◌}
use Rattle.std.specs.Int.{IsGcd}
use Rattle.std.specs.Fmt.{decimal, signed_decimal}
use lib.IntN.{◌*ℤ◌}

-- the number num / den
pub record Fraction : Type 0 where
  pub num : ℤ
  pub den : ℕ

-- the greatest size of a part
abbrev pub most : ℕ
most = 2 ^ 127 - 1

-- in lowest terms, and neither part is too large
pub record IsLowest (f : Fraction) : Type 0 where
  pub positive : 0 < f.den
  pub den_fits : f.den ≤ most
  pub num_fits : unsigned_abs f.num ≤ most
  pub lowest : IsGcd (unsigned_abs f.num) f.den 1

-- the fraction is num / den
abbrev pub IsQuotient : Fraction → ℤ → ℤ → Type 0
IsQuotient f num den = f.num *ℤ den ≡ num *ℤ pos f.den

-- the greatest number up to a bound that divides both numbers, or 0
unfoldable pub greatest_up_to : ℕ → ℕ → ℕ → ℕ
greatest_up_to zero a b = 0
greatest_up_to (suc bound) a b = if (a % suc bound == 0) && (b % suc bound == 0) then suc bound else greatest_up_to bound a b

-- the greatest number that divides both, which is at most their sum; 0 for 0 and 0
unfoldable pub greatest_common_divisor : ℕ → ℕ → ℕ
greatest_common_divisor a b = greatest_up_to (a + b) a b

-- the number of this size, with the sign of num / den
abbrev pub signed_as : ℤ → ℤ → ℕ → ℤ
signed_as (pos num) (pos den) size = pos size
signed_as (pos num) (negsuc den) size = neg_ℤ (pos size)
signed_as (negsuc num) (pos den) size = neg_ℤ (pos size)
signed_as (negsuc num) (negsuc den) size = pos size

-- num / den in lowest terms, the sign in the numerator, where den is not 0
unfoldable pub lowest_terms : ℤ → ℤ → Fraction
lowest_terms num den =
    let common = greatest_common_divisor (unsigned_abs num) (unsigned_abs den) in
    record { num = signed_as num den (unsigned_abs num / common); den = unsigned_abs den / common }

-- the fraction, unless a part is too large
unfoldable pub within_most : Fraction → Option Fraction
within_most f = if nat_le (unsigned_abs f.num) most && nat_le f.den most then Some f else None

-- num / den in lowest terms: none where den is 0 or a part is too large
unfoldable pub quotient : ℤ → ℤ → Option Fraction
quotient num (pos zero) = None
quotient num (pos (suc den)) = within_most (lowest_terms num (pos (suc den)))
quotient num (negsuc den) = within_most (lowest_terms num (negsuc den))

-- the numerator, and behind a slash the denominator unless it is 1
abbrev pub frac_text : Fraction → List ℕ
frac_text f = signed_decimal f.num ++ (if f.den == 1 then [] else 47 ∷ [] ++ decimal f.den)

-- the text of num / den in lowest terms
unfoldable pub ratio_text : ℕ → ℕ → List ℕ
ratio_text num den = frac_text (lowest_terms (pos num) (pos den))
