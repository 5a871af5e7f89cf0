-- The definitions of a quotient keep what they are named for.
use Rattle.std.proofs.Common.{◌≡◌, ◌≢◌, ℕ, zero, suc, ◌*◌, ◌/◌, ◌<◌, ◌≤◌, ◌⊎◌, inl, inr, None, Some, refl, sym, ap, ◌∙◌, subst, arith}
use Rattle.std.specs.Prelude.{ℤ, pos, negsuc, neg_ℤ, unsigned_abs, IfSome, IfNone}
use Rattle.std.specs.Int.{IsGcd}
use Rattle.std.proofs.lemmas.Int.{unsigned_abs-mul}
use Rattle.std.proofs.lemmas.Bool.Decides.{leb_tells}
use Rattle.std.proofs.Math.Nat.{dvd_refl, one-dvd, div-one, mul-div_cancel', pos_of_dvd_of_pos, mul_comm, mul_assoc, zero-mul, div-le_self}
use lib.IntN.{◌*ℤ◌}
use Rattle.spiel_frac.specs.Fraction.{Fraction, IsLowest, IsQuotient, most, greatest_common_divisor, signed_as, lowest_terms, within_most, quotient}
use Rattle.spiel_frac.proofs.Divisors.{IsGcd-greatest, greatest_common_divisor-is, coprime_parts, positive_part, same_ratio, cancel_left}

size_neg : (n : ℕ) → unsigned_abs (neg_ℤ (pos n)) ≡ n
size_neg zero = refl
size_neg (suc n) = refl

-- a sign leaves the size
pub unsigned_abs-signed_as : (num den : ℤ) (size : ℕ) → unsigned_abs (signed_as num den size) ≡ size
unsigned_abs-signed_as (pos n) (pos d) size = refl
unsigned_abs-signed_as (pos n) (negsuc d) size = size_neg size
unsigned_abs-signed_as (negsuc n) (pos d) size = size_neg size
unsigned_abs-signed_as (negsuc n) (negsuc d) size = refl

size_positive : (z : ℤ) → z ≢ pos 0 → 0 < unsigned_abs z
size_positive (pos zero) h = absurd (h refl)
size_positive (pos (suc n)) h = omega arith
size_positive (negsuc n) h = omega arith

neg_times_pos : (t d : ℕ) → neg_ℤ (pos t) *ℤ pos d ≡ neg_ℤ (pos (t * d))
neg_times_pos zero d = rw (zero-mul d) refl
neg_times_pos (suc t) d = refl

neg_times_neg : (t d : ℕ) → neg_ℤ (pos t) *ℤ negsuc d ≡ pos (t * suc d)
neg_times_neg zero d = rw (zero-mul (suc d)) refl
neg_times_neg (suc t) d = refl

-- sizes in the ratio of num and den are num / den once they have its sign
signed_as-times : (num den : ℤ) (top bottom : ℕ) → top * unsigned_abs den ≡ unsigned_abs num * bottom → signed_as num den top *ℤ den ≡ num *ℤ pos bottom
signed_as-times (pos n) (pos d) top bottom e = ap pos e
signed_as-times (pos n) (negsuc d) top bottom e = neg_times_neg top d ∙ ap pos e
signed_as-times (negsuc n) (pos d) top bottom e = neg_times_pos top d ∙ ap (λ x. neg_ℤ (pos x)) e
signed_as-times (negsuc n) (negsuc d) top bottom e = ap (λ x. neg_ℤ (pos x)) e

-- the fraction is in lowest terms, where its numerator has this size
pub IsLowest-of_size : (f : Fraction) (top : ℕ) → unsigned_abs f.num ≡ top → 0 < f.den → IsGcd top f.den 1 → top ≤ most → f.den ≤ most → IsLowest f
IsLowest-of_size f top e p is h k = record { positive = p; den_fits = k; num_fits = rw e h; lowest = rw e is }

-- neither part is too large
abbrev Fits : Fraction → Type 0
Fits f = (unsigned_abs f.num ≤ most) × (f.den ≤ most)

-- a fraction is given where both parts fit, and only there
within_most-cases : (f : Fraction) → ((within_most f ≡ Some f) × Fits f) ⊎ ((within_most f ≡ None) × (Fits f → ⊥))
unfolding within_most
within_most-cases f = elim (leb_tells (unsigned_abs f.num) most) [
  | inl x ↦ elim (leb_tells f.den most)
      [ inl y ↦ inl (rw (x.0, y.0) refl, (x.1, y.1)) | inr y ↦ inr (rw (x.0, y.0) refl, λ fits. let low = fits.1 in let high = y.1 in omega arith) ]
  | inr x ↦ inr (rw x.0 refl, λ fits. let low = fits.0 in let high = x.1 in omega arith)
]

within_most-some : (f : Fraction) → Fits f → within_most f ≡ Some f
within_most-some f fits = elim (within_most-cases f) [ inl s ↦ s.0 | inr n ↦ absurd (n.1 fits) ]

-- the parts of num / den are divided by this
abbrev common : ℤ → ℤ → ℕ
common num den = greatest_common_divisor (unsigned_abs num) (unsigned_abs den)

module _ (num den : ℤ) (nonzero : den ≢ pos 0) where
  is_common : IsGcd (unsigned_abs num) (unsigned_abs den) (common num den)
  is_common = IsGcd-greatest (unsigned_abs num) (unsigned_abs den)

  common_positive : 0 < common num den
  common_positive = pos_of_dvd_of_pos is_common.1 (size_positive den nonzero)

  bottom_positive : 0 < unsigned_abs den / common num den
  bottom_positive = positive_part (unsigned_abs den) (common num den) (size_positive den nonzero) is_common.1

  coprime : IsGcd (unsigned_abs num / common num den) (unsigned_abs den / common num den) 1
  coprime = coprime_parts (unsigned_abs num) (unsigned_abs den) (common num den) common_positive is_common

  -- cross-multiplied, the parts are in the ratio of num and den
  same_ratio_of_parts : unsigned_abs num / common num den * unsigned_abs den ≡ unsigned_abs num * (unsigned_abs den / common num den)
  same_ratio_of_parts =
      let a = unsigned_abs num in let b = unsigned_abs den in let g = common num den in
      ap (λ x. a / g * x) (sym (mul-div_cancel' g is_common.1)) ∙ sym (mul_assoc (a / g) g (b / g)) ∙ ap (λ x. x * (b / g)) (mul_comm (a / g) g ∙ mul-div_cancel' g is_common.0)

  lowest_terms-IsQuotient : IsQuotient (lowest_terms num den) num den
  unfolding lowest_terms
  lowest_terms-IsQuotient = signed_as-times num den (unsigned_abs num / common num den) (unsigned_abs den / common num den) same_ratio_of_parts

  size_of_num : unsigned_abs (lowest_terms num den).num ≡ unsigned_abs num / common num den
  unfolding lowest_terms
  size_of_num = unsigned_abs-signed_as num den (unsigned_abs num / common num den)

  den_of : (lowest_terms num den).den ≡ unsigned_abs den / common num den
  unfolding lowest_terms
  den_of = refl

  lowest_terms-IsLowest : unsigned_abs (lowest_terms num den).num ≤ most → (lowest_terms num den).den ≤ most → IsLowest (lowest_terms num den)
  lowest_terms-IsLowest h k = IsLowest-of_size (lowest_terms num den) (unsigned_abs num / common num den) size_of_num (rw den_of bottom_positive) (rw den_of coprime) (rw (← size_of_num) h) k

  -- each fraction in lowest terms that is num / den has parts of these sizes
  lowest_terms-unique : (f : Fraction) → IsLowest f → IsQuotient f num den → (unsigned_abs f.num ≡ unsigned_abs (lowest_terms num den).num) × (f.den ≡ (lowest_terms num den).den)
  lowest_terms-unique f low e =
      let a = unsigned_abs num in let b = unsigned_abs den in let g = common num den in let n = unsigned_abs f.num in
      let sizes : n * b ≡ a * f.den = sym (unsigned_abs-mul f.num den) ∙ ap unsigned_abs e ∙ unsigned_abs-mul num (pos f.den) in
      let scaled : g * (n * (b / g)) ≡ g * (a / g * f.den) =
      sym (mul_assoc g n (b / g)) ∙ ap (λ x. x * (b / g)) (mul_comm g n) ∙ mul_assoc n g (b / g) ∙ ap (λ x. n * x) (mul-div_cancel' g is_common.1)
      ∙ sizes ∙ ap (λ x. x * f.den) (sym (mul-div_cancel' g is_common.0)) ∙ mul_assoc g (a / g) f.den in
      rw (size_of_num, den_of) (same_ratio n f.den (a / g) (b / g) low.positive bottom_positive low.lowest coprime (cancel_left g (n * (b / g)) (a / g * f.den) common_positive scaled))

-- where den is not 0, only a part that is too large stands against a quotient
quotient-nonzero : (num den : ℤ) → den ≢ pos 0 → quotient num den ≡ within_most (lowest_terms num den)
unfolding quotient
quotient-nonzero num (pos zero) h = absurd (h refl)
quotient-nonzero num (pos (suc den)) h = refl
quotient-nonzero num (negsuc den) h = refl

pub quotient-zero : (num : ℤ) → quotient num (pos 0) ≡ None
unfolding quotient
quotient-zero num = refl

-- the quotient by its parts
pub quotient-of_parts : (num den : ℤ) (top bottom : ℕ) → den ≢ pos 0 → top ≡ unsigned_abs num / common num den → bottom ≡ unsigned_abs den / common num den → within_most (record { num = signed_as num den top; den = bottom }) ≡ quotient num den
unfolding lowest_terms
quotient-of_parts num den top bottom h t b = rw (t, b) (sym (quotient-nonzero num den h))

zero_or_nonzero : (z : ℤ) → (z ≡ pos 0) ⊎ (z ≢ pos 0)
zero_or_nonzero (pos zero) = inl refl
zero_or_nonzero (pos (suc n)) = inr (λ e. cc)
zero_or_nonzero (negsuc n) = inr (λ e. cc)

-- a quotient is the one fraction in lowest terms with that value
pub quotient-IfSome : (num den : ℤ) → IfSome (quotient num den) (λ f. (den ≢ pos 0) × IsLowest f × IsQuotient f num den)
quotient-IfSome num den = elim (zero_or_nonzero den) [
  | inl e ↦ rw (ap (quotient num) e ∙ quotient-zero num) tt
  | inr h ↦ rw (quotient-nonzero num den h) (elim (within_most-cases (lowest_terms num den))
      [ inl s ↦ rw s.0 (h, lowest_terms-IsLowest num den h s.1.0 s.1.1, lowest_terms-IsQuotient num den h) | inr n ↦ rw n.0 tt ])
]

-- and where there is none, no fraction in lowest terms has that value
pub quotient-IfNone : (num den : ℤ) → IfNone (quotient num den) ((f : Fraction) → IsLowest f → IsQuotient f num den → den ≡ pos 0)
quotient-IfNone num den = elim (zero_or_nonzero den) [
  | inl e ↦ rw (ap (quotient num) e ∙ quotient-zero num) (λ f low q. e)
  | inr h ↦ rw (quotient-nonzero num den h) (elim (within_most-cases (lowest_terms num den))
      [ inl s ↦ rw s.0 tt | inr n ↦ rw n.0 (λ f low q. let parts = lowest_terms-unique num den h f low q in absurd (n.1 (subst (λ x. x ≤ most) parts.0 low.num_fits, subst (λ x. x ≤ most) parts.1 low.den_fits))) ])
]

-- two numbers that fit have a quotient
pub quotient-fits : (num den : ℤ) → den ≢ pos 0 → unsigned_abs num ≤ most → unsigned_abs den ≤ most → quotient num den ≡ Some (lowest_terms num den)
quotient-fits num den h n d = quotient-nonzero num den h ∙ within_most-some (lowest_terms num den) (rw (size_of_num num den h) (omega (arith, div-le_self (unsigned_abs num) (common num den))), rw (den_of num den h) (omega (arith, div-le_self (unsigned_abs den) (common num den))))

-- the denominator of w / n, two numbers from 0 on
pub lowest_terms-den : (w n : ℕ) → (lowest_terms (pos w) (pos n)).den ≡ n / greatest_common_divisor w n
unfolding lowest_terms
lowest_terms-den w n = refl

-- it is above 0
pub lowest_terms-den_positive : (w n : ℕ) → 0 < n → 0 < (lowest_terms (pos w) (pos n)).den
lowest_terms-den_positive w n p = rw (lowest_terms-den w n) (positive_part n (greatest_common_divisor w n) p (IsGcd-greatest w n).1)

-- that of 1 / n is n
pub lowest_terms-den_of_unit : (n : ℕ) → (lowest_terms (pos 1) (pos n)).den ≡ n
lowest_terms-den_of_unit n =
    let one : 1 ≡ greatest_common_divisor 1 n = greatest_common_divisor-is 1 n 1 (dvd_refl 1, one-dvd n, λ d h k. h) in
    lowest_terms-den 1 n ∙ ap (λ x. n / x) (sym one) ∙ div-one n

-- that of a whole number is 1
pub lowest_terms-den_of_whole : (w : ℕ) → (lowest_terms (pos w) (pos 1)).den ≡ 1
lowest_terms-den_of_whole w =
    let one : 1 ≡ greatest_common_divisor w 1 = greatest_common_divisor-is w 1 1 (one-dvd w, dvd_refl 1, λ d h k. k) in
    lowest_terms-den w 1 ∙ ap (λ x. 1 / x) (sym one) ∙ div-one 1
