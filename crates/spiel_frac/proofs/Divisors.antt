-- Divisors of products and of quotients.
use Rattle.std.proofs.Common.{◌≡◌, ◌≢◌, ℕ, zero, suc, ◌+◌, ◌-◌, ◌*◌, ◌/◌, ◌%◌, ◌<◌, ◌≤◌, ◌⊎◌, inl, inr, refl, sym, ap, ◌∙◌, subst, arith}
use Rattle.std.specs.Int.{IsGcd, ◌∣◌}
use Rattle.std.proofs.Math.Nat.{dvd_refl, eq-zero_of_zero-dvd, dvd-mul_left, dvd_antisymm, mul_comm, mul-div-mul_left, div-add-mod, mod-eq-sub-mul-div, mul-div_cancel', dvd_of_mul-dvd-mul_left, mul-dvd-mul_left, zero-mul, mul-zero, mul-one, one-dvd, mul-div_right}
use Rattle.std.proofs.lemmas.Nat.Gcd.{IsGcd-from_zero, IsGcd-from_mod, IsGcd-swap, same_from_IsGcd, dvd_of_mod-eq-zero, mod-eq-zero_of_dvd, le_of_dvd, le_from_IsGcd}
use Rattle.std.proofs.lemmas.Bool.Decides.{eqb_tells}
use Rattle.spiel_frac.specs.Fraction.{greatest_up_to, greatest_common_divisor}

zero_or_positive : (n : ℕ) → (n ≡ 0) ⊎ (0 < n)
zero_or_positive zero = inl refl
zero_or_positive (suc n) = inr (omega arith)

-- the rest of multiples is the multiple of the rest
mod_scaled : (a b k : ℕ) → 0 < k → k * a % (k * b) ≡ k * (a % b)
mod_scaled a b k h =
    let q = a / b in
    let scaled : k * a / (k * b) ≡ q = mul-div-mul_left a b h in
    let e : k * a % (k * b) ≡ k * a - k * b * q = mod-eq-sub-mul-div (k * a) (k * b) ∙ ap (λ x. k * a - k * b * x) scaled in
    let parts : k * (b * q + a % b) ≡ k * a = ap (λ x. k * x) (div-add-mod a b) in
    e ∙ omega (arith, parts)

scale_step : (a b g : ℕ) → ((k : ℕ) → IsGcd (k * b) (k * (a % b)) (k * g)) → (k : ℕ) → IsGcd (k * a) (k * b) (k * g)
scale_step a b g h zero = rw (zero-mul a, zero-mul b, zero-mul g) (IsGcd-from_zero 0 0 refl)
scale_step a b g h (suc k) = IsGcd-from_mod (suc k * a) (suc k * b) (suc k * g) (subst (λ r. IsGcd (suc k * b) r (suc k * g)) (sym (mod_scaled a b (suc k) (omega arith))) (h (suc k)))

-- the greatest divisor of two numbers, and of their multiples
gcd_scaled : (fuel a b : ℕ) → b ≤ fuel → (g : ℕ) × IsGcd a b g × ((k : ℕ) → IsGcd (k * a) (k * b) (k * g))
gcd_scaled fuel a zero h = (a, IsGcd-from_zero a zero refl, (λ k. IsGcd-from_zero (k * a) (k * zero) (mul-zero k)))
gcd_scaled zero a (suc b) h = absurd (omega arith)
gcd_scaled (suc fuel) a (suc b) h =
    let below : a % suc b ≤ fuel = omega arith in
    let rest = gcd_scaled fuel (suc b) (a % suc b) below in
    (rest.0, IsGcd-from_mod a (suc b) rest.0 rest.1, scale_step a (suc b) rest.0 rest.2)

-- the greatest common divisor of both numbers times a third
pub gcd_times : (a b g k : ℕ) → IsGcd a b g → IsGcd (k * a) (k * b) (k * g)
gcd_times a b g k is =
    let some = gcd_scaled b a b (omega arith) in
    subst (λ x. IsGcd (k * a) (k * b) (k * x)) (same_from_IsGcd a b some.0 g some.1 is) (some.2 k)

-- what divides a product, and has no divisor with the one factor, divides the other
pub euclid : (a b c : ℕ) → IsGcd a b 1 → a ∣ c * b → a ∣ c
euclid a b c h k =
    let all = gcd_scaled b a b (omega arith) in
    let one : all.0 ≡ 1 = same_from_IsGcd a b all.0 1 all.1 h in
    let whole : c * all.0 ≡ c = ap (λ x. c * x) one ∙ mul-one c in
    subst (λ x. a ∣ x) whole ((all.2 c).2 a (dvd-mul_left a c) k)

-- both parts by their greatest common divisor have no divisor
pub coprime_parts : (a b g : ℕ) → 0 < g → IsGcd a b g → IsGcd (a / g) (b / g) 1
coprime_parts a b g h k = (
  one-dvd (a / g),
  one-dvd (b / g),
  λ d p q.
      dvd_of_mul-dvd-mul_left d h (subst (λ x. g * d ∣ x) (sym (mul-one g))
      (k.2 (g * d) (subst (λ x. g * d ∣ x) (mul-div_cancel' g k.0) (mul-dvd-mul_left d g p)) (subst (λ x. g * d ∣ x) (mul-div_cancel' g k.1) (mul-dvd-mul_left d g q)))),
)

-- a part of a number above 0 is above 0
pub positive_part : (a g : ℕ) → 0 < a → g ∣ a → 0 < a / g
positive_part a g h k = elim (zero_or_positive (a / g))
    [ inl e ↦ absurd (let whole = mul-div_cancel' g k in let none : a ≡ 0 = sym whole ∙ ap (λ x. g * x) e ∙ mul-zero g in omega arith) | inr p ↦ p ]

pub cancel_left : (g x y : ℕ) → 0 < g → g * x ≡ g * y → x ≡ y
cancel_left g x y h e = sym (mul-div_right x h) ∙ ap (λ z. z / g) e ∙ mul-div_right y h

-- two pairs in lowest terms with one ratio are one pair
pub same_ratio : (a b c d : ℕ) → 0 < b → 0 < d → IsGcd a b 1 → IsGcd c d 1 → a * d ≡ c * b → (a ≡ c) × (b ≡ d)
same_ratio a b c d hb hd h k e =
    let b_divides : b ∣ d = euclid b a d (IsGcd-swap a b 1 h) (subst (λ x. b ∣ x) (sym (mul_comm d a ∙ e)) (dvd-mul_left b c)) in
    let d_divides : d ∣ b = euclid d c b (IsGcd-swap c d 1 k) (subst (λ x. d ∣ x) (e ∙ mul_comm c b) (dvd-mul_left d a)) in
    let same : b ≡ d = dvd_antisymm b_divides d_divides in
    (cancel_left d a c hd (mul_comm d a ∙ e ∙ ap (λ x. c * x) same ∙ mul_comm c d), same)

-- a divisor is below a bound that is none
below_bound : (a g bound : ℕ) → g ∣ a → a % suc bound ≢ 0 → g ≤ suc bound → g ≤ bound
below_bound a g bound d ne h = elim (eqb_tells g (suc bound))
    [ inl e ↦ absurd (ne (subst (λ x. a % x ≡ 0) e.1 (mod-eq-zero_of_dvd g d))) | inr e ↦ let other = e.1 in omega arith ]

-- the search from any bound on finds it
greatest_up_to-is : (bound a b g : ℕ) → IsGcd a b g → 0 < g → g ≤ bound → g ≡ greatest_up_to bound a b
unfolding greatest_up_to
greatest_up_to-is zero a b g is p h = absurd (omega arith)
greatest_up_to-is (suc n) a b g is p h = elim (eqb_tells (a % suc n) 0) [
  | inl x ↦ elim (eqb_tells (b % suc n) 0) [
    | inl y ↦ rw (x.0, y.0) (let top = le_from_IsGcd a b g (suc n) is p (dvd_of_mod-eq-zero (suc n) x.1) (dvd_of_mod-eq-zero (suc n) y.1) in omega arith)
    | inr y ↦ rw (x.0, y.0) (greatest_up_to-is n a b g is p (below_bound b g n is.1 y.1 h))
  ]
  | inr x ↦ rw x.0 (greatest_up_to-is n a b g is p (below_bound a g n is.0 x.1 h))
]

within_sum : (a b g : ℕ) → IsGcd a b g → 0 < g → g ≤ a + b
within_sum zero zero g is p = absurd (let none = eq-zero_of_zero-dvd (is.2 0 (dvd_refl 0) (dvd_refl 0)) in omega arith)
within_sum zero (suc b) g is p = let low : g ≤ suc b = le_of_dvd (omega arith) is.1 in omega (arith, low)
within_sum (suc a) b g is p = let low : g ≤ suc a = le_of_dvd (omega arith) is.0 in omega (arith, low)

-- what divides both, and is divided by each that does, is the greatest that does
pub greatest_common_divisor-is : (a b g : ℕ) → IsGcd a b g → g ≡ greatest_common_divisor a b
unfolding greatest_common_divisor greatest_up_to
greatest_common_divisor-is a b g is = elim (zero_or_positive g) [
  | inl e ↦ rw (eq-zero_of_zero-dvd (subst (λ x. x ∣ a) e is.0), eq-zero_of_zero-dvd (subst (λ x. x ∣ b) e is.1)) e
  | inr p ↦ greatest_up_to-is (a + b) a b g is p (within_sum a b g is p)
]

-- there is one for any two numbers
pub IsGcd-greatest : (a b : ℕ) → IsGcd a b (greatest_common_divisor a b)
IsGcd-greatest a b =
    let some = gcd_scaled b a b (omega arith) in
    subst (λ g. IsGcd a b g) (greatest_common_divisor-is a b some.0 some.1) some.1
