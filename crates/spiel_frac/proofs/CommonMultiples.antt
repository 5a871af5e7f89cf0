-- Least common multiples, of two numbers and of a list.
use Rattle.std.specs.Prelude.{slice_index_or}
use Rattle.std.proofs.Common.{◌≡◌, ℕ, zero, suc, ◌*◌, ◌/◌, ◌<◌, ◌≤◌, List, [], ◌∷◌, ◌++◌, length, refl, sym, ap, ◌∙◌, subst, arith}
use Rattle.std.specs.Int.{IsGcd, ◌∣◌}
use Rattle.std.proofs.Math.Nat.{dvd_refl, dvd_antisymm, dvd-mul_left, dvd-mul_right, mul-dvd-mul_left, dvd_of_mul-dvd-mul_left, mul-div_cancel', mul_comm, mul_assoc, mul-pos, one-dvd, pos_of_dvd_of_pos}
use Rattle.std.proofs.lemmas.Nat.Gcd.{dvd_trans, le_of_dvd}
use Rattle.spiel_frac.specs.Fraction.{greatest_common_divisor}
use Rattle.spiel_frac.specs.Multiples.{ArePositive, IsMultiple, IsLeastMultiple, least_common_multiple, least_multiple_from, least_multiple}
use Rattle.spiel_frac.proofs.Divisors.{IsGcd-greatest, gcd_times, positive_part}

-- the product by the greatest common divisor divides each common multiple
product_divides : (a b g m : ℕ) → 0 < g → IsGcd a b g → a ∣ m → b ∣ m → a / g * b ∣ m
product_divides a b g m pg is h k =
    let whole : a * b ≡ g * (a / g * b) = ap (λ x. x * b) (sym (mul-div_cancel' g is.0)) ∙ mul_assoc g (a / g) b in
    let first : a * b ∣ m * a = subst (λ x. a * b ∣ x) (mul_comm a m) (mul-dvd-mul_left b a k) in
    let second : a * b ∣ m * b = subst (λ x. x ∣ m * b) (mul_comm b a) (subst (λ x. b * a ∣ x) (mul_comm b m) (mul-dvd-mul_left a b h)) in
    let both : a * b ∣ g * m = subst (λ x. a * b ∣ x) (mul_comm m g) ((gcd_times a b g m is).2 (a * b) first second) in
    dvd_of_mul-dvd-mul_left (a / g * b) pg (subst (λ x. x ∣ g * m) whole both)

-- and is one
product_multiple : (a b g : ℕ) → IsGcd a b g → a ∣ a / g * b
product_multiple a b g is =
    let q = a / g in let r = b / g in
    let e : a * r ≡ q * b =
    ap (λ x. x * r) (sym (mul-div_cancel' g is.0)) ∙ ap (λ x. x * r) (mul_comm g q) ∙ mul_assoc q g r ∙ ap (λ x. q * x) (mul-div_cancel' g is.1) in
    subst (λ x. a ∣ x) e (dvd-mul_right a r)

-- the least common multiple of two numbers above 0 is what it is named for
pub least_common-is : (a b : ℕ) → 0 < a → 0 < b → IsLeastMultiple (a ∷ b ∷ []) (least_common_multiple a b)
unfolding least_common_multiple
least_common-is a b pa pb =
    let g = greatest_common_divisor a b in
    let is : IsGcd a b g = IsGcd-greatest a b in
    let pg : 0 < g = pos_of_dvd_of_pos is.0 pa in
    record {
      positive = mul-pos (positive_part a g pa is.0) pb;
      multiple = (product_multiple a b g is, (dvd-mul_left b (a / g), tt));
      least = λ m h. product_divides a b g m pg is h.0 h.1.0;
    }

-- a list has one least common multiple
pub one_least : (xs : List ℕ) (n m : ℕ) → IsLeastMultiple xs n → IsLeastMultiple xs m → n ≡ m
one_least xs n m h k = dvd_antisymm (h.least m k.multiple) (k.least n h.multiple)

-- from a number above 0 on, it is the least common multiple of that number and the list
pub least_multiple_from-is : (n : ℕ) (xs : List ℕ) → 0 < n → ArePositive xs → IsLeastMultiple (n ∷ xs) (least_multiple_from n xs)
least_multiple_from-is n [] p q = record { positive = p; multiple = (dvd_refl n, tt); least = λ m h. h.0 }
least_multiple_from-is n (x ∷ xs) p q =
    let step = least_common-is n x p q.0 in
    let rest = least_multiple_from-is (least_common_multiple n x) xs step.positive q.1 in
    record {
      positive = rest.positive;
      multiple = (dvd_trans n step.multiple.0 rest.multiple.0, (dvd_trans x step.multiple.1.0 rest.multiple.0, rest.multiple.1));
      least = λ m h. rest.least m (step.least m (h.0, (h.1.0, tt)), h.1.1);
    }

-- that of a list of numbers above 0 is what it is named for
pub least_multiple-is : (xs : List ℕ) → ArePositive xs → IsLeastMultiple xs (least_multiple xs)
least_multiple-is xs q =
    let one = least_multiple_from-is 1 xs (omega arith) q in
    record { positive = one.positive; multiple = one.multiple.1; least = λ m h. one.least m (one-dvd m, h) }

-- of two lists, one behind the other, that of the second from that of the first on
pub least_multiple_from-append : (n : ℕ) (xs ys : List ℕ) → least_multiple_from n (xs ++ ys) ≡ least_multiple_from (least_multiple_from n xs) ys
least_multiple_from-append n [] ys = refl
least_multiple_from-append n (x ∷ xs) ys = least_multiple_from-append (least_common_multiple n x) xs ys

-- one number more
pub least_multiple-push : (xs : List ℕ) (x : ℕ) → least_multiple (xs ++ x ∷ []) ≡ least_common_multiple (least_multiple xs) x
least_multiple-push xs x = least_multiple_from-append 1 xs (x ∷ [])

-- that of more numbers is a multiple of it
pub least_multiple-divides : (xs ys : List ℕ) → ArePositive xs → ArePositive ys → least_multiple xs ∣ least_multiple (xs ++ ys)
least_multiple-divides xs ys p q = rw (least_multiple_from-append 1 xs ys) (least_multiple_from-is (least_multiple xs) ys (least_multiple-is xs p).positive q).multiple.0

-- and no less
pub least_multiple-grows : (xs ys : List ℕ) → ArePositive xs → ArePositive ys → least_multiple xs ≤ least_multiple (xs ++ ys)
least_multiple-grows xs ys p q =
    let above : 0 < least_multiple (xs ++ ys) = rw (least_multiple_from-append 1 xs ys) (least_multiple_from-is (least_multiple xs) ys (least_multiple-is xs p).positive q).positive in
    le_of_dvd above (least_multiple-divides xs ys p q)

-- each number of a list divides a multiple of all
pub multiple_at : (xs : List ℕ) (n k : ℕ) → IsMultiple xs n → k < length xs → slice_index_or xs k 1 ∣ n
multiple_at [] n k h l = absurd (omega arith)
multiple_at (x ∷ xs) n zero h l = h.0
multiple_at (x ∷ xs) n (suc k) h l = multiple_at xs n k h.1 (omega arith)

-- each number of a list divides the least
pub divides_least : (xs : List ℕ) (k : ℕ) → ArePositive xs → k < length xs → slice_index_or xs k 1 ∣ least_multiple xs
divides_least xs k p l = multiple_at xs (least_multiple xs) k (least_multiple-is xs p).multiple l
