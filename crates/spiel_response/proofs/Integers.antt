-- Laws of sums and multiples of integers.
use Rattle.std.proofs.Common.{◌≡◌, ℕ, zero, suc, ◌+◌, ◌*◌, ◌≤◌, ℤ, pos, ◌+ℤ◌, ◌*ℤ◌, ◌≤ℤ◌, arith, ap}
use Rattle.std.proofs.lemmas.Int.{ints}
use borrow.Author.Differences.{up, down, product_is, sum_is_lem}
use native.Mathlib.Nat.{mul-le-mul_left}

pub times_plus : (m : ℕ) (a b : ℤ) → pos m *ℤ (a +ℤ b) ≡ pos m *ℤ a +ℤ pos m *ℤ b
times_plus m a b =
    let parts = ap (λ (x : ℕ). m * x) (sum_is_lem a b) in
    omega (arith, ints)

pub plus_times : (m n : ℕ) (a : ℤ) → pos (m + n) *ℤ a ≡ pos m *ℤ a +ℤ pos n *ℤ a
plus_times m n a = omega (arith, ints)

pub times_times : (m n : ℕ) (a : ℤ) → pos m *ℤ (pos n *ℤ a) ≡ pos (m * n) *ℤ a
times_times m n a =
    let parts = product_is (pos n) a in
    let above = ap (λ (x : ℕ). m * x) parts.0 in
    let below = ap (λ (x : ℕ). m * x) parts.1 in
    omega (arith, ints)

pub no_times : (a : ℤ) → pos 0 *ℤ a ≡ pos 0
no_times a = omega (arith, ints)

pub times_none : (m : ℕ) → pos m *ℤ pos 0 ≡ pos 0
times_none m = omega (arith, ints)

pub plus_none : (a : ℤ) → a +ℤ pos 0 ≡ a
plus_none a = omega (arith, ints)

pub none_plus : (a : ℤ) → pos 0 +ℤ a ≡ a
none_plus a = omega (arith, ints)

pub swap_middle : (a b c d : ℤ) → (a +ℤ b) +ℤ (c +ℤ d) ≡ (a +ℤ c) +ℤ (b +ℤ d)
swap_middle a b c d = omega (arith, ints)

pub at_most_trans : (a b c : ℤ) → a ≤ℤ b → b ≤ℤ c → a ≤ℤ c
at_most_trans a b c h k = omega (arith, ints)

pub at_most_same : (a b : ℤ) → a ≡ b → a ≤ℤ b
at_most_same a b h = omega (arith, ints)

pub plus_at_most : (a b c d : ℤ) → a ≤ℤ b → c ≤ℤ d → (a +ℤ c) ≤ℤ (b +ℤ d)
plus_at_most a b c d h k = omega (arith, ints)

pub times_at_most : (m : ℕ) (a b : ℤ) → a ≤ℤ b → (pos m *ℤ a) ≤ℤ (pos m *ℤ b)
times_at_most m a b h =
    let parts : up a + down b ≤ up b + down a = omega (arith, ints) in
    let more = mul-le-mul_left m parts in
    omega (arith, ints)

-- the sum of f at 0 .. n - 1
abbrev pub sum_to : (ℕ → ℤ) → ℕ → ℤ
sum_to f zero = pos 0
sum_to f (suc n) = sum_to f n +ℤ f n
