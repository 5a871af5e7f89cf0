-- A profile is a policy in q-ths, where q is a multiple of all its sums.
use Rattle.std.proofs.Common.{◌≡◌, ℕ, zero, suc, ◌+◌, ◌-◌, ◌*◌, ◌/◌, ◌^◌, ◌<◌, ◌≤◌, List, [], ◌∷◌, length, ℤ, pos, ◌+ℤ◌, ◌*ℤ◌, ◌≤ℤ◌, arith, refl, ap, ap₂, sym, subst, subst₂, ◌∙◌, ◌⊎◌, inl, inr, pow-add}
use Rattle.std.specs.List.{AllByRecursion}
use Prim.Native.Nat.{◌∣◌}
use Rattle.std.proofs.lemmas.Int.{ints}
use Rattle.std.proofs.lemmas.Bool.{cases_lt}
use native.Mathlib.Nat.{pow-zero, pow-succ', dvd-mul_left, dvd-mul_right_of_dvd, mul-div_cancel', mul-pos, one-le-pow, le_of_mul-le-mul_left}
use borrow.Author.Differences.{up, down}
use Rattle.std.proofs.Math.IntN.{*ℤ_comm}
use Rattle.spiel_response.specs.Values.{sum_over}
use Rattle.spiel_response.specs.Responses.{OwnStep, Leaf, sum_below, earns, realization, mixed, most_steps, IsPolicy}
use Rattle.spiel_response.specs.Remembered.{IsRising}
use Rattle.spiel_response.proofs.Laws.{IsOwnPart, wholes, Played, IsEarned, leaves_of, NoProfileEarnsMore}
use Rattle.spiel_response.proofs.Integers.{times_times}
use Rattle.spiel_response.proofs.PolicySums.{sum_over_same, sum_over_times}
use Rattle.spiel_response.proofs.Exchange.{every_leaf, both_facts, most_is, no_policy_earns_more}

-- the product of f at low .. low + n - 1
product_to : (ℕ → ℕ) → ℕ → ℕ → ℕ
product_to f low zero = 1
product_to f low (suc n) = product_to f low n * f (low + n)

product_positive : (f : ℕ → ℕ) (low n : ℕ) → ((i : ℕ) → low ≤ i → i < low + n → 1 ≤ f i) → 1 ≤ product_to f low n
unfolding product_to
product_positive f low zero h = omega arith
product_positive f low (suc n) h = mul-pos (product_positive f low n (λ i k l. h i k (omega arith))) (h (low + n) (omega arith) (omega arith))

product_multiple : (f : ℕ → ℕ) (low n i : ℕ) → low ≤ i → i < low + n → f i ∣ product_to f low n
unfolding product_to
product_multiple f low zero i h k = absurd (omega arith)
product_multiple f low (suc n) i h k = by (product_multiple f low n i h) (cases_lt i (low + n))
  where
    by : (i < low + n → f i ∣ product_to f low n) → (i < low + n) ⊎ (low + n ≤ i) → f i ∣ product_to f low n * f (low + n)
    by ih (inl l) = dvd-mul_right_of_dvd (f i) (ih l) (f (low + n))
    by ih (inr g) = let same : low + n ≡ i = omega arith in subst (λ (j : ℕ). f i ∣ product_to f low n * f j) (sym same) (dvd-mul_left (f i) (product_to f low n))

sum_below_times : (f : ℕ → ℕ) (m n : ℕ) → sum_below (λ a. f a * m) n ≡ sum_below f n * m
sum_below_times f m zero = omega arith
sum_below_times f m (suc n) = let ih = sum_below_times f m n in omega arith

module _ (v : ℕ → ℕ → ℕ) (whole : ℕ → ℕ) (count : ℕ → ℕ) (low high q : ℕ) (divides : (i : ℕ) → low ≤ i → i < high → whole i ∣ q) where
  -- the profile in q-ths
  abbrev scaled : ℕ → ℕ → ℕ
  scaled i a = v i a * (q / whole i)

  shares : List OwnStep → ℕ
  shares [] = 1
  shares (s ∷ rest) = q / whole s.state * shares rest

  scaled_realization : (steps : List OwnStep) → realization scaled steps ≡ realization v steps * shares steps
  unfolding shares
  scaled_realization [] = refl
  scaled_realization (s ∷ rest) = let ih = ap (λ (x : ℕ). v s.state s.index * (q / whole s.state) * x) (scaled_realization rest) in omega arith

  shares_times : (least : ℕ) (steps : List OwnStep) → low ≤ least → IsRising count least high steps → shares steps * wholes whole steps ≡ q ^ length steps
  unfolding shares
  shares_times least [] h r = sym (pow-zero q)
  shares_times least (s ∷ rest) h r =
      let at = r.0 in
      let cancel = mul-div_cancel' (whole s.state) (divides s.state (omega arith) r.1) in
      let ih = shares_times (suc s.state) rest (omega arith) r.3 in
      let both = ap₂ (λ (x y : ℕ). x * y) cancel ih in
      let power = pow-succ' q (length rest) in
      omega arith

  scaled_policy : IsOwnPart v whole count low high → IsPolicy scaled q count low high
  scaled_policy own i h k = sum_below_times (v i) (q / whole i) (count i) ∙ ap (λ (x : ℕ). x * (q / whole i)) (own.sums i h k) ∙ mul-div_cancel' (whole i) (divides i h k)

  -- a leaf
  scaled_leaf : (most : ℕ) (z : Played) → IsRising count low high z.leaf.steps → length z.leaf.steps ≤ most → IsEarned v whole z → pos (realization scaled z.leaf.steps * q ^ (most - length z.leaf.steps)) *ℤ z.leaf.pay ≡ pos (q ^ most) *ℤ z.earned
  scaled_leaf most z r l e =
      let steps = z.leaf.steps in
      let left = q ^ (most - length steps) in
      let one : realization scaled steps * left ≡ shares steps * left * realization v steps = let s = ap (λ (x : ℕ). x * left) (scaled_realization steps) in omega arith in
      let two : shares steps * left * wholes whole steps ≡ q ^ most = let s = ap (λ (x : ℕ). x * left) (shares_times low steps (omega arith) r) in let p : q ^ length steps * left ≡ q ^ most = sym (pow-add q (length steps) (most - length steps)) ∙ ap (λ (x : ℕ). q ^ x) (omega arith) in omega arith in
      ap (λ (n : ℕ). pos n *ℤ z.leaf.pay) one ∙ sym (times_times (shares steps * left) (realization v steps) z.leaf.pay)
      ∙ ap (λ (y : ℤ). pos (shares steps * left) *ℤ y) e ∙ times_times (shares steps * left) (wholes whole steps) z.earned ∙ ap (λ (n : ℕ). pos n *ℤ z.earned) two

played_facts : (P : Leaf → Type 0) (zs : List Played) → AllByRecursion P (leaves_of zs) → AllByRecursion (λ z. P z.leaf) zs
played_facts P [] h = tt
played_facts P (z ∷ zs) h = (h.0, played_facts P zs h.1)

played_total : (f : Leaf → ℤ) (zs : List Played) → sum_over f (leaves_of zs) ≡ sum_over (λ z. f z.leaf) zs
played_total f [] = refl
played_total f (z ∷ zs) = ap (λ (x : ℤ). f z.leaf +ℤ x) (played_total f zs)

times_cancel : (m : ℕ) (a b : ℤ) → 0 < m → (pos m *ℤ a) ≤ℤ (pos m *ℤ b) → a ≤ℤ b
times_cancel m a b p h =
    let more : m * (up a + down b) ≤ m * (up b + down a) = omega (arith, ints) in
    let less : up a + down b ≤ up b + down a = le_of_mul-le-mul_left more p in
    omega (arith, ints)

pub no_profile_earns_more : NoProfileEarnsMore
no_profile_earns_more zs count low high d players obeys v whole own earned =
    let leaves = leaves_of zs in
    let most = most_steps leaves in
    let n = high - low in
    let q = product_to whole low n in
    let order = players.ordered in
    let positive : 1 ≤ q = product_positive whole low n (λ i k l. own.positive i k (omega arith)) in
    let divides : (i : ℕ) → low ≤ i → i < high → whole i ∣ q = λ i k l. product_multiple whole low n i k (omega arith) in
    let w = scaled v whole count low high q divides in
    let law = no_policy_earns_more leaves count low high d players obeys q w positive (scaled_policy v whole count low high q divides own) in
    let short = most_is leaves most (omega arith) in
    let all = both_facts _ _ zs (played_facts _ zs players.rising) (both_facts _ _ zs (played_facts _ zs short) earned) in
    let is : mixed w q most leaves ≡ pos (q ^ most) *ℤ sum_over (λ z. z.earned) zs =
    played_total _ zs ∙ sum_over_same _ (λ (z : Played). pos (q ^ most) *ℤ z.earned) zs (every_leaf _ _ (λ z h. scaled_leaf v whole count low high q divides most z h.0 h.1.0 h.1.1) zs all)
    ∙ sym (sum_over_times (q ^ most) (λ (z : Played). z.earned) zs) in
    times_cancel (q ^ most) (sum_over (λ z. z.earned) zs) (earns d leaves) (one-le-pow most q positive)
    (subst₂ (λ (x y : ℤ). x ≤ℤ y) is (*ℤ_comm (earns d leaves) (pos (q ^ most))) law)
