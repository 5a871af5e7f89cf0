-- The law of best responses: at one information state, and then at all of them, from the last to the first.
use Rattle.std.proofs.Common.{◌≡◌, ℕ, zero, suc, ◌+◌, ◌-◌, ◌*◌, ◌^◌, ◌<◌, ◌≤◌, Bool, true, false, cond, ◌&&◌, List, [], ◌∷◌, length, ℤ, pos, ◌+ℤ◌, ◌*ℤ◌, ◌≤ℤ◌, eqb, ltb, arith, refl, ap, ap₂, sym, ◌∙◌, ◌⊎◌, inl, inr, ◌≢◌, eq-eqb, ne_eqb, pow-add, lt-ltb, le-ltb}
use Rattle.std.specs.Prelude.{Contains, slice_index_or}
use Rattle.std.specs.List.{AllByRecursion}
use Rattle.std.proofs.lemmas.Int.{ints}
use Rattle.std.proofs.lemmas.List.{get_or_default}
use Rattle.std.proofs.lemmas.List.Elements.{recursion_from_All}
use Rattle.std.proofs.lemmas.Bool.{true≢false, cond-true, cond-false, cases_lt}
use native.Mathlib.Nat.{mul-one, add-zero, zero-add, pow-succ'}
use Rattle.std.proofs.Math.IntN.{*ℤ_comm}
use Rattle.spiel_response.specs.Values.{sum_over}
use Rattle.spiel_response.specs.Responses.{OwnStep, Leaf, sum_below, follows, follows_from, earns, earns_from, put, realization, mixed, most_steps, IsFirstBest, ObeysLocalRule, IsPolicy}
use Rattle.spiel_response.specs.Remembered.{passes, past, IsRising, HasRecall, IsPlayersLeaves}
use Rattle.spiel_response.proofs.Laws.{NoPolicyEarnsMore, NoResponseEarnsMore}
use Rattle.spiel_response.proofs.Integers.{sum_to, times_times, times_none, no_times, none_plus, plus_none, plus_at_most, at_most_trans, at_most_same, times_at_most}
use Rattle.spiel_response.proofs.PolicySteps.{hybrid, taken, after, taken_legal, split_length, tail_weight, split_weight, other_weight, put_follows_from, not_passed, put_same_from}
use Rattle.spiel_response.proofs.PolicySums.{sum_below_same, sum_to_none, sum_to_point, sum_to_at_most, sum_over_same, sum_over_times, gathered_by}

-- ---- facts of each leaf
pub every_leaf : {X : Type 0} (P Q : X → Type 0) → ((x : X) → P x → Q x) → (xs : List X) → AllByRecursion P xs → AllByRecursion Q xs
every_leaf P Q f [] h = h
every_leaf P Q f (x ∷ xs) h = (f x h.0, every_leaf P Q f xs h.1)

pub both_facts : {X : Type 0} (P Q : X → Type 0) (xs : List X) → AllByRecursion P xs → AllByRecursion Q xs → AllByRecursion (λ x. P x × Q x) xs
both_facts P Q [] h k = h
both_facts P Q (x ∷ xs) h k = ((h.0, k.0), both_facts P Q xs h.1 k.1)

-- a leaf of the list is in the list
pub all_contained : {X : Type 0} (xs : List X) → AllByRecursion (λ x. Contains xs x) xs
all_contained xs = recursion_from_All (λ x. Contains xs x) xs (λ k d h. (k, h, get_or_default xs k (slice_index_or xs k d) d h))

abbrev Found : List Leaf → ℕ → List Leaf → Type 0
Found leaves i xs = ((x : Leaf) × Contains leaves x × (passes i x.steps ≡ true)) ⊎ AllByRecursion (λ z. passes i z.steps ≡ false) xs

seek : (leaves : List Leaf) (i : ℕ) (xs : List Leaf) → AllByRecursion (λ x. Contains leaves x) xs → Found leaves i xs
seek leaves i [] k = inr k
seek leaves i (x ∷ xs) k = by (passes i x.steps) refl (seek leaves i xs k.1)
  where
    by : (t : Bool) → passes i x.steps ≡ t → Found leaves i xs → Found leaves i (x ∷ xs)
    by true e f = inl (x, k.0, e)
    by false e (inl f) = inl f
    by false e (inr f) = inr (e, f)

-- the steps before state i, which are the same at each leaf that passes it
pub common_past : (i : ℕ) (leaves : List Leaf) → HasRecall leaves → (before : List OwnStep) × AllByRecursion (λ z. passes i z.steps ≡ true → past i z.steps ≡ before) leaves
common_past i leaves h = by (seek leaves i leaves (all_contained leaves))
  where
    by : Found leaves i leaves → (before : List OwnStep) × AllByRecursion (λ z. passes i z.steps ≡ true → past i z.steps ≡ before) leaves
    by (inl f) = (past i f.0.steps, every_leaf _ _ (λ y c p. h i y f.0 c f.1 p f.2) leaves (all_contained leaves))
    by (inr f) = ([], every_leaf _ _ (λ y e p. absurd (true≢false (sym p ∙ e))) leaves f)

-- ---- one leaf
numbers : (q before here n m most : ℕ) (f : Bool) → m + suc n ≤ most → before * (here * cond f (q ^ n) 0) * q ^ (most - (m + suc n)) ≡ before * q ^ (most - suc m) * (here * cond f 1 0)
numbers q before here n m most true h =
    let power : q ^ n * q ^ (most - (m + suc n)) ≡ q ^ (most - suc m) = sym (pow-add q n (most - (m + suc n))) ∙ ap (λ (x : ℕ). q ^ x) (omega arith) in
    let times = ap (λ (x : ℕ). before * here * x) power in
    omega arith
numbers q before here n m most false h = omega arith

-- what a leaf adds to `mixed`
abbrev pub weighed : (ℕ → ℕ → ℕ) → ℕ → ℕ → Leaf → ℤ
weighed w q most z = pos (realization w z.steps * q ^ (most - length z.steps)) *ℤ z.pay

abbrev pub beyond : (ℕ → ℕ) → ℕ → ℕ → Leaf → ℤ
beyond d i a z = cond (follows_from (put d i a) i z.steps) z.pay (pos 0)

-- what is the same on either side of state i
abbrev pub elsewhere : (ℕ → ℕ → ℕ) → ℕ → ℕ → ℕ → Leaf → ℤ
elsewhere w q most i z = cond (passes i z.steps) (pos 0) (weighed w q most z)

weigh_test : (m h : ℕ) (f : Bool) (p : ℤ) → pos (m * (h * cond f 1 0)) *ℤ p ≡ pos m *ℤ (pos h *ℤ cond f p (pos 0))
weigh_test m h true p = ap (λ (x : ℕ). pos (m * x) *ℤ p) (mul-one h) ∙ sym (times_times m h p)
weigh_test m h false p = let none : m * (h * 0) ≡ 0 = omega arith in ap (λ (x : ℕ). pos x *ℤ p) none ∙ no_times p ∙ sym (ap (λ (y : ℤ). pos m *ℤ y) (times_none h) ∙ times_none m)

module _ (d : ℕ → ℕ) (w : ℕ → ℕ → ℕ) (q : ℕ) (count : ℕ → ℕ) (low high most i b : ℕ) (before : List OwnStep) (from : i ≤ b) (to : b ≤ suc i) where
  -- a leaf that passes state i
  passing_leaf : (z : Leaf) → IsRising count low high z.steps → length z.steps ≤ most → passes i z.steps ≡ true → past i z.steps ≡ before → weighed (hybrid d w q b) q most z ≡ pos (realization w before * q ^ (most - suc (length before))) *ℤ sum_to (λ a. pos (hybrid d w q b i a) *ℤ beyond d i a z) (count i)
  passing_leaf z r l p same =
      let x = taken i z.steps in
      let f = follows d (after i z.steps) in
      let m = realization w before * q ^ (most - suc (length before)) in
      let says = λ (a : ℕ). put_follows_from d i a count low high z.steps r p in
      let none : (a : ℕ) → a < count i → a ≢ x → pos (hybrid d w q b i a) *ℤ beyond d i a z ≡ pos 0 =
      λ a k n. ap (λ (t : Bool). pos (hybrid d w q b i a) *ℤ cond t z.pay (pos 0)) (says a ∙ ap (λ (t : Bool). t && f) (ne_eqb a x n)) ∙ times_none (hybrid d w q b i a) in
      let there : pos (hybrid d w q b i x) *ℤ beyond d i x z ≡ pos (hybrid d w q b i x) *ℤ cond f z.pay (pos 0) =
      ap (λ (t : Bool). pos (hybrid d w q b i x) *ℤ cond t z.pay (pos 0)) (says x ∙ ap (λ (t : Bool). t && f) (eq-eqb x x refl)) in
      let sum = sum_to_point (λ (a : ℕ). pos (hybrid d w q b i a) *ℤ beyond d i a z) x (count i) (taken_legal count i low high z.steps r p) none ∙ there in
      let long = split_length i z.steps p in
      let fits : length (past i z.steps) + suc (length (after i z.steps)) ≤ most = omega arith in
      let weight : realization (hybrid d w q b) z.steps * q ^ (most - length z.steps) ≡ m * (hybrid d w q b i x * cond f 1 0) =
      ap₂ (λ (c n : ℕ). c * q ^ (most - n)) (split_weight d w q b i count low high z.steps r p from to) long
      ∙ numbers q (realization w (past i z.steps)) (hybrid d w q b i x) (length (after i z.steps)) (length (past i z.steps)) most f fits
      ∙ ap (λ (s : List OwnStep). realization w s * q ^ (most - suc (length s)) * (hybrid d w q b i x * cond f 1 0)) same in
      ap (λ (n : ℕ). pos n *ℤ z.pay) weight ∙ weigh_test m (hybrid d w q b i x) f z.pay ∙ ap (λ (y : ℤ). pos m *ℤ y) (sym sum)

  same_elsewhere : (z : Leaf) → passes i z.steps ≡ false → weighed (hybrid d w q b) q most z ≡ weighed (hybrid d w q i) q most z
  same_elsewhere z p = by (cases_lt i b)
    where
      by : (i < b) ⊎ (b ≤ i) → weighed (hybrid d w q b) q most z ≡ weighed (hybrid d w q i) q most z
      by (inl l) = let e : b ≡ suc i = omega arith in ap (λ (c : ℕ). weighed (hybrid d w q c) q most z) e ∙ ap (λ (c : ℕ). pos (c * q ^ (most - length z.steps)) *ℤ z.pay) (other_weight d w q i z.steps p)
      by (inr g) = let e : b ≡ i = omega arith in ap (λ (c : ℕ). weighed (hybrid d w q c) q most z) e

  any_leaf : (z : Leaf) → IsRising count low high z.steps → length z.steps ≤ most → (passes i z.steps ≡ true → past i z.steps ≡ before) → weighed (hybrid d w q b) q most z ≡ elsewhere (hybrid d w q i) q most i z +ℤ pos (realization w before * q ^ (most - suc (length before))) *ℤ sum_to (λ a. pos (hybrid d w q b i a) *ℤ beyond d i a z) (count i)
  any_leaf z r l same = by (passes i z.steps) refl
    where
      by : (t : Bool) → passes i z.steps ≡ t → weighed (hybrid d w q b) q most z ≡ cond t (pos 0) (weighed (hybrid d w q i) q most z) +ℤ pos (realization w before * q ^ (most - suc (length before))) *ℤ sum_to (λ a. pos (hybrid d w q b i a) *ℤ beyond d i a z) (count i)
      by true e = passing_leaf z r l e (same e) ∙ sym (none_plus _)
      by false e =
          let none = sum_to_none (λ (a : ℕ). pos (hybrid d w q b i a) *ℤ beyond d i a z) (count i) (λ a k. ap (λ (t : Bool). pos (hybrid d w q b i a) *ℤ cond t z.pay (pos 0)) (not_passed (put d i a) i z.steps e) ∙ times_none (hybrid d w q b i a)) in
          same_elsewhere z e ∙ sym (ap (λ (y : ℤ). weighed (hybrid d w q i) q most z +ℤ y) (ap (λ (y : ℤ). pos (realization w before * q ^ (most - suc (length before))) *ℤ y) none ∙ times_none _) ∙ plus_none _)

  all_leaves : (leaves : List Leaf) → AllByRecursion (λ z. IsRising count low high z.steps) leaves → AllByRecursion (λ z. length z.steps ≤ most) leaves → AllByRecursion (λ z. passes i z.steps ≡ true → past i z.steps ≡ before) leaves → mixed (hybrid d w q b) q most leaves ≡ sum_over (elsewhere (hybrid d w q i) q most i) leaves +ℤ pos (realization w before * q ^ (most - suc (length before))) *ℤ sum_to (λ a. pos (hybrid d w q b i a) *ℤ earns_from (put d i a) i leaves) (count i)
  all_leaves leaves r l same =
      gathered_by (weighed (hybrid d w q b) q most) (elsewhere (hybrid d w q i) q most i) (beyond d i) (hybrid d w q b i) (realization w before * q ^ (most - suc (length before))) (count i) leaves
      (every_leaf _ _ (λ z h. any_leaf z h.0 h.1.0 h.1.1) leaves (both_facts _ _ leaves r (both_facts _ _ leaves l same)))

-- ---- the law at one information state
pub exchange : (d : ℕ → ℕ) (w : ℕ → ℕ → ℕ) (q : ℕ) (count : ℕ → ℕ) (low high most i : ℕ) (leaves : List Leaf) → AllByRecursion (λ z. IsRising count low high z.steps) leaves → AllByRecursion (λ z. length z.steps ≤ most) leaves → HasRecall leaves → IsFirstBest d leaves i (count i) → sum_below (w i) (count i) ≡ q → mixed (hybrid d w q (suc i)) q most leaves ≤ℤ mixed (hybrid d w q i) q most leaves
exchange d w q count low high most i leaves r l recall obeys sums =
    let common = common_past i leaves recall in
    let before = common.0 in
    let m = realization w before * q ^ (most - suc (length before)) in
    let rest = sum_over (elsewhere (hybrid d w q i) q most i) leaves in
    let beyond_by = λ (a : ℕ). earns_from (put d i a) i leaves in
    let best = earns_from d i leaves in
    let later = all_leaves d w q count low high most i (suc i) before (omega arith) (omega arith) leaves r l common.1 in
    let now = all_leaves d w q count low high most i i before (omega arith) (omega arith) leaves r l common.1 in
    let bound : sum_to (λ a. pos (hybrid d w q (suc i) i a) *ℤ beyond_by a) (count i) ≤ℤ (pos (sum_below (hybrid d w q (suc i) i) (count i)) *ℤ best) =
    sum_to_at_most (hybrid d w q (suc i) i) beyond_by best (count i) obeys.best in
    let whole : sum_below (hybrid d w q (suc i) i) (count i) ≡ q =
    sum_below_same (hybrid d w q (suc i) i) (w i) (count i) (λ a k. cond-true (ltb i (suc i)) _ _ (lt-ltb i (suc i) (omega arith))) ∙ sums in
    let on_d : (a : ℕ) → hybrid d w q i i a ≡ cond (eqb (d i) a) q 0 = λ a. cond-false (ltb i i) _ _ (le-ltb i i (omega arith)) in
    let none : (a : ℕ) → a < count i → a ≢ d i → pos (hybrid d w q i i a) *ℤ beyond_by a ≡ pos 0 =
    λ a k n. ap (λ (h : ℕ). pos h *ℤ beyond_by a) (on_d a ∙ cond-false (eqb (d i) a) q 0 (ne_eqb (d i) a (λ e. n (sym e)))) ∙ no_times (beyond_by a) in
    let same : beyond_by (d i) ≡ best = sum_over_same _ _ leaves (every_leaf _ _ (λ z h. ap (λ (t : Bool). cond t z.pay (pos 0)) (put_same_from d i z.steps)) leaves (all_contained leaves)) in
    let at_d : sum_to (λ a. pos (hybrid d w q i i a) *ℤ beyond_by a) (count i) ≡ pos q *ℤ best =
    sum_to_point (λ (a : ℕ). pos (hybrid d w q i i a) *ℤ beyond_by a) (d i) (count i) obeys.legal none
    ∙ ap₂ (λ (h : ℕ) (y : ℤ). pos h *ℤ y) (on_d (d i) ∙ cond-true (eqb (d i) (d i)) q 0 (eq-eqb (d i) (d i) refl)) same in
    let less : sum_to (λ a. pos (hybrid d w q (suc i) i a) *ℤ beyond_by a) (count i) ≤ℤ sum_to (λ a. pos (hybrid d w q i i a) *ℤ beyond_by a) (count i) =
    at_most_trans _ _ _ bound (at_most_same _ _ (ap (λ (h : ℕ). pos h *ℤ best) whole ∙ sym at_d)) in
    at_most_trans _ _ _ (at_most_same _ _ later)
    (at_most_trans _ _ _ (plus_at_most rest rest _ _ (at_most_same rest rest refl) (times_at_most m _ _ less)) (at_most_same _ _ (sym now)))

-- ---- from the last information state to the first
pub exchanges : (d : ℕ → ℕ) (w : ℕ → ℕ → ℕ) (q : ℕ) (count : ℕ → ℕ) (low high most : ℕ) (leaves : List Leaf) → IsPlayersLeaves leaves count low high → AllByRecursion (λ z. length z.steps ≤ most) leaves → ObeysLocalRule d leaves count low high → IsPolicy w q count low high → (b : ℕ) → low ≤ b → b ≤ high → mixed (hybrid d w q b) q most leaves ≤ℤ mixed (hybrid d w q low) q most leaves
exchanges d w q count low high most leaves players l obeys policy zero h k =
    let same : low ≡ zero = omega arith in at_most_same _ _ (ap (λ (c : ℕ). mixed (hybrid d w q c) q most leaves) (sym same))
exchanges d w q count low high most leaves players l obeys policy (suc b) h k = by (exchanges d w q count low high most leaves players l obeys policy b) (cases_lt b low)
  where
    by : (low ≤ b → b ≤ high → mixed (hybrid d w q b) q most leaves ≤ℤ mixed (hybrid d w q low) q most leaves) → (b < low) ⊎ (low ≤ b) → mixed (hybrid d w q (suc b)) q most leaves ≤ℤ mixed (hybrid d w q low) q most leaves
    by ih (inl g) = let same : suc b ≡ low = omega arith in at_most_same _ _ (ap (λ (c : ℕ). mixed (hybrid d w q c) q most leaves) same)
    by ih (inr g) =
        let below : b < high = omega arith in
        at_most_trans _ _ _ (exchange d w q count low high most b leaves players.rising l players.recall (obeys b g below) (policy b g below)) (ih g (omega arith))

-- ---- the ends
-- below the last state it is w everywhere
pub all_w : (d : ℕ → ℕ) (w : ℕ → ℕ → ℕ) (q : ℕ) (count : ℕ → ℕ) (low high : ℕ) (steps : List OwnStep) → IsRising count low high steps → realization (hybrid d w q high) steps ≡ realization w steps
all_w d w q count low high [] r = refl
all_w d w q count low high (s ∷ rest) r =
    ap₂ (λ (x y : ℕ). x * y) (cond-true (ltb s.state high) _ _ (lt-ltb s.state high r.1)) (all_w d w q count (suc s.state) high rest r.3)

-- from the first state on it is d
earned : (q n most : ℕ) (f : Bool) (p : ℤ) → n ≤ most → pos (cond f (q ^ n) 0 * q ^ (most - n)) *ℤ p ≡ pos (q ^ most) *ℤ cond f p (pos 0)
earned q n most true p h = ap (λ (x : ℕ). pos x *ℤ p) (sym (pow-add q n (most - n)) ∙ ap (λ (x : ℕ). q ^ x) (omega arith))
earned q n most false p h = let none : 0 * q ^ (most - n) ≡ 0 = omega arith in ap (λ (x : ℕ). pos x *ℤ p) none ∙ no_times p ∙ sym (times_none (q ^ most))

pub most_is : (leaves : List Leaf) (most : ℕ) → most_steps leaves ≤ most → AllByRecursion (λ z. length z.steps ≤ most) leaves
most_is [] most h = tt
most_is (z ∷ leaves) most h = (omega arith, most_is leaves most (omega arith))

pub all_d : (d : ℕ → ℕ) (w : ℕ → ℕ → ℕ) (q : ℕ) (count : ℕ → ℕ) (low high most : ℕ) (leaves : List Leaf) → AllByRecursion (λ z. IsRising count low high z.steps) leaves → AllByRecursion (λ z. length z.steps ≤ most) leaves → mixed (hybrid d w q low) q most leaves ≡ earns d leaves *ℤ pos (q ^ most)
all_d d w q count low high most leaves r l =
    sum_over_same _ _ leaves (every_leaf _ _ (λ z h. ap (λ (c : ℕ). pos (c * q ^ (most - length z.steps)) *ℤ z.pay) (tail_weight d w q low count low high z.steps h.0 (omega arith)) ∙ earned q (length z.steps) most (follows d z.steps) z.pay h.1) leaves (both_facts _ _ leaves r l))
    ∙ sym (sum_over_times (q ^ most) (λ (z : Leaf). cond (follows d z.steps) z.pay (pos 0)) leaves)
    ∙ *ℤ_comm (pos (q ^ most)) (earns d leaves)

-- ---- no policy earns more
pub no_policy_earns_more : NoPolicyEarnsMore
no_policy_earns_more leaves count low high d players obeys q w positive policy =
    let most = most_steps leaves in
    let l = most_is leaves most (omega arith) in
    let first : mixed w q most leaves ≡ mixed (hybrid d w q high) q most leaves =
    sum_over_same _ _ leaves (every_leaf _ _ (λ z r. ap (λ (c : ℕ). pos (c * q ^ (most - length z.steps)) *ℤ z.pay) (sym (all_w d w q count low high z.steps r))) leaves players.rising) in
    let order : low ≤ high = players.ordered in
    at_most_trans _ _ _ (at_most_same _ _ first)
    (at_most_trans _ _ _ (exchanges d w q count low high most leaves players l obeys policy high order (omega arith))
    (at_most_same _ _ (all_d d w q count low high most leaves players.rising l)))

-- ---- nor does another response: it is a policy in 1-ths
one_action : (x q n : ℕ) → x < n → sum_below (λ a. cond (eqb x a) q 0) n ≡ q
one_action x q zero h = absurd (omega arith)
one_action x q (suc n) h = by (one_action x q n) (cases_lt x n)
  where
    none : (m : ℕ) → m ≤ x → sum_below (λ a. cond (eqb x a) q 0) m ≡ 0
    none zero k = refl
    none (suc m) k = ap₂ (λ (a b : ℕ). a + b) (none m (omega arith)) (cond-false (eqb x m) q 0 (ne_eqb x m (λ e. omega arith)))

    by : (x < n → sum_below (λ a. cond (eqb x a) q 0) n ≡ q) → (x < n) ⊎ (n ≤ x) → sum_below (λ a. cond (eqb x a) q 0) n + cond (eqb x n) q 0 ≡ q
    by ih (inl l) = ap₂ (λ (a b : ℕ). a + b) (ih l) (cond-false (eqb x n) q 0 (ne_eqb x n (λ e. omega arith))) ∙ add-zero q
    by ih (inr g) = ap₂ (λ (a b : ℕ). a + b) (none n g) (cond-true (eqb x n) q 0 (eq-eqb x n (omega arith))) ∙ zero-add q

one_power : (n : ℕ) → 1 ^ n ≡ 1
one_power zero = refl
one_power (suc n) = pow-succ' 1 n ∙ ap (λ (x : ℕ). 1 * x) (one_power n)

pub no_response_earns_more : NoResponseEarnsMore
no_response_earns_more leaves count low high d players obeys e legal =
    let most = most_steps leaves in
    let l = most_is leaves most (omega arith) in
    let w = hybrid e (λ (i a : ℕ). 0) 1 low in
    let policy : IsPolicy w 1 count low high =
    λ i h k. sum_below_same (w i) (λ (a : ℕ). cond (eqb (e i) a) 1 0) (count i) (λ a m. cond-false (ltb i low) _ _ (le-ltb i low h)) ∙ one_action (e i) 1 (count i) (legal i h k) in
    let more = no_policy_earns_more leaves count low high d players obeys 1 w (omega arith) policy in
    let is = all_d e (λ (i a : ℕ). 0) 1 count low high most leaves players.rising l in
    let one : (x : ℤ) → x *ℤ pos (1 ^ most) ≡ x = λ x. ap (λ (n : ℕ). x *ℤ pos n) (one_power most) ∙ omega (arith, ints) in
    at_most_trans _ _ _ (at_most_same _ _ (sym (one (earns e leaves)) ∙ sym is)) (at_most_trans _ _ _ more (at_most_same _ _ (one (earns d leaves))))
