-- The sums by slots, from one state to the state before it.
use Rattle.std.proofs.Common.{◌≡◌, ℕ, zero, suc, ◌+◌, ◌<◌, ◌≤◌, Bool, true, false, cond, ◌&&◌, List, [], ◌∷◌, ℤ, pos, ◌+ℤ◌, eqb, ltb, arith, refl, ap, ap₂, sym, ◌∙◌, eqb-true, eq-eqb, ne_eqb, ◌⊎◌, inl, inr, ◌≢◌}
use Rattle.std.specs.List.{AllByRecursion}
use Rattle.std.specs.Prelude.{IsTrue, nat_abs, sum_by}
use Rattle.std.proofs.lemmas.Bool.{cond-true, cond-false, false≢true, true≢false, eqb-false, ltb-false, cases_lt}
use Rattle.std.proofs.lemmas.List.Sums.{sum_by-cons}
use Rattle.std.proofs.lemmas.Int.{ints}
use Rattle.spiel_response.specs.Values.{sum_over}
use Rattle.spiel_response.specs.Responses.{OwnStep, Leaf, follows, follows_from, earns, earns_from, put}
use Rattle.spiel_response.specs.Remembered.{passes, IsRising}
use Rattle.spiel_response.proofs.PolicySteps.{taken, after, put_follows_from, not_passed, later_follows}
use Rattle.spiel_response.proofs.PolicySums.{sum_over_same}
use Rattle.spiel_response.proofs.Integers.{plus_none, none_plus, swap_middle}
use Rattle.spiel_response.proofs.Exchange.{every_leaf, both_facts}
use Rattle.spiel_response.specs.Slots.{key, slot_from, last_slot, beyond, gathered, last_sum, AreStarts}
use Rattle.spiel_response.proofs.SlotSteps.{slot_start, beyond_start, beyond_end, slot_other, beyond_other, slot_passing, beyond_after, beyond_passing, last_is_slot}

-- ---- the slots of the states in order
pub start_rises : (root : ℕ) (start count : ℕ → ℕ) (low high j b : ℕ) → AreStarts root start count low high → low ≤ j → j < b → b ≤ high → start j + count j ≤ start b
start_rises root start count low high j zero a h k l = absurd (omega arith)
start_rises root start count low high j (suc b) a h k l = by (start_rises root start count low high j b a h) (cases_lt j b)
  where
    by : (j < b → b ≤ high → start j + count j ≤ start b) → (j < b) ⊎ (b ≤ j) → start j + count j ≤ start (suc b)
    by ih (inl m) = let more = ih m (omega arith) in let n = a.next b (omega arith) (omega arith) in omega arith
    by ih (inr m) = let same : b ≡ j = omega arith in let n = a.next b (omega arith) (omega arith) in let s = ap start same in let c = ap count same in omega arith

pub start_positive : (root : ℕ) (start count : ℕ → ℕ) (low high b : ℕ) → AreStarts root start count low high → low ≤ b → b ≤ high → root < start b
start_positive root start count low high b a h k = by (cases_lt low b)
  where
    by : (low < b) ⊎ (b ≤ low) → root < start b
    by (inl l) = let more = start_rises root start count low high low b a (omega arith) l k in let f = a.first in omega arith
    by (inr g) = let same : low ≡ b = omega arith in let s = ap start same in let f = a.first in omega arith

pub slot_below : (root : ℕ) (start count : ℕ → ℕ) (low high b last from : ℕ) (steps : List OwnStep) → AreStarts root start count low high → IsRising count from high steps → low ≤ from → b ≤ high → last < start b → slot_from start b last steps < start b
slot_below root start count low high b last from [] a r l h m = m
slot_below root start count low high b last from (s ∷ rest) a r l h m = by (slot_below root start count low high b (key start s) (suc s.state) rest a r.3) (ltb s.state b) refl
  where
    by : (low ≤ suc s.state → b ≤ high → key start s < start b → slot_from start b (key start s) rest < start b) → (t : Bool) → ltb s.state b ≡ t → cond t (slot_from start b (key start s) rest) last < start b
    by ih true e =
        let below = Rattle.std.proofs.lemmas.Bool.ltb-true s.state b e in
        let at = r.0 in
        let more = start_rises root start count low high s.state b a (omega arith) below h in
        let legal = r.2 in
        ih (omega arith) h (omega arith)
    by ih false e = m

eqb_plus : (n x a : ℕ) → eqb (n + x) (n + a) ≡ eqb a x
eqb_plus n x a = by (eqb a x) refl
  where
    by : (t : Bool) → eqb a x ≡ t → eqb (n + x) (n + a) ≡ t
    by true e = let same = eqb-true a x e in eq-eqb (n + x) (n + a) (omega arith)
    by false e = ne_eqb (n + x) (n + a) (λ h. eqb-false a x e (omega arith))

beyond_later : (d e count : ℕ → ℕ) (b low high : ℕ) (steps : List OwnStep) → IsRising count low high steps → ((j : ℕ) → b ≤ j → d j ≡ e j) → follows d (beyond b steps) ≡ follows e (beyond b steps)
beyond_later d e count b low high [] r h = refl
beyond_later d e count b low high (s ∷ rest) r h = by (beyond_later d e count b (suc s.state) high rest r.3 h) (ltb s.state b) refl
  where
    by : follows d (beyond b rest) ≡ follows e (beyond b rest) → (t : Bool) → ltb s.state b ≡ t → follows d (cond t (beyond b rest) (s ∷ rest)) ≡ follows e (cond t (beyond b rest) (s ∷ rest))
    by ih true x = ih
    by ih false x = let least = ltb-false s.state b x in later_follows d e count s.state high (s ∷ rest) (omega arith, r.1, r.2, r.3) (λ j k. h j (omega arith))

sum_over_plus : {X : Type 0} (f g h : X → ℤ) (xs : List X) → AllByRecursion (λ x. f x ≡ g x +ℤ h x) xs → sum_over f xs ≡ sum_over g xs +ℤ sum_over h xs
sum_over_plus f g h [] k = refl
sum_over_plus f g h (x ∷ xs) k = ap₂ (λ (a b : ℤ). a +ℤ b) k.0 (sum_over_plus f g h xs k.1) ∙ swap_middle (g x) (h x) (sum_over g xs) (sum_over h xs)

module _ (root : ℕ) (start count : ℕ → ℕ) (low high i : ℕ) (a : AreStarts root start count low high) (from : low ≤ i) (to : i < high) where
  -- a leaf that doesn't pass state i is in no slot of its
  other_below : (z : Leaf) → IsRising count low high z.steps → passes i z.steps ≡ false → slot_from start (suc i) root z.steps < start i
  other_below z r p =
      let same = slot_other start i root z.steps p in
      let least = start_positive root start count low high i a from (omega arith) in
      let below = slot_below root start count low high i root low z.steps a r (omega arith) (omega arith) (omega arith) in
      omega arith

  -- ---- each action's sum
  action_leaf : (d : ℕ → ℕ) (x : ℕ) (z : Leaf) → IsRising count low high z.steps → (eqb (slot_from start (suc i) root z.steps) (start i + x) && follows d (beyond (suc i) z.steps)) ≡ follows_from (put d i x) i z.steps
  action_leaf d x z r = by (passes i z.steps) refl
    where
      by : (t : Bool) → passes i z.steps ≡ t → (eqb (slot_from start (suc i) root z.steps) (start i + x) && follows d (beyond (suc i) z.steps)) ≡ follows_from (put d i x) i z.steps
      by true e =
          ap₂ (λ (n : ℕ) (s : List OwnStep). eqb n (start i + x) && follows d s) (slot_passing start count i root low high z.steps r e) (beyond_after count i low high z.steps r e)
          ∙ ap (λ (t : Bool). t && follows d (after i z.steps)) (eqb_plus (start i) (taken i z.steps) x)
          ∙ sym (put_follows_from d i x count low high z.steps r e)
      by false e =
          let below = other_below z r e in
          ap (λ (t : Bool). t && follows d (beyond (suc i) z.steps)) (ne_eqb (slot_from start (suc i) root z.steps) (start i + x) (λ h. omega arith)) ∙ sym (not_passed (put d i x) i z.steps e)

  pub action_sum : (d : ℕ → ℕ) (x : ℕ) (leaves : List Leaf) → AllByRecursion (λ z. IsRising count low high z.steps) leaves → gathered root start d (suc i) (start i + x) leaves ≡ earns_from (put d i x) i leaves
  action_sum d x leaves r = sum_over_same _ _ leaves (every_leaf _ _ (λ z h. ap (λ (t : Bool). cond t z.pay (pos 0)) (action_leaf d x z h)) leaves r)

  -- ---- passed back to the parent
  -- what a leaf adds to slot k where the states from b on are done
  abbrev part : (ℕ → ℕ) → ℕ → ℕ → Leaf → ℤ
  part d b k z = cond (eqb (slot_from start b root z.steps) k && follows d (beyond b z.steps)) z.pay (pos 0)

  same_part : (d e : ℕ → ℕ) (k : ℕ) (z : Leaf) → IsRising count low high z.steps → ((j : ℕ) → suc i ≤ j → d j ≡ e j) → passes i z.steps ≡ false → part e i k z ≡ part d (suc i) k z
  same_part d e k z r h p =
      ap₂ (λ (n : ℕ) (f : Bool). cond (eqb n k && f) z.pay (pos 0)) (sym (slot_other start i root z.steps p))
      (ap (follows e) (sym (beyond_other i z.steps p)) ∙ sym (beyond_later d e count (suc i) low high z.steps r h))

  no_part : (d : ℕ → ℕ) (b k : ℕ) (z : Leaf) → slot_from start b root z.steps ≢ k → part d b k z ≡ pos 0
  no_part d b k z n = ap (λ (t : Bool). cond (t && follows d (beyond b z.steps)) z.pay (pos 0)) (ne_eqb (slot_from start b root z.steps) k n)

  joined : (d e parent : ℕ → ℕ) (k : ℕ) (z : Leaf) → IsRising count low high z.steps → ((j : ℕ) → suc i ≤ j → d j ≡ e j) → (IsTrue (passes i z.steps) → slot_from start i root z.steps ≡ parent i) → k < start i → k ≡ parent i → part e i k z ≡ part d (suc i) k z +ℤ part d (suc i) (start i + e i) z
  joined d e parent k z r h up below same = by (passes i z.steps) refl
    where
      by : (t : Bool) → passes i z.steps ≡ t → part e i k z ≡ part d (suc i) k z +ℤ part d (suc i) (start i + e i) z
      by true p =
          let slot = slot_passing start count i root low high z.steps r p in
          let first : part d (suc i) k z ≡ pos 0 = no_part d (suc i) k z (λ q. omega arith) in
          let agree : follows e (after i z.steps) ≡ follows d (after i z.steps) =
          ap (follows e) (sym (beyond_after count i low high z.steps r p)) ∙ sym (beyond_later d e count (suc i) low high z.steps r h) ∙ ap (follows d) (beyond_after count i low high z.steps r p) in
          let second : part d (suc i) (start i + e i) z ≡ cond (eqb (e i) (taken i z.steps) && follows d (after i z.steps)) z.pay (pos 0) =
          ap₂ (λ (n : ℕ) (s : List OwnStep). cond (eqb n (start i + e i) && follows d s) z.pay (pos 0)) slot (beyond_after count i low high z.steps r p)
          ∙ ap (λ (t : Bool). cond (t && follows d (after i z.steps)) z.pay (pos 0)) (eqb_plus (start i) (taken i z.steps) (e i)) in
          let here : part e i k z ≡ cond (eqb (e i) (taken i z.steps) && follows d (after i z.steps)) z.pay (pos 0) =
          ap (λ (t : Bool). cond (t && follows e (beyond i z.steps)) z.pay (pos 0)) (eq-eqb (slot_from start i root z.steps) k (up p ∙ sym same))
          ∙ ap (λ (t : Bool). cond t z.pay (pos 0)) (beyond_passing e count i low high z.steps r p)
          ∙ ap (λ (t : Bool). cond (eqb (e i) (taken i z.steps) && t) z.pay (pos 0)) agree in
          here ∙ sym (ap₂ (λ (x y : ℤ). x +ℤ y) first second ∙ none_plus _)
      by false p =
          let slot = other_below z r p in
          same_part d e k z r h p ∙ sym (ap (λ (y : ℤ). part d (suc i) k z +ℤ y) (no_part d (suc i) (start i + e i) z (λ q. omega arith)) ∙ plus_none _)

  kept : (d e parent : ℕ → ℕ) (k : ℕ) (z : Leaf) → IsRising count low high z.steps → ((j : ℕ) → suc i ≤ j → d j ≡ e j) → (IsTrue (passes i z.steps) → slot_from start i root z.steps ≡ parent i) → k < start i → k ≢ parent i → part e i k z ≡ part d (suc i) k z
  kept d e parent k z r h up below apart = by (passes i z.steps) refl
    where
      by : (t : Bool) → passes i z.steps ≡ t → part e i k z ≡ part d (suc i) k z
      by true p =
          let slot = slot_passing start count i root low high z.steps r p in
          no_part e i k z (λ q. apart (sym q ∙ up p)) ∙ sym (no_part d (suc i) k z (λ q. omega arith))
      by false p = same_part d e k z r h p

  -- d is e but for what e does at state i and before
  pub passed_back : (d e parent : ℕ → ℕ) (k : ℕ) (leaves : List Leaf) → AllByRecursion (λ z. IsRising count low high z.steps) leaves → AllByRecursion (λ z. IsTrue (passes i z.steps) → slot_from start i root z.steps ≡ parent i) leaves → ((j : ℕ) → suc i ≤ j → d j ≡ e j) → k < start i → k ≡ parent i → gathered root start e i k leaves ≡ gathered root start d (suc i) k leaves +ℤ gathered root start d (suc i) (start i + e i) leaves
  passed_back d e parent k leaves r up h below same = sum_over_plus _ _ _ leaves (every_leaf _ _ (λ z f. joined d e parent k z f.0 h f.1 below same) leaves (both_facts _ _ leaves r up))

  pub left_alone : (d e parent : ℕ → ℕ) (k : ℕ) (leaves : List Leaf) → AllByRecursion (λ z. IsRising count low high z.steps) leaves → AllByRecursion (λ z. IsTrue (passes i z.steps) → slot_from start i root z.steps ≡ parent i) leaves → ((j : ℕ) → suc i ≤ j → d j ≡ e j) → k < start i → k ≢ parent i → gathered root start e i k leaves ≡ gathered root start d (suc i) k leaves
  left_alone d e parent k leaves r up h below apart = sum_over_same _ _ leaves (every_leaf _ _ (λ z f. kept d e parent k z f.0 h f.1 below apart) leaves (both_facts _ _ leaves r up))

-- ---- the ends
and_true : (t : Bool) → (t && true) ≡ t
and_true true = refl
and_true false = refl

pub last_is : (root : ℕ) (start count d : ℕ → ℕ) (low high k : ℕ) (leaves : List Leaf) → AllByRecursion (λ z. IsRising count low high z.steps) leaves → gathered root start d high k leaves ≡ last_sum root start k leaves
last_is root start count d low high k leaves r =
    sum_over_same _ _ leaves (every_leaf _ _ (λ z h.
    ap₂ (λ (n : ℕ) (s : List OwnStep). cond (eqb n k && follows d s) z.pay (pos 0)) (last_is_slot start count root low high z.steps h) (beyond_end count low high z.steps h)
    ∙ ap (λ (t : Bool). cond t z.pay (pos 0)) (and_true (eqb (last_slot start root z.steps) k))) leaves r)

pub root_is : (root : ℕ) (start count d : ℕ → ℕ) (low high : ℕ) (leaves : List Leaf) → AllByRecursion (λ z. IsRising count low high z.steps) leaves → gathered root start d low root leaves ≡ earns d leaves
root_is root start count d low high leaves r =
    sum_over_same _ _ leaves (every_leaf _ _ (λ z h.
    ap₂ (λ (t : Bool) (s : List OwnStep). cond (t && follows d s) z.pay (pos 0)) (eq-eqb (slot_from start low root z.steps) root (slot_start start count low root low high z.steps h (omega arith)))
    (beyond_start count low low high z.steps h (omega arith))) leaves r)

-- a sum over some of the leaves is no greater in size than the sum of all sizes
pub some_fit : (test : Leaf → Bool) (leaves : List Leaf) → nat_abs (sum_over (λ z. cond (test z) z.pay (pos 0)) leaves) ≤ sum_by (λ z. nat_abs z.pay) leaves
some_fit test [] = omega arith
some_fit test (z ∷ leaves) = rw (sum_by-cons (λ (z : Leaf). nat_abs z.pay) z leaves) (by (test z) (some_fit test leaves))
  where
    by : (t : Bool) → nat_abs (sum_over (λ z. cond (test z) z.pay (pos 0)) leaves) ≤ sum_by (λ z. nat_abs z.pay) leaves → nat_abs (cond t z.pay (pos 0) +ℤ sum_over (λ z. cond (test z) z.pay (pos 0)) leaves) ≤ nat_abs z.pay + sum_by (λ z. nat_abs z.pay) leaves
    by true h = omega (arith, ints)
    by false h = omega (arith, ints)
