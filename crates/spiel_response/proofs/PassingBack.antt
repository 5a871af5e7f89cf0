-- One state of the backward pass.
use Rattle.std.proofs.Common.{◌≡◌, ◌≢◌, ℕ, suc, ◌+◌, ◌<◌, ◌≤◌, List, length, ℤ, pos, ◌+ℤ◌, ◌≤ℤ◌, ◌<ℤ◌, ◌⊎◌, arith, refl, ap, ap₂, sym, subst, ◌∙◌, inl, inr, ⊎_elim, get_or-set_same, get_or-set_other}
use Rattle.std.specs.Prelude.{slice_index_or, slice_set, nat_abs, sum_by, IsTrue}
use Rattle.std.specs.List.{AllByRecursion}
use Rattle.std.proofs.lemmas.Bool.{cases_eq, cases_lt}
use Rattle.spiel_response.specs.Greatest.{IsBestSoFar}
use Rattle.spiel_response.specs.Responses.{Leaf, earns_from, put, IsFirstBest}
use Rattle.spiel_response.specs.Remembered.{passes, IsRising}
use Rattle.spiel_response.proofs.Putting.{best_put}
use Rattle.spiel_response.specs.Slots.{gathered, index_of, slot_from, AreStarts, IsOwnSlot}
use Rattle.spiel_response.proofs.SlotSums.{start_rises, action_sum, passed_back, left_alone, some_fit}

-- what is in the player's slots of the states before b, where the states from b on are done
abbrev pub Live : ℕ → (ℕ → ℕ) → (ℕ → ℕ) → ℕ → ℕ → List ℤ → List Leaf → Type 0
Live root start d low b sums leaves = (k : ℕ) → IsOwnSlot root start low k → k < start b → slice_index_or sums k (pos 0) ≡ gathered root start d b k leaves

best_same : (f g : ℕ → ℤ) (n best : ℕ) (most : ℤ) → ((a : ℕ) → a < n → f a ≡ g a) → IsBestSoFar f n best most → IsBestSoFar g n best most
best_same f g n best most h so = record {
  best_below = so.best_below;
  most_is = so.most_is ∙ h best so.best_below;
  at_most = λ a k. subst (λ (x : ℤ). x ≤ℤ most) (h a k) (so.at_most a k);
  less_before = λ a k. let l = so.best_below in subst (λ (x : ℤ). x <ℤ most) (h a (omega arith)) (so.less_before a k);
}

module _ (root : ℕ) (start count : ℕ → ℕ) (low high i s parent : ℕ) (leaves : List Leaf) (a : AreStarts root start count low high) (rising : AllByRecursion (λ z. IsRising count low high z.steps) leaves) (up : AllByRecursion (λ z. IsTrue (passes i z.steps) → slot_from start i root z.steps ≡ parent) leaves) (from : low ≤ i) (to : i < high) (step : s ≡ suc i) (before : parent < start i) (own : IsOwnSlot root start low parent) where
  -- the slots of i are below those of the states after it
  pub in_range : (x : ℕ) → x < count i → start i + x < start s
  in_range x l = let n = a.next i from to in let e = ap start step in omega arith

  live_at : (d : ℕ → ℕ) (sums : List ℤ) → Live root start d low s sums leaves → (k : ℕ) → IsOwnSlot root start low k → k < start i + count i → slice_index_or sums k (pos 0) ≡ gathered root start d (suc i) k leaves
  live_at d sums live k o l = let n = a.next i from to in let e = ap start step in live k o (omega arith) ∙ ap (λ (b : ℕ). gathered root start d b k leaves) step

  -- the slots of i are the player's
  own_at : (x : ℕ) → IsOwnSlot root start low (start i + x)
  own_at x = inr (by (cases_lt low i))
    where
      by : (low < i) ⊎ (i ≤ low) → start low ≤ start i + x
      by (inl l) = let rises = start_rises root start count low high low i a (omega arith) l (omega arith) in omega arith
      by (inr g) = let same : low ≡ i = omega arith in let e = ap start same in omega arith

  -- what is passed back to the parent's slot
  pub back : (d e : ℕ → ℕ) (sums : List ℤ) → Live root start d low s sums leaves → ((j : ℕ) → suc i ≤ j → d j ≡ e j) → e i < count i → slice_index_or sums parent (pos 0) +ℤ slice_index_or sums (start i + e i) (pos 0) ≡ gathered root start e i parent leaves
  back d e sums live same legal =
      ap₂ (λ (x y : ℤ). x +ℤ y) (live_at d sums live parent own (omega arith)) (live_at d sums live (start i + e i) (own_at (e i)) (omega arith))
      ∙ sym (passed_back root start count low high i a from to d e (λ (n : ℕ). parent) parent leaves rising up same before refl)

  -- d with x put at i
  at_i : (answers : List ℕ) (x : ℕ) → i < length answers → index_of (slice_set answers i x) i ≡ x
  at_i answers x l = get_or-set_same answers i x 0 l

  after_i : (answers : List ℕ) (x j : ℕ) → suc i ≤ j → index_of answers j ≡ index_of (slice_set answers i x) j
  after_i answers x j l = let apart : j ≢ i = λ e. omega arith in sym (get_or-set_other answers i j x 0 apart)

  pub back_at : (answers : List ℕ) (x : ℕ) (sums : List ℤ) → i < length answers → x < count i → Live root start (index_of answers) low s sums leaves → slice_index_or sums parent (pos 0) +ℤ slice_index_or sums (start i + x) (pos 0) ≡ gathered root start (index_of (slice_set answers i x)) i parent leaves
  back_at answers x sums l legal live =
      ap (λ (y : ℕ). slice_index_or sums parent (pos 0) +ℤ slice_index_or sums (start i + y) (pos 0)) (sym (at_i answers x l))
      ∙ back (index_of answers) (index_of (slice_set answers i x)) sums live (after_i answers x) (let e = at_i answers x l in omega arith)

  pub back_fits : (answers : List ℕ) (x : ℕ) (sums : List ℤ) → i < length answers → x < count i → Live root start (index_of answers) low s sums leaves → nat_abs (slice_index_or sums parent (pos 0) +ℤ slice_index_or sums (start i + x) (pos 0)) ≤ sum_by (λ z. nat_abs z.pay) leaves
  back_fits answers x sums l legal live = subst (λ (y : ℤ). nat_abs y ≤ sum_by (λ z. nat_abs z.pay) leaves) (sym (back_at answers x sums l legal live)) (some_fit _ leaves)

  pub live_before : (answers : List ℕ) (best : ℕ) (sums after : List ℤ) → i < length answers → best < count i → start s ≤ length sums → Live root start (index_of answers) low s sums leaves → after ≡ slice_set sums parent (slice_index_or sums parent (pos 0) +ℤ slice_index_or sums (start i + best) (pos 0)) → Live root start (index_of (slice_set answers i best)) low i after leaves
  live_before answers best sums after l legal long live is k o below = ap (λ (t : List ℤ). slice_index_or t k (pos 0)) is ∙ ⊎_elim
      (λ (e : k ≡ parent). let m = in_range best legal in ap (λ (n : ℕ). slice_index_or (slice_set sums parent (slice_index_or sums parent (pos 0) +ℤ slice_index_or sums (start i + best) (pos 0))) n (pos 0)) e
      ∙ get_or-set_same sums parent _ (pos 0) (omega arith)
      ∙ back_at answers best sums l legal live
      ∙ ap (λ (n : ℕ). gathered root start (index_of (slice_set answers i best)) i n leaves) (sym e))
      (λ (n : k ≡ parent → ⊥). get_or-set_other sums parent k _ (pos 0) n
      ∙ live_at (index_of answers) sums live k o (omega arith)
      ∙ sym (left_alone root start count low high i a from to (index_of answers) (index_of (slice_set answers i best)) (λ (n : ℕ). parent) k leaves rising up (after_i answers best) below n))
      (cases_eq k parent)

  pub rule_at : (answers : List ℕ) (best : ℕ) (sums : List ℤ) (most : ℤ) → i < length answers → Live root start (index_of answers) low s sums leaves → IsBestSoFar (λ x. slice_index_or sums (start i + x) (pos 0)) (count i) best most → IsFirstBest (index_of (slice_set answers i best)) leaves i (count i)
  rule_at answers best sums most l live so =
      best_put leaves answers answers i (count i) (count i) best most l (λ j n. refl)
      (best_same _ (λ (x : ℕ). earns_from (put (index_of answers) i x) i leaves) (count i) best most (λ x k. live_at (index_of answers) sums live (start i + x) (own_at x) (omega arith) ∙ action_sum root start count low high i a from to (index_of answers) x leaves rising) so) refl
