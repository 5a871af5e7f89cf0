-- The computed response obeys the local rule.
use Rattle.std.proofs.Common.{◌≡◌, ℕ, zero, suc, ◌+◌, ◌<◌, ◌≤◌, Bool, true, false, cond, List, ℤ, ◌≤ℤ◌, ◌<ℤ◌, eqb, arith, refl, sym, subst, subst₂, ◌⊎◌, inl, inr, eq-eqb, ne_eqb}
use Rattle.std.specs.List.{AllByRecursion}
use Rattle.std.specs.Int.RustNames.{int_lt}
use Rattle.std.proofs.lemmas.Int.{ints}
use Rattle.std.proofs.lemmas.Bool.{cond-true, cond-false, cases_lt}
use Rattle.spiel_response.specs.Greatest.{IsBestSoFar}
use Rattle.spiel_response.specs.Responses.{Leaf, earns_from, put, IsFirstBest, ObeysLocalRule}
use Rattle.spiel_response.specs.Remembered.{IsRising}
use Rattle.spiel_response.specs.Responses.{first_best, response_from}
use Rattle.spiel_response.proofs.Laws.{ResponseObeys}
use Rattle.spiel_response.proofs.Greatest.{best_start, best_takes, best_keeps}
use Rattle.spiel_response.proofs.LocalRule.{agreeing_earns_from, later_first_best}

-- the first of the best of f, of which there is one at least
first_best_is : (f : ℕ → ℤ) (n : ℕ) → IsBestSoFar f (suc n) (first_best f (suc n)) (f (first_best f (suc n)))
first_best_is f zero = by (int_lt (f 0) (f 0))
  where
    by : (t : Bool) → IsBestSoFar f 1 (cond t 0 0) (f (cond t 0 0))
    by true = best_start f (f 0) refl
    by false = best_start f (f 0) refl
first_best_is f (suc n) = by (first_best_is f n) (int_lt (f (first_best f (suc n))) (f (suc n))) refl
  where
    one : suc n + 1 ≡ suc (suc n)
    one = omega arith

    by : IsBestSoFar f (suc n) (first_best f (suc n)) (f (first_best f (suc n))) → (t : Bool) → int_lt (f (first_best f (suc n))) (f (suc n)) ≡ t → IsBestSoFar f (suc (suc n)) (cond t (suc n) (first_best f (suc n))) (f (cond t (suc n) (first_best f (suc n))))
    by so true e = subst (λ (m : ℕ). IsBestSoFar f m (suc n) (f (suc n))) one (best_takes f (suc n) (first_best f (suc n)) (f (first_best f (suc n))) (f (suc n)) so refl (omega (arith, ints)))
    by so false e = subst (λ (m : ℕ). IsBestSoFar f m (first_best f (suc n)) (f (first_best f (suc n)))) one (best_keeps f (suc n) (first_best f (suc n)) (f (first_best f (suc n))) (f (suc n)) so refl (omega (arith, ints)))

first_best_at : (f : ℕ → ℤ) (n : ℕ) → 0 < n → IsBestSoFar f n (first_best f n) (f (first_best f n))
first_best_at f zero h = absurd (omega arith)
first_best_at f (suc n) h = first_best_is f n

put_here : (d : ℕ → ℕ) (i a : ℕ) → put d i a i ≡ a
put_here d i a = cond-true (eqb i i) a (d i) (eq-eqb i i refl)

put_put : (d : ℕ → ℕ) (i b a j : ℕ) → put (put d i b) i a j ≡ put d i a j
put_put d i b a j = by (eqb j i)
  where
    by : (t : Bool) → cond t a (cond t b (d j)) ≡ cond t a (d j)
    by true = refl
    by false = refl

-- the best of the sums at state i, put there
put_best : (d : ℕ → ℕ) (leaves : List Leaf) (i count b : ℕ) (most : ℤ) → IsBestSoFar (λ a. earns_from (put d i a) i leaves) count b most → IsFirstBest (put d i b) leaves i count
put_best d leaves i count b most so =
    let here = put_here d i b in
    let whole = so.most_is in
    let with = λ (a : ℕ). agreeing_earns_from (put (put d i b) i a) (put d i a) i leaves (put_put d i b a) in
    record {
      legal = subst (λ (x : ℕ). x < count) (sym here) so.best_below;
      best = λ a k. subst₂ (λ (x y : ℤ). x ≤ℤ y) (sym (with a)) whole (so.at_most a k);
      first = λ a k. subst₂ (λ (x y : ℤ). x <ℤ y) (sym (with a)) whole (so.less_before a (subst (λ (x : ℕ). a < x) here k));
    }

obeys_from : (leaves : List Leaf) (count : ℕ → ℕ) (least high low n : ℕ) → AllByRecursion (λ z. IsRising count least high z.steps) leaves → ((i : ℕ) → low ≤ i → i < low + n → 0 < count i) → ObeysLocalRule (response_from leaves count low n) leaves count low (low + n)
obeys_from leaves count least high low zero r some i h k = absurd (omega arith)
obeys_from leaves count least high low (suc n) r some i h k = by (obeys_from leaves count least high (suc low) n r (λ j m o. some j (omega arith) (omega arith)) i) (cases_lt low i)
  where
    by : (suc low ≤ i → i < suc low + n → IsFirstBest (response_from leaves count (suc low) n) leaves i (count i)) → (low < i) ⊎ (i ≤ low) → IsFirstBest (response_from leaves count low (suc n)) leaves i (count i)
    by ih (inl l) = later_first_best (response_from leaves count (suc low) n) (response_from leaves count low (suc n)) i count least high leaves r
        (λ j m. sym (cond-false (eqb j low) _ _ (ne_eqb j low (λ e. omega arith)))) (ih l (omega arith))
    by ih (inr g) =
        let same : low ≡ i = omega arith in
        subst (λ (m : ℕ). IsFirstBest (response_from leaves count low (suc n)) leaves m (count m)) same
        (put_best (response_from leaves count (suc low) n) leaves low (count low) _ _ (first_best_at (λ (a : ℕ). earns_from (put (response_from leaves count (suc low) n) low a) low leaves) (count low) (some low (omega arith) (omega arith))))

pub response_obeys : ResponseObeys
response_obeys leaves count low n players some = obeys_from leaves count low (low + n) low n players.rising some
