-- Sums over a state's actions, and over leaves.
use Rattle.std.proofs.Common.{◌≡◌, ℕ, zero, suc, ◌+◌, ◌<◌, ◌≤◌, List, [], ◌∷◌, ℤ, pos, ◌+ℤ◌, ◌*ℤ◌, ◌≤ℤ◌, arith, refl, ap, ap₂, sym, ◌∙◌, ◌⊎◌, inl, inr, ◌≢◌}
use Rattle.std.specs.List.{AllByRecursion}
use Rattle.std.proofs.lemmas.Bool.{cases_lt}
use Rattle.spiel_response.specs.Values.{sum_over}
use Rattle.spiel_response.specs.Responses.{sum_below}
use Rattle.spiel_response.proofs.Integers.{sum_to, times_plus, plus_times, times_none, no_times, none_plus, plus_none, swap_middle, plus_at_most, at_most_trans, at_most_same, times_at_most}

-- ---- over 0 .. n - 1
pub sum_to_same : (f g : ℕ → ℤ) (n : ℕ) → ((a : ℕ) → a < n → f a ≡ g a) → sum_to f n ≡ sum_to g n
sum_to_same f g zero h = refl
sum_to_same f g (suc n) h = ap₂ (λ (x y : ℤ). x +ℤ y) (sum_to_same f g n (λ a k. h a (omega arith))) (h n (omega arith))

pub sum_below_same : (f g : ℕ → ℕ) (n : ℕ) → ((a : ℕ) → a < n → f a ≡ g a) → sum_below f n ≡ sum_below g n
sum_below_same f g zero h = refl
sum_below_same f g (suc n) h = ap₂ (λ (x y : ℕ). x + y) (sum_below_same f g n (λ a k. h a (omega arith))) (h n (omega arith))

pub sum_to_none : (f : ℕ → ℤ) (n : ℕ) → ((a : ℕ) → a < n → f a ≡ pos 0) → sum_to f n ≡ pos 0
sum_to_none f zero h = refl
sum_to_none f (suc n) h = ap₂ (λ (x y : ℤ). x +ℤ y) (sum_to_none f n (λ a k. h a (omega arith))) (h n (omega arith))

pub sum_to_plus : (f g : ℕ → ℤ) (n : ℕ) → sum_to f n +ℤ sum_to g n ≡ sum_to (λ a. f a +ℤ g a) n
sum_to_plus f g zero = refl
sum_to_plus f g (suc n) = swap_middle (sum_to f n) (f n) (sum_to g n) (g n) ∙ ap (λ (x : ℤ). x +ℤ (f n +ℤ g n)) (sum_to_plus f g n)

-- only the term at x counts
pub sum_to_point : (f : ℕ → ℤ) (x n : ℕ) → x < n → ((a : ℕ) → a < n → a ≢ x → f a ≡ pos 0) → sum_to f n ≡ f x
sum_to_point f x zero h k = absurd (omega arith)
sum_to_point f x (suc n) h k = by (sum_to_point f x n) (cases_lt x n)
  where
    by : (x < n → ((a : ℕ) → a < n → a ≢ x → f a ≡ pos 0) → sum_to f n ≡ f x) → (x < n) ⊎ (n ≤ x) → sum_to f n +ℤ f n ≡ f x
    by ih (inl l) = ap₂ (λ (u v : ℤ). u +ℤ v) (ih l (λ a m. k a (omega arith))) (k n (omega arith) (omega arith)) ∙ plus_none (f x)
    by ih (inr g) =
        let same : n ≡ x = omega arith in
        ap₂ (λ (u v : ℤ). u +ℤ v) (sum_to_none f n (λ a m. k a (omega arith) (omega arith))) (ap f same) ∙ none_plus (f x)

-- weighed terms are at most the sum of the weights times a bound
pub sum_to_at_most : (h : ℕ → ℕ) (f : ℕ → ℤ) (m : ℤ) (n : ℕ) → ((a : ℕ) → a < n → f a ≤ℤ m) → sum_to (λ a. pos (h a) *ℤ f a) n ≤ℤ (pos (sum_below h n) *ℤ m)
sum_to_at_most h f m zero k = at_most_same _ _ (sym (no_times m))
sum_to_at_most h f m (suc n) k =
    at_most_trans _ _ _
    (plus_at_most _ _ _ _ (sum_to_at_most h f m n (λ a l. k a (omega arith))) (times_at_most (h n) (f n) m (k n (omega arith))))
    (at_most_same _ _ (sym (plus_times (sum_below h n) (h n) m)))

-- ---- over a list
pub sum_over_same : {X : Type 0} (f g : X → ℤ) (xs : List X) → AllByRecursion (λ x. f x ≡ g x) xs → sum_over f xs ≡ sum_over g xs
sum_over_same f g [] h = refl
sum_over_same f g (x ∷ xs) h = ap₂ (λ (a b : ℤ). a +ℤ b) h.0 (sum_over_same f g xs h.1)

pub sum_over_times : {X : Type 0} (m : ℕ) (f : X → ℤ) (xs : List X) → pos m *ℤ sum_over f xs ≡ sum_over (λ x. pos m *ℤ f x) xs
sum_over_times m f [] = times_none m
sum_over_times m f (x ∷ xs) = times_plus m (f x) (sum_over f xs) ∙ ap (λ (y : ℤ). pos m *ℤ f x +ℤ y) (sum_over_times m f xs)

-- a sum of a part and of weighed terms, gathered by the indices
pub gathered_by : {X : Type 0} (f r : X → ℤ) (t : ℕ → X → ℤ) (h : ℕ → ℕ) (m n : ℕ) (xs : List X) → AllByRecursion (λ x. f x ≡ r x +ℤ pos m *ℤ sum_to (λ a. pos (h a) *ℤ t a x) n) xs → sum_over f xs ≡ sum_over r xs +ℤ pos m *ℤ sum_to (λ a. pos (h a) *ℤ sum_over (t a) xs) n
gathered_by f r t h m n [] k =
    let none = sum_to_none (λ (a : ℕ). pos (h a) *ℤ pos 0) n (λ a l. times_none (h a)) in
    sym (none_plus _ ∙ ap (λ (y : ℤ). pos m *ℤ y) none ∙ times_none m)
gathered_by f r t h m n (x ∷ xs) k =
    let here = sum_to (λ (a : ℕ). pos (h a) *ℤ t a x) n in
    let there = sum_to (λ (a : ℕ). pos (h a) *ℤ sum_over (t a) xs) n in
    let both : here +ℤ there ≡ sum_to (λ (a : ℕ). pos (h a) *ℤ (t a x +ℤ sum_over (t a) xs)) n =
    sum_to_plus (λ (a : ℕ). pos (h a) *ℤ t a x) (λ (a : ℕ). pos (h a) *ℤ sum_over (t a) xs) n
    ∙ sum_to_same _ _ n (λ a l. sym (times_plus (h a) (t a x) (sum_over (t a) xs))) in
    ap₂ (λ (a b : ℤ). a +ℤ b) k.0 (gathered_by f r t h m n xs k.1)
    ∙ swap_middle (r x) (pos m *ℤ here) (sum_over r xs) (pos m *ℤ there)
    ∙ ap (λ (y : ℤ). (r x +ℤ sum_over r xs) +ℤ y) (sym (times_plus m here there) ∙ ap (λ (y : ℤ). pos m *ℤ y) both)
