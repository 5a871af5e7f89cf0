-- Profiles by how many numbers the movers have.
use Rattle.std.proofs.Common.{◌≡◌, ℕ, zero, suc, ◌+◌, ◌-◌, ◌*◌, ◌<◌, ◌≤◌, List, [], ◌∷◌, ◌++◌, length, map, refl, ap, ap₂, sym, subst, ◌∙◌, arith, length-append}
use Rattle.std.specs.Prelude.{replicate, sum, All}
use Rattle.std.specs.List.{AllByRecursion}
use Rattle.std.specs.Int.{◌∣◌}
use Rattle.std.proofs.Math.Nat.{dvd_refl}
use Rattle.std.proofs.Common.{◌⊎◌, inl, inr}
use Rattle.std.proofs.lemmas.Bool.{cases_lt}
use Rattle.std.proofs.lemmas.List.{length-replicate, map-append, replicate_more}
use Rattle.std.proofs.lemmas.List.Elements.{All-nil, All-append, All-cons}
use Rattle.spiel_frac.specs.Fraction.{most}
use Rattle.spiel_frac.specs.Multiples.{IsLeastMultiple, IsMultiple}
use Rattle.spiel_frac.proofs.Quotients.{lowest_terms-den_of_unit, lowest_terms-den_of_whole}
use Rattle.std.proofs.lemmas.List.Sums.{sum_by-cons}
use Rattle.std.proofs.lemmas.List.Folds.{sum_by-replicate}
use Rattle.spiel_tree.specs.States.{numbers_of, states_below}
use Rattle.spiel_tree.specs.Trees.{Whole}
use Rattle.spiel_policy.specs.Profiles.{AreReduced, Fits, Profile, by_counts, denominator, even_weights, first_profile, first_weights, uniform_profile, weights_of}
use Rattle.spiel_policy.specs.Kept.{weights_with, profile_with}

-- one weight more
pub weights_with_more : (n other : ℕ) → 1 ≤ n → weights_with n other ++ other ∷ [] ≡ weights_with (n + 1) other
weights_with_more zero other l = absurd (omega arith)
weights_with_more (suc n) other l = ap (λ (xs : List ℕ). 1 ∷ xs) (replicate_more n other) ∙ ap (λ (k : ℕ). weights_with k other) (let e : suc (n + 1) ≡ suc n + 1 = omega arith in e)

length-weights_with : (n other : ℕ) → length (weights_with n other) ≡ n
length-weights_with zero other = refl
length-weights_with (suc n) other = ap suc (length-replicate n other)

sum_of_more : (n other : ℕ) → sum (weights_with (suc n) other) ≡ 1 + other * n
sum_of_more n other =
    let first : sum (weights_with (suc n) other) ≡ 1 + sum (replicate n other) = sum_by-cons (λ (x : ℕ). x) 1 (replicate n other) in
    let rest : sum (replicate n other) ≡ n * other = sum_by-replicate (λ (x : ℕ). x) n other in
    omega (arith, first, rest)

pub sum-weights_with : (n other : ℕ) → 1 ≤ n → sum (weights_with n other) ≡ 1 + other * (n - 1)
sum-weights_with zero other l = absurd (omega arith)
sum-weights_with (suc n) other l =
    let less : n ≡ suc n - 1 = omega arith in
    sum_of_more n other ∙ ap (λ (k : ℕ). 1 + other * k) less

-- ---- by counts
pub length-by_counts : (f : ℕ → List ℕ) (tree : Whole) (n : ℕ) → length (by_counts f tree n) ≡ n
length-by_counts f tree zero = refl
length-by_counts f tree (suc n) = omega (arith, length-append (by_counts f tree n) (f (length (numbers_of tree.players tree.rows n)) ∷ []), length-by_counts f tree n)

same_by_counts : (f g : ℕ → List ℕ) (tree : Whole) (n : ℕ) → ((k : ℕ) → f k ≡ g k) → by_counts f tree n ≡ by_counts g tree n
same_by_counts f g tree zero same = refl
same_by_counts f g tree (suc n) same = ap₂ (λ (xs : Profile) (x : List ℕ). xs ++ x ∷ []) (same_by_counts f g tree n same) (same (length (numbers_of tree.players tree.rows n)))

even_is : (n : ℕ) → weights_with n 1 ≡ even_weights n
even_is zero = refl
even_is (suc n) = refl

first_is : (n : ℕ) → weights_with n 0 ≡ first_weights n
first_is zero = refl
first_is (suc n) = refl

-- ---- reduced
-- the least common multiple of copies of a number is that number
copies_multiple : (m n : ℕ) → m ∣ n → (xs : List ℕ) → AllByRecursion (λ x. x ≡ m) xs → IsMultiple xs n
copies_multiple m n d [] same = tt
copies_multiple m n d (x ∷ xs) same = (subst (λ (k : ℕ). k ∣ n) (sym same.0) d, copies_multiple m n d xs same.1)

copies_least : (m : ℕ) → 0 < m → (x : ℕ) (xs : List ℕ) → AllByRecursion (λ y. y ≡ m) (x ∷ xs) → IsLeastMultiple (x ∷ xs) m
copies_least m p x xs same = record {
  positive = p;
  multiple = copies_multiple m m (dvd_refl m) (x ∷ xs) same;
  least = λ n h. subst (λ (k : ℕ). k ∣ n) same.0 h.0;
}

denominators_of_ones : (m n : ℕ) → AllByRecursion (λ x. x ≡ m) (map (denominator m) (replicate n 1))
denominators_of_ones m zero = tt
denominators_of_ones m (suc n) = (lowest_terms-den_of_unit m, denominators_of_ones m n)

denominators_of_one : (n : ℕ) → AllByRecursion (λ x. x ≡ 1) (map (denominator 1) (replicate n 0))
denominators_of_one zero = tt
denominators_of_one (suc n) = (lowest_terms-den_of_whole 0, denominators_of_one n)

reduced_by : (total other n : ℕ) → total ≡ 1 + other * n → other ≤ 1 → IsLeastMultiple (map (denominator total) (weights_with (suc n) other)) total
reduced_by total zero n e l =
    subst (λ (t : ℕ). IsLeastMultiple (map (denominator t) (weights_with (suc n) 0)) t) (let one : 1 ≡ total = omega arith in one)
    (copies_least 1 (omega arith) (denominator 1 1) (map (denominator 1) (replicate n 0)) (lowest_terms-den_of_unit 1, denominators_of_one n))
reduced_by total (suc zero) n e l =
    copies_least total (omega arith) (denominator total 1) (map (denominator total) (replicate n 1)) (lowest_terms-den_of_unit total, denominators_of_ones total n)
reduced_by total (suc (suc other)) n e l = absurd (omega arith)

pub reduced-weights_with : (n other : ℕ) → 1 ≤ n → n ≤ most → other ≤ 1 → AreReduced (weights_with n other)
reduced-weights_with zero other l m o = absurd (omega arith)
reduced-weights_with (suc n) other l m o =
    let total = sum_of_more n other in
    record { least = reduced_by (sum (weights_with (suc n) other)) other n total o; small = small_by other o total }
  where
    small_by : (other : ℕ) → other ≤ 1 → sum (weights_with (suc n) other) ≡ 1 + other * n → sum (weights_with (suc n) other) ≤ most
    small_by zero o total = omega (arith, total, m)
    small_by (suc zero) o total = omega (arith, total, m)
    small_by (suc (suc other)) o total = absurd (omega arith)

-- ---- the two profiles
pub uniform_is : (tree : Whole) → profile_with tree 1 ≡ uniform_profile tree
uniform_is tree = same_by_counts (λ n. weights_with n 1) even_weights tree (length (states_below tree.players tree.rows)) even_is

pub first_profile_is : (tree : Whole) → profile_with tree 0 ≡ first_profile tree
first_profile_is tree = same_by_counts (λ n. weights_with n 0) first_weights tree (length (states_below tree.players tree.rows)) first_is

at_append : (xs : Profile) (x : List ℕ) (k : ℕ) → k < length xs → weights_of (xs ++ x ∷ []) k ≡ weights_of xs k
at_append [] x k l = absurd (omega arith)
at_append (y ∷ xs) x zero l = refl
at_append (y ∷ xs) x (suc k) l = at_append xs x k (omega arith)

at_end : (xs : Profile) (x : List ℕ) (k : ℕ) → k ≡ length xs → weights_of (xs ++ x ∷ []) k ≡ x
at_end [] x zero e = refl
at_end [] x (suc k) e = absurd (omega arith)
at_end (y ∷ xs) x zero e = absurd (omega arith)
at_end (y ∷ xs) x (suc k) e = at_end xs x k (omega arith)

at_by_counts : (f : ℕ → List ℕ) (tree : Whole) (n s : ℕ) → s < n → weights_of (by_counts f tree n) s ≡ f (length (numbers_of tree.players tree.rows s))
at_by_counts f tree zero s l = absurd (omega arith)
at_by_counts f tree (suc n) s l = by (at_by_counts f tree n s) (cases_lt s n)
  where
    here : List ℕ
    here = f (length (numbers_of tree.players tree.rows n))

    by : (s < n → weights_of (by_counts f tree n) s ≡ f (length (numbers_of tree.players tree.rows s))) → (s < n) ⊎ (n ≤ s)
        → weights_of (by_counts f tree n ++ here ∷ []) s ≡ f (length (numbers_of tree.players tree.rows s))
    by before (inl m) = at_append (by_counts f tree n) here s (omega (arith, m, length-by_counts f tree n)) ∙ before m
    by before (inr m) =
        let same : s ≡ n = omega arith in
        at_end (by_counts f tree n) here s (omega (arith, same, length-by_counts f tree n))
        ∙ ap (λ (k : ℕ). f (length (numbers_of tree.players tree.rows k))) (sym same)

-- such a profile is one for its tree
pub fits_with : (tree : Whole) (other : ℕ) → All AreReduced (profile_with tree other) → Fits tree (profile_with tree other)
fits_with tree other reduced =
    let count = length (states_below tree.players tree.rows) in
    let long = length-by_counts (λ n. weights_with n other) tree count in
    record {
      states = long;
      numbers = λ s l. ap length (at_by_counts (λ n. weights_with n other) tree count s (omega (arith, l, long))) ∙ length-weights_with (length (numbers_of tree.players tree.rows s)) other;
      reduced = reduced;
    }

-- ---- one information state more
pub by_counts_more : (f : ℕ → List ℕ) (tree : Whole) (n : ℕ) (profile : Profile) (weights : List ℕ) → profile ≡ by_counts f tree n
    → weights ≡ f (length (numbers_of tree.players tree.rows n)) → profile ++ weights ∷ [] ≡ by_counts f tree (n + 1)
by_counts_more f tree n profile weights e g =
    ap₂ (λ (xs : Profile) (x : List ℕ). xs ++ x ∷ []) e g ∙ ap (by_counts f tree) (let next : suc n ≡ n + 1 = omega arith in next)

pub totals_more : (profile : Profile) (totals : List ℕ) (weights : List ℕ) (total : ℕ) → totals ≡ map sum profile → total ≡ sum weights
    → totals ++ total ∷ [] ≡ map sum (profile ++ weights ∷ [])
totals_more profile totals weights total e g = ap₂ (λ (xs : List ℕ) (x : ℕ). xs ++ x ∷ []) e g ∙ sym (map-append sum profile (weights ∷ []))

pub reduced_more : (profile : Profile) (weights : List ℕ) → All AreReduced profile → AreReduced weights → All AreReduced (profile ++ weights ∷ [])
reduced_more profile weights all one = All-append AreReduced profile (weights ∷ []) all (All-cons AreReduced weights [] one (All-nil AreReduced))
