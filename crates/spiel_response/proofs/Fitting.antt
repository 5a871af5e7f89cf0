-- Numbers that fit, and faults that come only where some don't.
use Rattle.std.proofs.Common.{◌≡◌, ℕ, zero, suc, ◌+◌, ◌*◌, ◌<◌, ◌≤◌, ◌⊎◌, inl, inr, List, [], ◌∷◌, ◌++◌, length, refl, sym, ap, subst, ◌∙◌, arith, length-append}
use Rattle.std.specs.Prelude.{sum_by, slice_index_or, ℤ, pos, negsuc, ◌+ℤ◌, ◌*ℤ◌, ◌<ℤ◌, nat_abs}
use Rattle.std.proofs.Math.Nat.{mul-pos}
use Rattle.std.proofs.lemmas.Bool.{cases_lt}
use Rattle.std.proofs.lemmas.Int.{ints}
use Rattle.std.proofs.lemmas.List.{get_or_append_left, get_or_push}
use Rattle.std.proofs.lemmas.List.Sums.{sum_by-cons}
use Rattle.spiel_frac.specs.Fraction.{most}
use Rattle.spiel_tree.specs.Rows.{Row}
use Rattle.spiel_tree.specs.Trees.{Whole}
use Rattle.spiel_response.specs.Faults.{OverflowsOnlyIf}
use Rattle.spiel_response.specs.declared.fault.JudgeFault.{JudgeFault}
use Rattle.spiel_response.specs.declared.fault.JudgeFault.TheVariants as judging
use Rattle.spiel_response.specs.Reach.{leaves, scale_of}
use Rattle.spiel_response.specs.Values.{Judged, NumbersFit, denominator_of, expected_at, size_for, sum_over, value_of, values_below}
use Rattle.spiel_response.specs.Weighed.{IsJudgeable}
use Rattle.spiel_response.proofs.LeafSums.{parts, size_below-le}
use Rattle.spiel_response.proofs.Products.{scale_is_least}

-- ---- faults
-- a fault that comes only where P holds comes only where what follows from P does
pub overflows_then : {P Q : Type 0} → (P → Q) → (fault : JudgeFault) → OverflowsOnlyIf P fault → OverflowsOnlyIf Q fault
overflows_then f judging.Overflow h = f h
overflows_then f judging.NoMemory h = tt

-- ---- the denominator
above_zero : (n : ℕ) → 0 < n → pos 0 <ℤ pos n
above_zero n l = grind (arith, ints)

-- the scale is above 0, and a whole has at least one part
pub denominator_positive : (j : Judged) → IsJudgeable j → pos 0 <ℤ denominator_of j
denominator_positive j h =
    let rules = h.game.rules in
    let unit_is : j.tree.unit ≡ pos rules.unit = ap (λ (t : Whole). t.unit) h.game.is in
    subst (λ (z : ℤ). pos 0 <ℤ (pos (scale_of j.tree.rows j.profile) *ℤ z)) (sym unit_is)
    (above_zero (scale_of j.tree.rows j.profile * rules.unit) (mul-pos (scale_is_least j h).positive h.game.lawful.limits.unit_low))

-- ---- values
pub length-values_below : (j : Judged) (n : ℕ) → length (values_below j n) ≡ n
length-values_below j zero = refl
length-values_below j (suc n) = omega (arith, length-append (values_below j n) (value_of j n ∷ []), length-values_below j n)

pub value_at : (j : Judged) (n p : ℕ) → p < n → slice_index_or (values_below j n) p (pos 0) ≡ value_of j p
value_at j zero p l = absurd (omega arith)
value_at j (suc n) p l = by (value_at j n p) (cases_lt p n)
  where
    by : (p < n → slice_index_or (values_below j n) p (pos 0) ≡ value_of j p) → (p < n) ⊎ (n ≤ p)
        → slice_index_or (values_below j n ++ value_of j n ∷ []) p (pos 0) ≡ value_of j p
    by before (inl m) = get_or_append_left (values_below j n) (value_of j n ∷ []) (pos 0) p (omega (arith, m, length-values_below j n)) ∙ before m
    by before (inr m) =
        let same : n ≡ p = omega arith in
        get_or_push (values_below j n) (value_of j n) (pos 0) p (length-values_below j n ∙ same) ∙ ap (value_of j) same

-- the size of a sum is at most the sum of the sizes
nat_abs-add-le : (a b : ℤ) → nat_abs (a +ℤ b) ≤ nat_abs a + nat_abs b
nat_abs-add-le (pos a) (pos b) = omega arith
nat_abs-add-le (pos a) (negsuc b) = grind (arith, ints)
nat_abs-add-le (negsuc a) (pos b) = grind (arith, ints)
nat_abs-add-le (negsuc a) (negsuc b) = omega arith

pub sum_over-le : (f : Row → ℤ) (g : Row → ℕ) → ((x : Row) → nat_abs (f x) ≤ g x) → (xs : List Row) → nat_abs (sum_over f xs) ≤ sum_by g xs
sum_over-le f g l [] = omega arith
sum_over-le f g l (x ∷ xs) = omega (arith, nat_abs-add-le (f x) (sum_over f xs), l x, sum_over-le f g l xs, sum_by-cons g x xs)

pub value_small : (j : Judged) (p : ℕ) → p < j.tree.players → NumbersFit j → nat_abs (value_of j p) ≤ most
value_small j p l fit =
    let own : nat_abs (value_of j p) ≤ size_for j p =
    sum_over-le (expected_at j.tree.rows j.profile p) (parts j p) (λ leaf. omega arith) (leaves j.tree.rows) in
    omega (arith, own, size_below-le j j.tree.players p l, fit.sizes)
