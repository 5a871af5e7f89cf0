-- Units, parts and caps.
use Rattle.std.proofs.Common.{◌≡◌, ℕ, zero, suc, ◌+◌, ◌^◌, ◌<◌, ◌≤◌, max, Bool, true, false, ◌&&◌, List, [], ◌∷◌, ◌++◌, length, map, take, Some, None, refl, sym, ap, subst, ◌∙◌, arith, nat_abs, nat_le, if◌then◌else◌}
use Rattle.std.specs.Prelude.{ℤ, pos, slice_index_or, IfSome}
use Rattle.std.proofs.lemmas.Bool.{and_from, and_right, le-leb, leb-false}
use Rattle.std.proofs.lemmas.List.{map_more}
use Rattle.std.proofs.lemmas.Nat.Gcd.{le_of_dvd}
use Rattle.spiel_frac.specs.Fraction.{Fraction}
use Rattle.spiel_frac.specs.Multiples.{ArePositive, least_common_multiple, least_multiple}
use Rattle.spiel_frac.proofs.CommonMultiples.{least_common-is, least_multiple-is, least_multiple-push}
use Rattle.spiel_matrix.specs.declared.parts.MatrixParts.{MatrixParts}
use Rattle.spiel_matrix.specs.Parts.{has_shape, is_matrix}
use Rattle.spiel_matrix.specs.Pays.{are_fine, are_small, common_unit, greatest, in_parts, sizes_in, small_parts, small_unit, unit_with}
use Rattle.spiel_matrix.proofs.Counting.{beyond_none}

-- ---- the greatest
greatest-push : (sizes : List ℕ) (size : ℕ) → greatest (sizes ++ size ∷ []) ≡ max (greatest sizes) size
greatest-push [] size = omega arith
greatest-push (first ∷ sizes) size = let later = greatest-push sizes size in omega arith

pub greatest_more : (pays : List ℤ) (k : ℕ) → k < length pays → max (greatest (map nat_abs (take k pays))) (nat_abs (slice_index_or pays k (pos 0))) ≡ greatest (map nat_abs (take (k + 1) pays))
greatest_more pays k l = sym (ap greatest (map_more nat_abs pays k (pos 0) l) ∙ greatest-push (map nat_abs (take k pays)) (nat_abs (slice_index_or pays k (pos 0))))

-- sizes in parts are those of the parts
pub sizes_of_parts : (unit : ℕ) (pays : List Fraction) → map nat_abs (map (in_parts unit) pays) ≡ sizes_in unit pays
sizes_of_parts unit [] = refl
sizes_of_parts unit (pay ∷ pays) = ap (λ (sizes : List ℕ). nat_abs (in_parts unit pay) ∷ sizes) (sizes_of_parts unit pays)

-- ---- the unit
abbrev pub dens : List Fraction → List ℕ
dens pays = map (λ (pay : Fraction). pay.den) pays

pub unit_positive : (pays : List Fraction) → ArePositive (dens pays) → 0 < common_unit pays
unit_positive pays positive = (least_multiple-is (dens pays) positive).positive

-- a number that is above 0 passes for a unit
pub small_unit_positive : (unit : ℕ) → 0 < unit → IfSome (small_unit unit) (λ n. 0 < n)
small_unit_positive unit l = by (nat_le unit (2 ^ 62))
  where
    by : (b : Bool) → IfSome (if b then Some unit else None) (λ n. 0 < n)
    by true = l
    by false = tt

positive-push : (xs : List ℕ) (x : ℕ) → ArePositive xs → 0 < x → ArePositive (xs ++ x ∷ [])
positive-push [] x p l = (l, tt)
positive-push (y ∷ xs) x p l = (p.0, positive-push xs x p.1 l)

-- a pay more
dens_more : (pays : List Fraction) (k : ℕ) (d : Fraction) → k < length pays → dens (take (k + 1) pays) ≡ dens (take k pays) ++ (slice_index_or pays k d).den ∷ []
dens_more pays k d l = map_more (λ (pay : Fraction). pay.den) pays k d l

pub dens_positive_more : (pays : List Fraction) (k : ℕ) (d : Fraction) → k < length pays → ArePositive (dens (take k pays)) → 0 < (slice_index_or pays k d).den → ArePositive (dens (take (k + 1) pays))
dens_positive_more pays k d l p q = subst (λ xs. ArePositive xs) (sym (dens_more pays k d l)) (positive-push (dens (take k pays)) (slice_index_or pays k d).den p q)

pub unit_more : (pays : List Fraction) (k : ℕ) (d : Fraction) → k < length pays → ArePositive (dens (take k pays)) → 0 < (slice_index_or pays k d).den
    → unit_with (small_unit (common_unit (take k pays))) (slice_index_or pays k d).den ≡ small_unit (common_unit (take (k + 1) pays))
unit_more pays k d l p q = by (nat_le unit (2 ^ 62)) refl
  where
    unit : ℕ
    unit = common_unit (take k pays)

    den : ℕ
    den = (slice_index_or pays k d).den

    next : least_common_multiple unit den ≡ common_unit (take (k + 1) pays)
    next = sym (ap least_multiple (dens_more pays k d l) ∙ least_multiple-push (dens (take k pays)) den)

    grows : unit ≤ least_common_multiple unit den
    grows = let least = least_common-is unit den (unit_positive (take k pays) p) q in le_of_dvd least.positive least.multiple.0

    by : (b : Bool) → nat_le unit (2 ^ 62) ≡ b → unit_with (if b then Some unit else None) den ≡ small_unit (common_unit (take (k + 1) pays))
    by true e = ap small_unit next
    by false e = beyond_none (common_unit (take (k + 1) pays)) (2 ^ 62) (common_unit (take (k + 1) pays)) (omega (arith, leb-false unit (2 ^ 62) e, grows, next))

-- ---- pays that are fine
-- parts of a right shape with pays that are fine make a game
pub is_matrix_from : (parts : MatrixParts) → has_shape parts ≡ true → common_unit parts.pays ≤ 2 ^ 62 → are_small (common_unit parts.pays) parts.pays ≡ true → is_matrix parts ≡ true
is_matrix_from parts shape high small =
    let unit : ℕ = common_unit parts.pays in
    and_from (has_shape parts) (are_fine parts.pays) shape (and_from (nat_le unit (2 ^ 62)) (are_small unit parts.pays) (le-leb unit (2 ^ 62) high) small)

-- ---- pays that are too large
large_somewhere : (unit : ℕ) (pays : List Fraction) (k : ℕ) (d : Fraction) → k < length pays → nat_le (nat_abs (in_parts unit (slice_index_or pays k d))) (2 ^ 62) ≡ false → are_small unit pays ≡ false
large_somewhere unit [] k d l e = absurd (omega arith)
large_somewhere unit (pay ∷ pays) zero d l e = ap (λ (b : Bool). b && are_small unit pays) e
large_somewhere unit (pay ∷ pays) (suc k) d l e = ap (λ (b : Bool). nat_le (nat_abs (in_parts unit pay)) (2 ^ 62) && b) (large_somewhere unit pays k d (omega arith) e) ∙ and_right (nat_le (nat_abs (in_parts unit pay)) (2 ^ 62)) false refl

pub too_large : (unit : ℕ) (pays : List Fraction) (k : ℕ) (pay : Fraction) → k < length pays → pay ≡ slice_index_or pays k pay → None ≡ small_parts (in_parts unit pay) → are_small unit pays ≡ false
too_large unit pays k pay l same none = large_somewhere unit pays k pay l (subst (λ (p : Fraction). nat_le (nat_abs (in_parts unit p)) (2 ^ 62) ≡ false) same (by (nat_le size (2 ^ 62)) refl none))
  where
    size : ℕ
    size = nat_abs (in_parts unit pay)

    by : (b : Bool) → nat_le size (2 ^ 62) ≡ b → None ≡ (if b then Some (in_parts unit pay) else None) → nat_le size (2 ^ 62) ≡ false
    by true t e = absurd cc
    by false t e = t
