-- Whole weights: what is too large doesn't sum to the unit.
use Rattle.std.proofs.Common.{◌≡◌, ℕ, ◌^◌, ◌<◌, ◌≤◌, Bool, true, false, ◌&&◌, List, [], ◌∷◌, map, refl, ap, arith, nat_le, ◌==◌}
use Rattle.std.specs.Prelude.{sum, nat_abs}
use Rattle.std.specs.List.{list_all}
use Rattle.std.proofs.lemmas.Bool.{leb-false, ne_eqb}
use Rattle.std.proofs.lemmas.List.Sums.{sum_by-cons}
use Rattle.spiel_efg.specs.declared.fault.PartsFault.{PartsFault}
use Rattle.spiel_efg.specs.declared.fault.PartsFault.TheVariants.{Bad, NoMemory}
use Rattle.spiel_efg.specs.Faults.{IsRefused}
use Rattle.spiel_frac.specs.Fraction.{Fraction}
use Rattle.spiel_matrix.specs.Pays.{are_small, in_parts, sizes_in}

pub sizes_of_parts : (unit : ℕ) (weights : List Fraction) → map nat_abs (map (in_parts unit) weights) ≡ sizes_in unit weights
sizes_of_parts unit [] = refl
sizes_of_parts unit (weight ∷ weights) = ap (λ sizes. nat_abs (in_parts unit weight) ∷ sizes) (sizes_of_parts unit weights)

sum_beyond : (sizes : List ℕ) (most : ℕ) → list_all (λ size. nat_le size most) sizes ≡ false → most < sum sizes
sum_beyond [] most e = absurd cc
sum_beyond (size ∷ sizes) most e = by (nat_le size most) refl e (λ f. sum_beyond sizes most f)
  where
    by : (b : Bool) → nat_le size most ≡ b → (b && list_all (λ size. nat_le size most) sizes) ≡ false → (list_all (λ size. nat_le size most) sizes ≡ false → most < sum sizes) → most < sum (size ∷ sizes)
    by true t e later = omega (arith, later e, sum_by-cons (λ n. n) size sizes)
    by false t e later = omega (arith, leb-false size most t, sum_by-cons (λ n. n) size sizes)

pub too_large : (unit : ℕ) (weights : List Fraction) → are_small unit weights ≡ false → unit ≤ 2 ^ 62 → (sum (sizes_in unit weights) == unit) ≡ false
too_large unit weights e l =
    let beyond = sum_beyond (sizes_in unit weights) (2 ^ 62) e in
    ne_eqb (sum (sizes_in unit weights)) unit (λ same. omega arith)

pub refused : (unit : ℕ) (weights : List Fraction) (fault : PartsFault) → IsRefused (are_small unit weights) fault → unit ≤ 2 ^ 62 → IsRefused (sum (sizes_in unit weights) == unit) fault
refused unit weights Bad e l = too_large unit weights e l
refused unit weights NoMemory e l = tt
