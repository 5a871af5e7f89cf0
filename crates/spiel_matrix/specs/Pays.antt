-- Pays as whole numbers: a fraction is so many parts of 1/unit.
use Rattle.std.specs.Prelude.{◌≡◌, ℕ, ◌/◌, ◌^◌, max, ℤ, pos, ◌*ℤ◌, nat_abs, Bool, false, ◌&&◌, nat_le, if◌then◌else◌, List, [], ◌∷◌, map, Option, Some, None, ⊤}
use Rattle.std.specs.List.{list_all}
use Rattle.spiel_frac.specs.Fraction.{Fraction}
use Rattle.spiel_frac.specs.Multiples.{least_common_multiple, least_multiple}
use Rattle.spiel_matrix.specs.declared.fault.MatrixFault.{MatrixFault}
use Rattle.spiel_matrix.specs.declared.fault.MatrixFault.TheVariants.{Shape, PayTooFine, NoMemory}

-- the least common denominator
abbrev pub common_unit : List Fraction → ℕ
common_unit pays = least_multiple (map (λ pay. pay.den) pays)

-- how many parts of 1/unit a pay is: the fraction times the unit
abbrev pub in_parts : ℕ → Fraction → ℤ
in_parts unit pay = pay.num *ℤ pos (unit / pay.den)

-- the sizes of pays in parts of 1/unit
abbrev pub sizes_in : ℕ → List Fraction → List ℕ
sizes_in unit pays = map (λ pay. nat_abs (in_parts unit pay)) pays

-- the greatest of some numbers and 1
abbrev pub greatest : List ℕ → ℕ
greatest [] = 1
greatest (size ∷ sizes) = max size (greatest sizes)

-- the size that no pay passes in parts of the common unit, which is 1 at least
abbrev pub cap_of : List Fraction → ℕ
cap_of pays = greatest (sizes_in (common_unit pays) pays)

-- neither the common denominator nor the size of a pay in that unit passes 2^62
abbrev pub are_small : ℕ → List Fraction → Bool
are_small unit pays = list_all (λ size. nat_le size (2 ^ 62)) (sizes_in unit pays)

abbrev pub are_fine : List Fraction → Bool
are_fine pays = nat_le (common_unit pays) (2 ^ 62) && are_small (common_unit pays) pays

-- ---- on the way there
-- a unit, unless it passes 2^62
abbrev pub small_unit : ℕ → Option ℕ
small_unit unit = if nat_le unit (2 ^ 62) then Some unit else None

-- a unit with one denominator more
abbrev pub unit_with : Option ℕ → ℕ → Option ℕ
unit_with None den = None
unit_with (Some unit) den = small_unit (least_common_multiple unit den)

-- parts, unless their size passes 2^62
abbrev pub small_parts : ℤ → Option ℤ
small_parts parts = if nat_le (nat_abs parts) (2 ^ 62) then Some parts else None

-- the size of a pay passes 2^62, unless memory ran out
abbrev pub IsTooFine : ℕ → List Fraction → MatrixFault → Type 0
IsTooFine unit pays Shape = ⊥
IsTooFine unit pays PayTooFine = are_small unit pays ≡ false
IsTooFine unit pays NoMemory = ⊤
