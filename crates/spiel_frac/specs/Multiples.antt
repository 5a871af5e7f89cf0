-- Common multiples of whole numbers, and the least of them.
use Rattle.std.specs.Prelude.{ℕ, ◌*◌, ◌/◌, ◌<◌, List, [], ◌∷◌}
use Rattle.std.specs.List.{AllByRecursion}
use Rattle.std.specs.Int.{◌∣◌}
use Rattle.spiel_frac.specs.Fraction.{greatest_common_divisor}

-- each number of the list is above 0
abbrev pub ArePositive : List ℕ → Type 0
ArePositive xs = AllByRecursion (λ x. 0 < x) xs

-- each number of the list divides n
abbrev pub IsMultiple : List ℕ → ℕ → Type 0
IsMultiple xs n = AllByRecursion (λ x. x ∣ n) xs

-- n is above 0, each number of the list divides it, and it divides each number that they all divide
pub record IsLeastMultiple (xs : List ℕ) (n : ℕ) : Type 0 where
  pub positive : 0 < n
  pub multiple : IsMultiple xs n
  pub least : (m : ℕ) → IsMultiple xs m → n ∣ m

-- the product by the greatest common divisor
unfoldable pub least_common_multiple : ℕ → ℕ → ℕ
least_common_multiple a b = a / greatest_common_divisor a b * b

-- the least common multiple of n and the numbers of the list
abbrev pub least_multiple_from : ℕ → List ℕ → ℕ
least_multiple_from n [] = n
least_multiple_from n (x ∷ xs) = least_multiple_from (least_common_multiple n x) xs

-- the least common multiple of the numbers of the list; 1 for none
abbrev pub least_multiple : List ℕ → ℕ
least_multiple xs = least_multiple_from 1 xs
