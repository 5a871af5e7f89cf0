-- The weights that an entry gives its information state.
use Rattle.std.specs.Prelude.{ℕ, ◌*◌, ◌/◌, ◌==◌, ◌&&◌, Bool, true, if◌then◌else◌, List, [], ◌∷◌, ◌++◌, map, sum, unsigned_abs, Option, Some, None, is_none}
use Rattle.std.specs.List.{find, list_any}
use Rattle.std.specs.Int.{◌∣◌}
use Rattle.spiel_frac.specs.Multiples.{least_multiple}
use Rattle.spiel_policy.specs.Entries.{IsFair}
use Rattle.spiel_policy.specs.declared.entries.Pair.{Pair}

-- the pair of a number, if there is one
abbrev pub pair_for : List Pair → ℕ → Option Pair
pair_for pairs number = find (λ pair. pair.number == number) pairs

abbrev pub is_in : List ℕ → ℕ → Bool
is_in numbers number = list_any (λ n. n == number) numbers

-- is the pair for one of the numbers, and none of those before it for the same?
abbrev pub is_choice : List ℕ → List Pair → Pair → Bool
is_choice numbers before pair = is_in numbers pair.number && is_none (pair_for before pair.number)

-- is each of these pairs, that stand behind others?
abbrev pub are_choices : List ℕ → List Pair → List Pair → Bool
are_choices numbers before [] = true
are_choices numbers before (pair ∷ pairs) = is_choice numbers before pair && are_choices numbers (before ++ pair ∷ []) pairs

-- for each number its pair, where each pair is for one of the numbers and none for the same as
-- another
abbrev pub choices_of : List ℕ → List Pair → Option (List (Option Pair))
choices_of numbers pairs = if are_choices numbers [] pairs then Some (map (pair_for pairs) numbers) else None

-- what the weights are counted in: the least common multiple of their denominators
abbrev pub whole_weight : List Pair → ℕ
whole_weight pairs = least_multiple (map (λ pair. pair.weight.den) pairs)

-- how many parts of the whole a number gets; none where no pair names it
abbrev pub parts_of : ℕ → Option Pair → ℕ
parts_of whole None = 0
parts_of whole (Some pair) = unsigned_abs pair.weight.num * (whole / pair.weight.den)

-- the weight is one that can be counted in such parts
pub record IsPart (whole : ℕ) (pair : Pair) : Type 0 where
  pub fair : IsFair pair.weight
  pub divides : pair.weight.den ∣ whole

-- the parts of the numbers, if they are the whole together
abbrev pub weights_of_whole : List (Option Pair) → ℕ → Option (List ℕ)
weights_of_whole choices whole = if sum (map (parts_of whole) choices) == whole then Some (map (parts_of whole) choices) else None
