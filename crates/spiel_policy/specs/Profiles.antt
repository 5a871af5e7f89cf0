-- Profiles: for each information state of a tree, whole weights of what the mover may choose.
use Rattle.std.specs.Prelude.{◌≡◌, ℕ, zero, suc, ◌<◌, ◌≤◌, pos, List, [], ◌∷◌, ◌++◌, length, map, sum, replicate, slice_index, slice_index_or, All}
use Rattle.spiel_frac.specs.Fraction.{lowest_terms, most}
use Rattle.spiel_frac.specs.Multiples.{IsLeastMultiple}
use Rattle.spiel_tree.specs.States.{numbers_of, states_below}
use Rattle.spiel_tree.specs.Trees.{Whole}

-- The weights of each information state, in the order of the states; within one, in the order of the
-- numbers. A number is chosen with its weight over their total.
abbrev pub Profile : Type 0
Profile = List (List ℕ)

abbrev pub weights_of : Profile → ℕ → List ℕ
weights_of profile s = slice_index_or profile s []

abbrev pub weight : Profile → ℕ → ℕ → ℕ
weight profile s i = slice_index (weights_of profile s) i

abbrev pub total : Profile → ℕ → ℕ
total profile s = sum (weights_of profile s)

-- the denominator of a weight over the total, in lowest terms
abbrev pub denominator : ℕ → ℕ → ℕ
denominator whole w = (lowest_terms (pos w) (pos whole)).den

-- the weights are as small as they can be: their total is the least common multiple of the
-- denominators, and it is not too large
pub record AreReduced (weights : List ℕ) : Type 0 where
  pub least : IsLeastMultiple (map (denominator (sum weights)) weights) (sum weights)
  pub small : sum weights ≤ most

-- the profile is one for this tree: it has the tree's information states, and a weight for each
-- number of a mover
pub record Fits (tree : Whole) (profile : Profile) : Type 0 where
  pub states : length profile ≡ length (states_below tree.players tree.rows)
  pub numbers : (s : ℕ) → s < length profile → length (weights_of profile s) ≡ length (numbers_of tree.players tree.rows s)
  pub reduced : All AreReduced profile

-- ---- two profiles that each tree has
-- weights by how many numbers the mover has, at each of the information states below n
abbrev pub by_counts : (ℕ → List ℕ) → Whole → ℕ → Profile
by_counts weights tree zero = []
by_counts weights tree (suc n) = by_counts weights tree n ++ weights (length (numbers_of tree.players tree.rows n)) ∷ []

-- the same weight on each number
abbrev pub even_weights : ℕ → List ℕ
even_weights count = replicate count 1

-- all on the first number
abbrev pub first_weights : ℕ → List ℕ
first_weights zero = []
first_weights (suc count) = 1 ∷ replicate count 0

-- whoever moves takes each number with the same probability
abbrev pub uniform_profile : Whole → Profile
uniform_profile tree = by_counts even_weights tree (length (states_below tree.players tree.rows))

-- whoever moves takes the first number
abbrev pub first_profile : Whole → Profile
first_profile tree = by_counts first_weights tree (length (states_below tree.players tree.rows))
