-- What players get on average, as whole numbers over one denominator.
use Rattle.std.specs.Prelude.{ℕ, zero, suc, ◌+◌, ◌*◌, ◌≤◌, List, [], ◌∷◌, ◌++◌, sum_by, slice_index_or, Some, None, ℤ, pos, ◌+ℤ◌, ◌*ℤ◌, nat_abs}
use Rattle.spiel_frac.specs.Fraction.{most}
use Rattle.spiel_tree.specs.Rows.{Row}
use Rattle.spiel_tree.specs.Trees.{Whole}
use Rattle.spiel_policy.specs.Profiles.{Profile}
use Rattle.spiel_response.specs.Reach.{leaves, reach, scale_of}

-- the sum of f over a list
abbrev pub sum_over : {A : Type 0} → (A → ℤ) → List A → ℤ
sum_over f [] = pos 0
sum_over f (x ∷ xs) = f x +ℤ sum_over f xs

-- what a player gets at a leaf
abbrev pub return_to : ℕ → Row → ℤ
return_to p leaf = slice_index_or leaf.here.pays p (pos 0)

-- a leaf's part in what a player gets on average
abbrev pub expected_at : List Row → Profile → ℕ → Row → ℤ
expected_at rows profile p leaf = pos (reach rows profile None leaf) *ℤ return_to p leaf

-- its part where the player's own steps are certain, which is what a response of the player is made from
abbrev pub counterfactual_at : List Row → Profile → ℕ → Row → ℤ
counterfactual_at rows profile p leaf = pos (reach rows profile (Some p) leaf) *ℤ return_to p leaf

-- A tree and a profile for it.
pub record Judged : Type 0 where
  pub tree : Whole
  pub profile : Profile

-- the denominator of all values: the scale in parts of 1/unit
abbrev pub denominator_of : Judged → ℤ
denominator_of j = pos (scale_of j.tree.rows j.profile) *ℤ j.tree.unit

-- What a player gets on average if all play by the profile: this number over the denominator.
abbrev pub value_of : Judged → ℕ → ℤ
value_of j p = sum_over (expected_at j.tree.rows j.profile p) (leaves j.tree.rows)

-- the values of the players below n
abbrev pub values_below : Judged → ℕ → List ℤ
values_below j zero = []
values_below j (suc n) = values_below j n ++ value_of j n ∷ []

-- ---- how large the numbers are
-- the sizes of all parts of a player
abbrev pub size_for : Judged → ℕ → ℕ
size_for j p = sum_by (λ leaf. nat_abs (expected_at j.tree.rows j.profile p leaf) + nat_abs (counterfactual_at j.tree.rows j.profile p leaf)) (leaves j.tree.rows)

-- the sizes of all parts of the players below n
abbrev pub size_below : Judged → ℕ → ℕ
size_below j zero = 0
size_below j (suc n) = size_below j n + size_for j n

-- twice the denominator, and the sizes of all parts together, are at most 2^127 - 1
pub record NumbersFit (j : Judged) : Type 0 where
  pub denominator : 2 * nat_abs (denominator_of j) ≤ most
  pub sizes : size_below j j.tree.players ≤ most
