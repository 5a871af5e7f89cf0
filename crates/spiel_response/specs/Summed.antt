-- The sums that a pass over the leaves has.
use Rattle.std.specs.Prelude.{◌≡◌, ℕ, ◌+◌, ◌≤◌, nat_abs}
use Rattle.spiel_frac.specs.Fraction.{most}
use Rattle.spiel_response.specs.Values.{Judged, size_for, value_of}
use Rattle.spiel_response.specs.Weighed.{size_before, value_before}
use Rattle.spiel_response.specs.declared.sums.Sums.{Sums}

-- the sums of a player over the leaves before the history at k, with the size of what was summed before
pub record AreSums (j : Judged) (p k before : ℕ) (sums : Sums) : Type 0 where
  pub value_is : sums.value ≡ value_before j p k
  pub size_is : sums.size ≡ before + size_before j p k
  pub within : nat_abs sums.value ≤ sums.size
  pub small : sums.size ≤ most

-- the sums of a player over all leaves
pub record ArePlayerSums (j : Judged) (p before : ℕ) (sums : Sums) : Type 0 where
  pub value_is : sums.value ≡ value_of j p
  pub size_is : sums.size ≡ before + size_for j p
  pub small : sums.size ≤ most
