-- What is kept while a tree is judged.
use Rattle.std.specs.Prelude.{◌≡◌, ℕ, ◌+◌, ◌/◌, cond, List, map, take, sum_by, Option, None, ℤ, nat_abs}
use Rattle.spiel_frac.specs.Multiples.{least_multiple}
use Rattle.spiel_tree.specs.Rows.{Row}
use Rattle.spiel_tree.specs.Trees.{IsGameTree}
use Rattle.spiel_policy.specs.Profiles.{Fits}
use Rattle.spiel_response.specs.Reach.{is_left_out, leaves, reach, total_of, totals_to}
use Rattle.spiel_response.specs.Values.{Judged, NumbersFit, counterfactual_at, denominator_of, expected_at, sum_over, values_below}

-- a tree of a game, and a profile for it
pub record IsJudgeable (j : Judged) : Type 0 where
  pub game : IsGameTree j.tree
  pub fits : Fits j.tree j.profile

-- what a work keeps
pub record IsWork (j : Judged) (total : ℤ) (values : List ℤ) : Type 0 where
  pub judgeable : IsJudgeable j
  pub fit : NumbersFit j
  pub total_is : total ≡ denominator_of j
  pub values_are : values ≡ values_below j j.tree.players

-- ---- what goes from a history to those behind it
-- the reach weight over the total of the weights there, or all of it where whoever moves is left out
abbrev pub share_of : Judged → Option ℕ → Row → ℕ
share_of j left row = cond (is_left_out left row.here.place) (reach j.tree.rows j.profile left row) (reach j.tree.rows j.profile left row / total_of j.tree.rows j.profile row.here)

-- ---- what a pass has after the histories before the one at k
abbrev pub scale_before : Judged → ℕ → ℕ
scale_before j k = least_multiple (map (totals_to j.tree.rows j.profile None) (leaves (take k j.tree.rows)))

abbrev pub value_before : Judged → ℕ → ℕ → ℤ
value_before j p k = sum_over (expected_at j.tree.rows j.profile p) (leaves (take k j.tree.rows))

abbrev pub size_before : Judged → ℕ → ℕ → ℕ
size_before j p k = sum_by (λ leaf. nat_abs (expected_at j.tree.rows j.profile p leaf) + nat_abs (counterfactual_at j.tree.rows j.profile p leaf)) (leaves (take k j.tree.rows))
