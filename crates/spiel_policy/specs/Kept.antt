-- What a policy keeps beside its weights, and what is kept while entries of a policy file are taken.
use Rattle.std.specs.Prelude.{◌≡◌, ℕ, zero, suc, ◌^◌, ◌<◌, List, [], ◌∷◌, length, map, replicate, sum, count_by, All, Option, is_some, option_map, IfSome}
use Rattle.spiel_tree.specs.States.{states_below}
use Rattle.spiel_tree.specs.Trees.{Whole}
use Rattle.spiel_policy.specs.Profiles.{AreReduced, Profile, by_counts, weights_of}

-- the totals are those of the weights, which are reduced
pub record KeepsTotals (profile : Profile) (totals : List ℕ) : Type 0 where
  pub totals_are : totals ≡ map sum profile
  pub reduced : All AreReduced profile

-- by a table of places: for each information state the weights at its place among those that came
abbrev pub partial_by : Profile → List (Option ℕ) → List (Option (List ℕ))
partial_by weights places = map (option_map (weights_of weights)) places

-- each place is one of the weights, which are as many as the places; and there are few places
pub record KeepsPartial (weights : Profile) (places : List (Option ℕ)) : Type 0 where
  pub within : All (λ place. IfSome place (λ k. k < length weights)) places
  pub count : count_by is_some places ≡ length weights
  pub few : length places < 2 ^ 32
  pub reduced : All AreReduced weights

-- the weight 1 for the first number, and one weight for each of the rest
abbrev pub weights_with : ℕ → ℕ → List ℕ
weights_with zero other = []
weights_with (suc count) other = 1 ∷ replicate count other

-- such weights at each information state
abbrev pub profile_with : Whole → ℕ → Profile
profile_with tree other = by_counts (λ count. weights_with count other) tree (length (states_below tree.players tree.rows))
