-- How often a history is reached: the products of the weights on its way, over one common scale.
use Rattle.std.specs.Prelude.{ℕ, ◌*◌, ◌/◌, Bool, true, false, cond, List, [], ◌∷◌, filter, map, sum, slice_index, Option, Some, None}
use Rattle.spiel_api.specs.declared.place.Place.{Place}
use Rattle.spiel_api.specs.declared.place.Place.TheVariants.{End, Chance, Move, Joint}
use Rattle.spiel_frac.specs.Multiples.{least_multiple}
use Rattle.spiel_tree.specs.Rows.{Node, Row, Step}
use Rattle.spiel_tree.specs.Flat.{moves}
use Rattle.spiel_tree.specs.States.{state_number}
use Rattle.spiel_policy.specs.Profiles.{Profile, total, weight}

-- ---- a step
-- the weight of the number at an index: chance's, or the mover's by the profile
abbrev pub weight_by : List Row → Profile → Node → ℕ → Place → ℕ
weight_by rows profile node index End = 1
weight_by rows profile node index Chance = slice_index node.weights index
weight_by rows profile node index (Move p) = weight profile (state_number rows p node.info) index
weight_by rows profile node index (Joint p) = 1

abbrev pub weight_of : List Row → Profile → Step → ℕ
weight_of rows profile step = weight_by rows profile step.at step.index step.at.place

-- the sum of the weights of all numbers there
abbrev pub total_by : List Row → Profile → Node → Place → ℕ
total_by rows profile node End = 1
total_by rows profile node Chance = sum node.weights
total_by rows profile node (Move p) = total profile (state_number rows p node.info)
total_by rows profile node (Joint p) = 1

abbrev pub total_of : List Row → Profile → Node → ℕ
total_of rows profile node = total_by rows profile node node.place

-- ---- a way
-- is whoever moves there the player who is left out?
abbrev pub is_left_out : Option ℕ → Place → Bool
is_left_out None place = false
is_left_out (Some p) place = moves p place

-- the product of a factor over the steps of a way, but for the own steps of a player who is left out
abbrev pub product : Option ℕ → (Step → ℕ) → List Step → ℕ
product left factor [] = 1
product left factor (step ∷ way) = cond (is_left_out left step.at.place) 1 (factor step) * product left factor way

-- the product of the weights that were taken on the way to a history
abbrev pub weights_to : List Row → Profile → Option ℕ → Row → ℕ
weights_to rows profile left row = product left (weight_of rows profile) row.way

-- the product of the totals on the way to it
abbrev pub totals_to : List Row → Profile → Option ℕ → Row → ℕ
totals_to rows profile left row = product left (λ step. total_of rows profile step.at) row.way

-- ---- the scale
abbrev pub is_end : Place → Bool
is_end End = true
is_end Chance = false
is_end (Move p) = false
is_end (Joint p) = false

-- the histories at which the game is over
abbrev pub leaves : List Row → List Row
leaves rows = filter (λ row. is_end row.here.place) rows

-- the least common multiple of the products of the totals at all leaves
unfoldable pub scale_of : List Row → Profile → ℕ
scale_of rows profile = least_multiple (map (totals_to rows profile None) (leaves rows))

-- The reach weight of a history: how likely it is, counted in parts of 1/scale. Where a player is left
-- out it is the counterfactual reach weight: as if the player's own steps were certain
-- (Zinkevich et al. 2007).
abbrev pub reach : List Row → Profile → Option ℕ → Row → ℕ
reach rows profile left row = weights_to rows profile left row * (scale_of rows profile / totals_to rows profile left row)
