-- Best responses in the tree of a game: the most that one player can get while the others play by the
-- profile (Nash 1950). Where the mover remembers the own choices, it is got by backward induction over
-- the player's information states.
use Rattle.std.specs.Prelude.{◌≡◌, ℕ, zero, suc, ◌-◌, ◌^◌, ◌<◌, ◌≤◌, ◌==◌, Bool, true, cond, ◌&&◌, List, [], ◌∷◌, length, map, ℤ, pos, ◌+ℤ◌, ◌-ℤ◌, ◌*ℤ◌, ◌≤ℤ◌}
use Rattle.std.specs.Ordering.{int_eq}
use Rattle.spiel_tree.specs.Rows.{Row, Step}
use Rattle.spiel_tree.specs.Flat.{moves}
use Rattle.spiel_tree.specs.States.{numbers_of, state_number, states_below}
use Rattle.spiel_tree.specs.Trees.{Whole}
use Rattle.spiel_response.specs.Reach.{leaves}
use Rattle.spiel_response.specs.Values.{Judged, counterfactual_at, return_to, value_of}
use Rattle.spiel_response.specs.Responses.{IsPolicy, Leaf, ObeysLocalRule, OwnStep, earns, mixed, most_steps, response_from}

-- ---- the tree as one player sees it
-- the player's own steps on a way
abbrev pub own_steps : List Row → ℕ → List Step → List OwnStep
own_steps rows p [] = []
own_steps rows p (step ∷ way) = cond (moves p step.at.place) (record { state = state_number rows p step.at.info; index = step.index } ∷ own_steps rows p way) (own_steps rows p way)

-- a leaf, with its part in what the player gets where the own steps are certain
abbrev pub own_leaf : Judged → ℕ → Row → Leaf
own_leaf j p leaf = record { pay = counterfactual_at j.tree.rows j.profile p leaf; steps = own_steps j.tree.rows p leaf.way }

abbrev pub player_leaves : Judged → ℕ → List Leaf
player_leaves j p = map (own_leaf j p) (leaves j.tree.rows)

-- the player's information states are numbered from this one on, and below the next player's first
abbrev pub first_state : Judged → ℕ → ℕ
first_state j p = length (states_below p j.tree.rows)

-- how many numbers there are at an information state
abbrev pub count_at : Judged → ℕ → ℕ
count_at j i = length (numbers_of j.tree.players j.tree.rows i)

-- ---- responses
-- the response takes the first of the best at each of the player's information states
abbrev pub IsResponse : Judged → ℕ → (ℕ → ℕ) → Type 0
IsResponse j p d = ObeysLocalRule d (player_leaves j p) (count_at j) (first_state j p) (first_state j (suc p))

-- what a response earns, as a number over the denominator
abbrev pub earned_by : Judged → ℕ → (ℕ → ℕ) → ℤ
earned_by j p d = earns d (player_leaves j p)

-- the response of a player: the index at each information state, by backward induction
unfoldable pub response : Judged → ℕ → ℕ → ℕ
response j p = response_from (player_leaves j p) (count_at j) (first_state j p) (first_state j (suc p) - first_state j p)

-- there is no other
abbrev pub IsOnlyResponse : Judged → ℕ → Type 0
IsOnlyResponse j p = (d : ℕ → ℕ) → IsResponse j p d → (i : ℕ) → first_state j p ≤ i → i < first_state j (suc p) → d i ≡ response j p i

-- the most that the player can get: this number over the denominator
abbrev pub best_value : Judged → ℕ → ℤ
best_value j p = earned_by j p (response j p)

-- weights with the sum q at each of the player's information states
abbrev pub IsPolicyOf : Judged → ℕ → (ℕ → ℕ → ℕ) → ℕ → Type 0
IsPolicyOf j p w q = IsPolicy w q (count_at j) (first_state j p) (first_state j (suc p))

-- the greatest number of own steps to a leaf
abbrev pub most_own_steps : Judged → ℕ → ℕ
most_own_steps j p = most_steps (player_leaves j p)

-- what a policy in q-ths earns, times q ^ most_own_steps
abbrev pub mixed_by : Judged → ℕ → (ℕ → ℕ → ℕ) → ℕ → ℤ
mixed_by j p w q = mixed w q (most_own_steps j p) (player_leaves j p)

-- an index at each of the player's information states
abbrev pub IsLegalResponse : Judged → ℕ → (ℕ → ℕ) → Type 0
IsLegalResponse j p d = (i : ℕ) → first_state j p ≤ i → i < first_state j (suc p) → d i < count_at j i

-- nobody does better against the others
pub record IsBest (j : Judged) (p : ℕ) (d : ℕ → ℕ) : Type 0 where
  -- no behaviour policy of the player earns more
  pub policies : (q : ℕ) (w : ℕ → ℕ → ℕ) → 1 ≤ q → IsPolicyOf j p w q → mixed_by j p w q ≤ℤ (earned_by j p d *ℤ pos (q ^ most_own_steps j p))
  -- no other response does
  pub responses : (e : ℕ → ℕ) → IsLegalResponse j p e → earned_by j p e ≤ℤ earned_by j p d
  -- nor what the profile has the player do
  pub profile : value_of j p ≤ℤ earned_by j p d

-- ---- how far the profile is from an equilibrium
-- what the players below n gain if each deviates alone to the response
abbrev pub gains_below : Judged → ℕ → ℤ
gains_below j zero = pos 0
gains_below j (suc n) = gains_below j n +ℤ (best_value j n -ℤ value_of j n)

-- NashConv (Lanctot et al. 2017), as a number over the denominator
abbrev pub nash_conv_of : Judged → ℤ
nash_conv_of j = gains_below j j.tree.players

-- ---- constant sums
abbrev pub sum_at : Row → ℤ
sum_at leaf = return_to 0 leaf +ℤ return_to 1 leaf

-- do the returns of two players sum to this at all of these leaves?
abbrev pub all_sum_to : ℤ → List Row → Bool
all_sum_to total [] = true
all_sum_to total (leaf ∷ rest) = int_eq (sum_at leaf) total && all_sum_to total rest

-- do they sum to what they do at the first?
abbrev pub same_sums : List Row → Bool
same_sums [] = true
same_sums (leaf ∷ rest) = all_sum_to (sum_at leaf) rest

-- are there two players, whose returns sum to one number over all leaves?
abbrev pub has_constant_sum : Whole → Bool
has_constant_sum tree = (tree.players == 2) && same_sums (leaves tree.rows)
