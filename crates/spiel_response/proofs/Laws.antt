-- What is proved of responses over any leaves of a player of perfect recall.
use Rattle.std.specs.Prelude.{◌≡◌, ℕ, ◌+◌, ◌*◌, ◌^◌, ◌<◌, ◌≤◌, List, [], ◌∷◌, ℤ, pos, ◌*ℤ◌, ◌≤ℤ◌}
use Rattle.std.specs.List.{AllByRecursion}
use Rattle.spiel_response.specs.Values.{sum_over}
use Rattle.spiel_response.specs.Responses.{Leaf, ObeysLocalRule, OwnStep, IsPolicy, earns, mixed, most_steps, realization, response_from, sum_below}
use Rattle.spiel_response.specs.Remembered.{IsPlayersLeaves}

-- no policy earns more than a response that obeys the local rule
abbrev pub NoPolicyEarnsMore : Type 0
NoPolicyEarnsMore =
    (leaves : List Leaf) (count : ℕ → ℕ) (low high : ℕ) (d : ℕ → ℕ) →
    IsPlayersLeaves leaves count low high → ObeysLocalRule d leaves count low high →
    (q : ℕ) (w : ℕ → ℕ → ℕ) → 1 ≤ q → IsPolicy w q count low high →
    mixed w q (most_steps leaves) leaves ≤ℤ (earns d leaves *ℤ pos (q ^ most_steps leaves))

-- nor does another response
abbrev pub NoResponseEarnsMore : Type 0
NoResponseEarnsMore =
    (leaves : List Leaf) (count : ℕ → ℕ) (low high : ℕ) (d : ℕ → ℕ) →
    IsPlayersLeaves leaves count low high → ObeysLocalRule d leaves count low high →
    (e : ℕ → ℕ) → ((i : ℕ) → low ≤ i → i < high → e i < count i) →
    earns e leaves ≤ℤ earns d leaves

-- one response obeys the local rule
abbrev pub OneResponseObeys : Type 0
OneResponseObeys =
    (leaves : List Leaf) (count : ℕ → ℕ) (low high : ℕ) (d e : ℕ → ℕ) →
    IsPlayersLeaves leaves count low high → ObeysLocalRule d leaves count low high → ObeysLocalRule e leaves count low high →
    (i : ℕ) → low ≤ i → i < high → d i ≡ e i

-- the one that backward induction gives obeys it
abbrev pub ResponseObeys : Type 0
ResponseObeys =
    (leaves : List Leaf) (count : ℕ → ℕ) (low n : ℕ) → IsPlayersLeaves leaves count low (low + n) → ((i : ℕ) → low ≤ i → i < low + n → 0 < count i) →
    ObeysLocalRule (response_from leaves count low n) leaves count low (low + n)

-- ---- the player's own part of a profile
-- v gives each state whole weights with the sum `whole`, which isn't 0
pub record IsOwnPart (v : ℕ → ℕ → ℕ) (whole : ℕ → ℕ) (count : ℕ → ℕ) (low high : ℕ) : Type 0 where
  pub positive : (i : ℕ) → low ≤ i → i < high → 1 ≤ whole i
  pub sums : (i : ℕ) → low ≤ i → i < high → sum_below (v i) (count i) ≡ whole i

-- the product of the sums of the weights over the steps
abbrev pub wholes : (ℕ → ℕ) → List OwnStep → ℕ
wholes whole [] = 1
wholes whole (s ∷ rest) = whole s.state * wholes whole rest

-- a leaf with what the whole profile earns there
pub record Played : Type 0 where
  pub leaf : Leaf
  pub earned : ℤ

-- what the profile earns at a leaf is what the others leave, by the player's own weights
abbrev pub IsEarned : (ℕ → ℕ → ℕ) → (ℕ → ℕ) → Played → Type 0
IsEarned v whole z = pos (realization v z.leaf.steps) *ℤ z.leaf.pay ≡ pos (wholes whole z.leaf.steps) *ℤ z.earned

abbrev pub leaves_of : List Played → List Leaf
leaves_of [] = []
leaves_of (z ∷ zs) = z.leaf ∷ leaves_of zs

-- a profile earns no more for the player than the response that obeys the local rule
abbrev pub NoProfileEarnsMore : Type 0
NoProfileEarnsMore =
    (zs : List Played) (count : ℕ → ℕ) (low high : ℕ) (d : ℕ → ℕ) →
    IsPlayersLeaves (leaves_of zs) count low high → ObeysLocalRule d (leaves_of zs) count low high →
    (v : ℕ → ℕ → ℕ) (whole : ℕ → ℕ) → IsOwnPart v whole count low high → AllByRecursion (IsEarned v whole) zs →
    sum_over (λ z. z.earned) zs ≤ℤ earns d (leaves_of zs)
