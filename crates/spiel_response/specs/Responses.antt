-- Responses of one player: what one earns, the rule by which it is best at each information state, and
-- the behaviour policies that it is held against. All of this is over leaves as the player sees them.
use Rattle.std.specs.Prelude.{◌≡◌, ℕ, suc, zero, ◌+◌, ◌-◌, ◌*◌, ◌^◌, ◌<◌, ◌≤◌, max, Bool, true, false, cond, ◌&&◌, List, [], ◌∷◌, length, ℤ, pos, ◌*ℤ◌, ◌≤ℤ◌, ◌<ℤ◌, ◌==◌}
use Rattle.std.specs.Int.RustNames.{int_lt}
use Rattle.spiel_response.specs.Values.{sum_over}

-- one of the player's own steps: the information state, by its number, and the index of the number taken
pub record OwnStep : Type 0 where
  pub state : ℕ
  pub index : ℕ

-- a leaf: its part in what the player gets where the own steps are certain, and these steps in order
pub record Leaf : Type 0 where
  pub pay : ℤ
  pub steps : List OwnStep

-- ---- responses
-- A response gives an index at each information state. Do the steps follow it?
abbrev pub follows : (ℕ → ℕ) → List OwnStep → Bool
follows d [] = true
follows d (s ∷ rest) = (d s.state == s.index) && follows d rest

-- do the steps pass through the state i, and follow the response from there on?
abbrev pub follows_from : (ℕ → ℕ) → ℕ → List OwnStep → Bool
follows_from d i [] = false
follows_from d i (s ∷ rest) = cond (s.state == i) (follows d (s ∷ rest)) (follows_from d i rest)

-- what a response earns: the sum over the leaves whose own steps follow it
abbrev pub earns : (ℕ → ℕ) → List Leaf → ℤ
earns d leaves = sum_over (λ z. cond (follows d z.steps) z.pay (pos 0)) leaves

-- what it earns beyond the state i: the sum over the leaves that pass there and follow it from there on
abbrev pub earns_from : (ℕ → ℕ) → ℕ → List Leaf → ℤ
earns_from d i leaves = sum_over (λ z. cond (follows_from d i z.steps) z.pay (pos 0)) leaves

-- the response with another index at one state
abbrev pub put : (ℕ → ℕ) → ℕ → ℕ → ℕ → ℕ
put d i a j = cond (j == i) a (d j)

-- at a state with so many numbers, the response takes the first of those that are best given what it
-- does later
pub record IsFirstBest (d : ℕ → ℕ) (leaves : List Leaf) (i count : ℕ) : Type 0 where
  pub legal : d i < count
  pub best : (a : ℕ) → a < count → earns_from (put d i a) i leaves ≤ℤ earns_from d i leaves
  pub first : (a : ℕ) → a < d i → earns_from (put d i a) i leaves <ℤ earns_from d i leaves

-- it does so at each state from low on, below high
abbrev pub ObeysLocalRule : (ℕ → ℕ) → List Leaf → (ℕ → ℕ) → ℕ → ℕ → Type 0
ObeysLocalRule d leaves count low high = (i : ℕ) → low ≤ i → i < high → IsFirstBest d leaves i (count i)

-- ---- behaviour policies
-- the sum of f below n
abbrev pub sum_below : (ℕ → ℕ) → ℕ → ℕ
sum_below f zero = 0
sum_below f (suc n) = sum_below f n + f n

-- w gives each state from low on, below high, whole weights with the sum q: a policy in q-ths
abbrev pub IsPolicy : (ℕ → ℕ → ℕ) → ℕ → (ℕ → ℕ) → ℕ → ℕ → Type 0
IsPolicy w q count low high = (i : ℕ) → low ≤ i → i < high → sum_below (w i) (count i) ≡ q

-- the realization weight of steps: the product of a policy's weights on them (von Stengel 1996)
abbrev pub realization : (ℕ → ℕ → ℕ) → List OwnStep → ℕ
realization w [] = 1
realization w (s ∷ rest) = w s.state s.index * realization w rest

-- the greatest number of own steps to a leaf
abbrev pub most_steps : List Leaf → ℕ
most_steps [] = 0
most_steps (z ∷ rest) = max (length z.steps) (most_steps rest)

-- what a policy in q-ths earns, times q ^ most
abbrev pub mixed : (ℕ → ℕ → ℕ) → ℕ → ℕ → List Leaf → ℤ
mixed w q most leaves = sum_over (λ z. pos (realization w z.steps * q ^ (most - length z.steps)) *ℤ z.pay) leaves

-- ---- backward induction
-- the first place of the greatest of f below n
abbrev pub first_best : (ℕ → ℤ) → ℕ → ℕ
first_best f zero = 0
first_best f (suc n) = cond (int_lt (f (first_best f n)) (f n)) n (first_best f n)

-- the response at n states from low on: the first of the best at the state low, given the response at
-- the states behind it
abbrev pub response_from : List Leaf → (ℕ → ℕ) → ℕ → ℕ → ℕ → ℕ
response_from leaves count low zero i = 0
response_from leaves count low (suc n) i =
    put (response_from leaves count (suc low) n) low (first_best (λ a. earns_from (put (response_from leaves count (suc low) n) low a) low leaves) (count low)) i
