-- Perfect recall, at the leaves of a player.
use Rattle.std.specs.Prelude.{◌≡◌, ℕ, suc, ◌<◌, ◌≤◌, Bool, false, cond, ◌||◌, List, [], ◌∷◌, ◌==◌, Contains, IsTrue}
use Rattle.std.specs.List.{AllByRecursion}
use Rattle.spiel_response.specs.Responses.{Leaf, OwnStep}

-- do the steps pass through the state i?
abbrev pub passes : ℕ → List OwnStep → Bool
passes i [] = false
passes i (s ∷ rest) = (s.state == i) || passes i rest

-- the steps before the state i
abbrev pub past : ℕ → List OwnStep → List OwnStep
past i [] = []
past i (s ∷ rest) = cond (s.state == i) [] (s ∷ past i rest)

-- the states rise, from low on and below high, and each index is within its state's numbers
abbrev pub IsRising : (ℕ → ℕ) → ℕ → ℕ → List OwnStep → Type 0
IsRising count low high [] = Unit {0}
IsRising count low high (s ∷ rest) = (low ≤ s.state) × (s.state < high) × (s.index < count s.state) × IsRising count (suc s.state) high rest

-- the steps before a state are the same at all leaves that pass it
abbrev pub HasRecall : List Leaf → Type 0
HasRecall leaves = (i : ℕ) (x y : Leaf) → Contains leaves x → Contains leaves y → IsTrue (passes i x.steps) → IsTrue (passes i y.steps) → past i x.steps ≡ past i y.steps

-- the leaves of a player of perfect recall, whose information states are those from low on, below high,
-- in the order in which they are first seen
pub record IsPlayersLeaves (leaves : List Leaf) (count : ℕ → ℕ) (low high : ℕ) : Type 0 where
  pub ordered : low ≤ high
  pub rising : AllByRecursion (λ z. IsRising count low high z.steps) leaves
  pub recall : HasRecall leaves
