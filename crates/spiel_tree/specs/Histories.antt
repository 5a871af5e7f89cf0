-- All histories of a game, in order.
use Rattle.std.specs.Prelude.{ℕ, zero, suc, ◌-◌, List, [], ◌∷◌, ◌++◌, length}
use Rattle.std.specs.List.{flat_map}
use Rattle.spiel_api.specs.Rules.{Rules, next_of}

-- h, and what follows it by at most so many numbers: each history before those that go on from it,
-- by the numbers in their order
abbrev pub below : (List ℕ → List ℕ) → ℕ → List ℕ → List (List ℕ)
below next zero h = h ∷ []
below next (suc k) h = h ∷ flat_map (λ a. below next k (h ++ a ∷ [])) (next h)

-- all histories that go on from h; no play has more than 4,096 numbers
unfoldable pub histories_from : Rules → List ℕ → List (List ℕ)
histories_from rules h = below (next_of rules) (4096 - length h) h

-- all histories of the game in preorder
abbrev pub histories : Rules → List (List ℕ)
histories rules = histories_from rules []
