-- Contingencies: one strategy of each player (the Gambit manual's word for the cells of a payoff table).
use Rattle.std.specs.Prelude.{ℕ, ◌+◌, ◌*◌, List, [], ◌∷◌, length}

-- how many contingencies there are: one for each choice of a strategy by each player
abbrev pub contingencies : List (List (List ℕ)) → ℕ
contingencies [] = 1
contingencies (own ∷ others) = length own * contingencies others

-- how many stand before the one of these choices, where the first player's strategy changes fastest
abbrev pub contingency_at : List (List (List ℕ)) → List ℕ → ℕ
contingency_at [] choices = 0
contingency_at (own ∷ others) [] = 0
contingency_at (own ∷ others) (choice ∷ choices) = choice + length own * contingency_at others choices
