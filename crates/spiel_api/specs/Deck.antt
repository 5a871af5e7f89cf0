-- Cards that are numbered from 0 on, and what is left of them.
use Rattle.std.specs.Prelude.{ℕ, zero, suc, Bool, not, List, [], ◌∷◌, ◌++◌}
use Rattle.std.specs.List.{filter}
use Rattle.spiel_api.specs.Walks.{is_in}

-- the numbers below n, rising
abbrev pub numbers_below : ℕ → List ℕ
numbers_below zero = []
numbers_below (suc n) = numbers_below n ++ n ∷ []

-- those of n cards that pass a test
unfoldable pub cards_where : (ℕ → Bool) → ℕ → List ℕ
cards_where test n = filter test (numbers_below n)

-- those of n cards that are left, when these are gone
abbrev pub cards_left : ℕ → List ℕ → List ℕ
cards_left n gone = cards_where (λ c. not (is_in gone c)) n
