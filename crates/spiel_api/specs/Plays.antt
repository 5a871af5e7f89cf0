-- Which histories are plays of a game: those in which each number is legal where it stands.
use Rattle.std.specs.Prelude.{ℕ, List, [], ◌∷◌, ◌++◌}
use Rattle.std.specs.List.{Contains}
use Rattle.spiel_api.specs.Rules.{Rules, next_of}

-- each number of a list is legal where it stands, after the history h
abbrev pub Follows : (List ℕ → List ℕ) → List ℕ → List ℕ → Type 0
Follows next h [] = Unit {0}
Follows next h (a ∷ rest) = Contains (next h) a × Follows next (h ++ a ∷ []) rest

-- each number is legal where it stands, from the root on
pub record IsPlay (rules : Rules) (h : List ℕ) : Type 0 where
  pub steps : Follows (next_of rules) [] h
