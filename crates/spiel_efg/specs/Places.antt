-- Where the children of each node stand.
use Rattle.std.specs.Prelude.{ℕ, ◌+◌, List, [], ◌∷◌, drop, take}

-- the places of the roots of the trees that stand one behind another, the first of them at a place
abbrev pub roots : ℕ → List ℕ → List ℕ
roots place [] = []
roots place (count ∷ counts) = place ∷ drop count (roots (place + 1) counts)

-- the places of the children of each node
abbrev pub children_from : ℕ → List ℕ → List (List ℕ)
children_from place [] = []
children_from place (count ∷ counts) = take count (roots (place + 1) counts) ∷ children_from (place + 1) counts
