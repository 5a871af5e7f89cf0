-- A pair that is put among sorted pairs.
use Rattle.std.specs.Prelude.{ℕ, List, [], ◌∷◌, if◌then◌else◌}
use Rattle.spiel_string.specs.Sorted.{key_lt}

-- the pairs, with this one after those whose keys aren't above its own
abbrev pub insert_pair : {X : Type 0} → List ℕ × X → List (List ℕ × X) → List (List ℕ × X)
insert_pair pair [] = pair ∷ []
insert_pair pair (next ∷ pairs) = if key_lt pair.0 next.0 then pair ∷ next ∷ pairs else next ∷ insert_pair pair pairs
