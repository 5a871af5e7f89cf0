-- Pairs in byte order of their keys.
use Rattle.std.specs.Prelude.{ℕ, Bool, List, [], ◌∷◌, if◌then◌else◌}
use Rattle.std.specs.Ordering.{nat_cmp, is_lt}
use Rattle.std.specs.Cmp.Lexicographic.{slice_cmp}

-- one key stands before another in byte order
abbrev pub key_lt : List ℕ → List ℕ → Bool
key_lt key other = is_lt (slice_cmp nat_cmp key other)

-- sorted pairs, with one more that stood before them all
abbrev pub put_pair : {X : Type 0} → List ℕ × X → List (List ℕ × X) → List (List ℕ × X)
put_pair pair [] = pair ∷ []
put_pair pair (next ∷ pairs) = if key_lt next.0 pair.0 then next ∷ put_pair pair pairs else pair ∷ next ∷ pairs

-- the pairs in byte order of their keys, those of one key in their order here
abbrev pub sorted : {X : Type 0} → List (List ℕ × X) → List (List ℕ × X)
sorted [] = []
sorted (pair ∷ pairs) = put_pair pair (sorted pairs)
