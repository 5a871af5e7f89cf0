-- Where in preorder the rows stand that go on from a row.
use Rattle.std.specs.Prelude.{◌≡◌, ℕ, zero, suc, ◌+◌, ◌<◌, nat_lt, List, [], ◌∷◌, length, drop, if◌then◌else◌}
use Rattle.spiel_tree.specs.Rows.{Row, way_on}
use Rattle.spiel_tree.specs.Flat.{row_at}

-- how many rows at the front have a longer way than d
abbrev pub deeper : ℕ → List Row → ℕ
deeper d [] = 0
deeper d (row ∷ rows) = if nat_lt d (length row.way) then suc (deeper d rows) else 0

-- the place behind the rows that go on from a row
abbrev pub end_of : List Row → ℕ → ℕ
end_of rows k = suc k + deeper (length (row_at rows k).way) (drop (suc k) rows)

-- the place of the row behind a row by the number at an index: that of the first comes next, and each other
-- behind all that go on from the one before
abbrev pub child_at : List Row → ℕ → ℕ → ℕ
child_at rows k zero = suc k
child_at rows k (suc i) = end_of rows (child_at rows k i)

-- the number at an index leads from a row to this one
pub record IsChild (rows : List Row) (k index child : ℕ) : Type 0 where
  pub after : k < child
  pub within : child < length rows
  pub way : (row_at rows child).way ≡ way_on (row_at rows k) index
