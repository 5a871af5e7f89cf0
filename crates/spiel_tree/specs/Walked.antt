-- What a walk over all histories of a game leaves.
use Rattle.std.specs.Prelude.{◌≡◌, ℕ, ◌+◌, ◌<◌, ◌≤◌, List, length, Result, Ok, Err, Option, IsSome, ⊤}
use Rattle.spiel_tree.specs.Rows.{Row}
use Rattle.spiel_tree.specs.Flat.{AddsRows, IsBuilt, rows_of}
use Rattle.spiel_tree.specs.declared.flat.Rows.{Rows}
use Rattle.spiel_tree.specs.declared.walking.Stop.{Stop}
use Rattle.spiel_tree.specs.declared.walking.Stop.TheVariants.{TooMany, Long, NoMemory}

-- all rows were added, and they are within the limit; they are too many only where they would pass it, and
-- too long only for a walk that may make so many bytes of texts and no more
abbrev pub AddsAll : Result (Unit {0}) Stop → Rows → Rows → List Row → ℕ → Option ℕ → Type 0
AddsAll (Ok done) old new rows limit long = AddsRows old new rows × (length (rows_of new) ≤ limit)
AddsAll (Err TooMany) old new rows limit long = limit < length (rows_of old) + length rows
AddsAll (Err Long) old new rows limit long = IsSome long
AddsAll (Err NoMemory) old new rows limit long = ⊤

-- these are all rows, and they are within the limit; there are too many only where they pass it
abbrev pub IsAll : Result Rows Stop → List Row → ℕ → Option ℕ → Type 0
IsAll (Ok got) rows limit long = (rows_of got ≡ rows) × IsBuilt got × (length rows ≤ limit)
IsAll (Err TooMany) rows limit long = limit < length rows
IsAll (Err Long) rows limit long = IsSome long
IsAll (Err NoMemory) rows limit long = ⊤

-- so many were taken off what was left; there are too many only where fewer were left
abbrev pub TakesAll : Result (Unit {0}) Stop → ℕ → ℕ → ℕ → Type 0
TakesAll (Ok done) old new count = old ≡ new + count
TakesAll (Err TooMany) old new count = old < count
TakesAll (Err Long) old new count = ⊥
TakesAll (Err NoMemory) old new count = ⊤

-- there are at most so many; there are too many only where they pass the limit
abbrev pub IsWithin : Result (Unit {0}) Stop → ℕ → ℕ → Type 0
IsWithin (Ok done) count limit = count ≤ limit
IsWithin (Err TooMany) count limit = limit < count
IsWithin (Err Long) count limit = ⊥
IsWithin (Err NoMemory) count limit = ⊤
