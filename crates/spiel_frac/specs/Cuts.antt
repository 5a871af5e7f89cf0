-- A text that is cut at a byte.
use Rattle.std.specs.Prelude.{ℕ, ◌==◌, List, [], ◌∷◌, if◌then◌else◌, Option, Some, None}
use Rattle.std.specs.List.{slice_split}

-- a byte more in front
abbrev pub with_front : ℕ → Option (List ℕ × List ℕ) → Option (List ℕ × List ℕ)
with_front byte None = None
with_front byte (Some parts) = Some (byte ∷ parts.0, parts.1)

-- what stands before the first of these bytes, and what behind it
abbrev pub cut : ℕ → List ℕ → Option (List ℕ × List ℕ)
cut mark [] = None
cut mark (byte ∷ bytes) = if byte == mark then Some ([], bytes) else with_front byte (cut mark bytes)

-- what stands between these bytes: one part more than there are such bytes
unfoldable pub parts_of : ℕ → List ℕ → List (List ℕ)
parts_of mark bytes = slice_split (λ byte. byte == mark) bytes
