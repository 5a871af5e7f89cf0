-- The lines of a file, and those of them that are kept.
use Rattle.std.specs.Prelude.{ℕ, suc, ◌==◌, Bool, false, not, List, [], ◌∷◌, ◌++◌, if◌then◌else◌}
use Rattle.std.specs.List.{onto_first}

-- the lines of a text: each ends at a line feed, which the last one may lack
abbrev pub lines_of : List ℕ → List (List ℕ)
lines_of [] = []
lines_of (byte ∷ bytes) = if byte == 10 then [] ∷ lines_of bytes else onto_first byte (lines_of bytes)

-- the text of lines, each with a line feed behind it
abbrev pub lines_text : List (List ℕ) → List ℕ
lines_text [] = []
lines_text (line ∷ lines) = line ++ 10 ∷ lines_text lines

-- a line with its number in the file
abbrev pub Line : Type 0
Line = ℕ × List ℕ

-- lines with their numbers, where so many stand above them
abbrev pub numbered : ℕ → List (List ℕ) → List Line
numbered above [] = []
numbered above (line ∷ lines) = (suc above, line) ∷ numbered (suc above) lines

-- empty lines and those that begin with `#` are passed over
abbrev pub is_kept : List ℕ → Bool
is_kept [] = false
is_kept (byte ∷ bytes) = not (byte == 35)

abbrev pub kept : List Line → List Line
kept [] = []
kept (line ∷ lines) = if is_kept line.1 then line ∷ kept lines else kept lines

-- the kept lines of a text that so many lines stand above
abbrev pub kept_from : ℕ → List ℕ → List Line
kept_from above bytes = kept (numbered above (lines_of bytes))
