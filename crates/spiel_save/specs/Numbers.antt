-- The numbers on lines.
use Rattle.std.specs.Prelude.{◌≡◌, ℕ, List, [], ◌∷◌, Option, Some, None, Result, Ok, Err, ⊤}
use Rattle.spiel_frac.specs.Numbers.{decimal_number}
use Rattle.spiel_save.specs.Lines.{Line}
use Rattle.spiel_save.specs.declared.fault.SavedFault.{SavedFault}
use Rattle.spiel_save.specs.declared.fault.SavedFault.TheVariants as fault

-- a number before others
abbrev pub with_first : ℕ → Result (List ℕ) ℕ → Result (List ℕ) ℕ
with_first n (Ok numbers) = Ok (n ∷ numbers)
with_first n (Err at) = Err at

-- what a line with this number says, before what those below it say
abbrev pub with_number : ℕ → Option ℕ → Result (List ℕ) ℕ → Result (List ℕ) ℕ
with_number at None below = Err at
with_number at (Some n) below = with_first n below

-- the numbers of lines, or else where the first stands that is no number's
abbrev pub numbers_of : List Line → Result (List ℕ) ℕ
numbers_of [] = Ok []
numbers_of (line ∷ lines) = with_number line.0 (decimal_number line.1) (numbers_of lines)

-- why there are no numbers
abbrev pub IsNumberFault : Result (List ℕ) ℕ → SavedFault → Type 0
IsNumberFault numbers fault.Header = ⊥
IsNumberFault numbers (fault.Game of_game) = ⊥
IsNumberFault numbers (fault.Number line) = numbers ≡ Err line
IsNumberFault numbers fault.NoMemory = ⊤
