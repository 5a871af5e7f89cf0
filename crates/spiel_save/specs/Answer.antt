-- What reading a saved file answers, as a function: it gives the game with the history, or the one
-- first fault, that Saved.antt tells by the lines of the file.
use Rattle.std.specs.Prelude.{◌≡◌, ℕ, List, Option, Some, None, Result, Ok, Err, ⊤}
use Rattle.spiel_string.specs.Answer.{reading}
use Rattle.spiel_string.specs.Game.{Game}
use Rattle.spiel_string.specs.declared.fault.StringFault.{StringFault}
use Rattle.spiel_save.specs.Faults.{in_game}
use Rattle.spiel_save.specs.Lines.{Line, kept_from}
use Rattle.spiel_save.specs.Numbers.{numbers_of}
use Rattle.spiel_save.specs.Saved.{Body, body_of, IsSaved, IsSavedFault}
use Rattle.spiel_save.specs.declared.fault.SavedFault.{SavedFault}
use Rattle.spiel_save.specs.declared.fault.SavedFault.TheVariants as fault

-- a game with a history of it
abbrev pub Played : Type 0
Played = Game × List ℕ

-- the numbers after the game
abbrev pub with_numbers : Game → Result (List ℕ) ℕ → Result Played SavedFault
with_numbers g (Ok history) = Ok (g, history)
with_numbers g (Err line) = Err (fault.Number line)

-- the game before the numbers on these lines
abbrev pub with_game : List Line → Result Game StringFault → Result Played SavedFault
with_game lines (Ok g) = with_numbers g (numbers_of lines)
with_game lines (Err of_game) = Err (in_game of_game)

-- the header before the game string and the numbers
abbrev pub with_body : Option Body → Result Played SavedFault
with_body None = Err fault.Header
with_body (Some body) = with_game body.1 (reading body.0)

-- the game and the history of a saved file, or its first fault
unfoldable pub reading_saved : List ℕ → Result Played SavedFault
reading_saved bytes = with_body (body_of (kept_from 0 bytes))

-- what the lines of the file say of an answer
abbrev pub IsAnswer : List ℕ → Result Played SavedFault → Type 0
IsAnswer bytes (Ok played) = IsSaved bytes played.0 played.1
IsAnswer bytes (Err cause) = IsSavedFault bytes cause

-- a fault that is answered is the one that was computed, or want of memory
abbrev pub IsComputed : Result Played SavedFault → SavedFault → Type 0
IsComputed answer fault.Header = answer ≡ Err fault.Header
IsComputed answer (fault.Game of_game) = answer ≡ Err (fault.Game of_game)
IsComputed answer (fault.Number line) = answer ≡ Err (fault.Number line)
IsComputed answer fault.NoMemory = ⊤
