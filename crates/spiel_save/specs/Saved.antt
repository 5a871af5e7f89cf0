-- Saved files: what is written, and what is read.
use Rattle.std.specs.Prelude.{◌≡◌, ◌⊎◌, ℕ, ◌&&◌, Bool, List, ◌∷◌, map, codes, Option, Some, None, Result, Ok, Err, if◌then◌else◌, ⊤}
use Rattle.std.specs.Str.{bytes_eq}
use Rattle.std.specs.Fmt.{decimal}
use Rattle.spiel_string.specs.Canonical.{game_text}
use Rattle.spiel_string.specs.Game.{Game}
use Rattle.spiel_string.specs.Reading.{IsRead}
use Rattle.spiel_string.specs.declared.fault.StringFault.{StringFault}
use Rattle.spiel_string.specs.Reading as game_string
use Rattle.spiel_string.specs.View.{view}
use Rattle.spiel_save.specs.Lines.{Line, kept_from, lines_text}
use Rattle.spiel_save.specs.Numbers.{numbers_of}
use Rattle.spiel_save.specs.declared.fault.SavedFault.{SavedFault}
use Rattle.spiel_save.specs.declared.fault.SavedFault.TheVariants as fault
use Rattle.spiel_save.specs.declared.saved.Saved.{Saved}

-- ---- what is written

-- the lines of a saved file, with the line of the game string
abbrev pub saved_lines : List ℕ → List ℕ → List (List ℕ)
saved_lines game history = codes "[Meta]" ∷ codes "Version: 1" ∷ codes "[Game]" ∷ game ∷ codes "[State]" ∷ map decimal history

-- the saved file of a game and a history
unfoldable pub saved_text : Game → List ℕ → List ℕ
saved_text g history = lines_text (saved_lines (game_text g) history)

-- ---- what is read

-- the four lines around the game string
abbrev pub is_header : List ℕ → List ℕ → List ℕ → List ℕ → Bool
is_header meta version game state =
    bytes_eq meta (codes "[Meta]") && bytes_eq version (codes "Version: 1") && bytes_eq game (codes "[Game]") && bytes_eq state (codes "[State]")

-- the line of the game string, and the lines below the header
abbrev pub Body : Type 0
Body = List ℕ × List Line

-- the body of kept lines, where the first five of them have a header
abbrev pub body_of : List Line → Option Body
body_of (meta ∷ version ∷ title ∷ game ∷ state ∷ numbers) = if is_header meta.1 version.1 title.1 state.1 then Some (game.1, numbers) else None
body_of lines = None

-- the bytes have a header, the game string is read as this game, and the lines below are these numbers
pub record IsSaved (bytes : List ℕ) (game : Game) (history : List ℕ) : Type 0 where
  pub body : Body
  pub found : body_of (kept_from 0 bytes) ≡ Some body
  pub read : IsRead body.0 game
  pub numbers : numbers_of body.1 ≡ Ok history

-- there is a header, and the line of the game is no game string
pub record IsGameFault (bytes : List ℕ) (of_game : StringFault) : Type 0 where
  pub body : Body
  pub found : body_of (kept_from 0 bytes) ≡ Some body
  pub refused : game_string.IsFaultOf body.0 of_game

-- there is a header and a game, and this line is the first below them that is no number
pub record IsLineFault (bytes : List ℕ) (line : ℕ) : Type 0 where
  pub body : Body
  pub found : body_of (kept_from 0 bytes) ≡ Some body
  pub game : Game
  pub read : IsRead body.0 game
  pub numbers : numbers_of body.1 ≡ Err line

-- the first fault of the bytes; want of memory is none of their own
abbrev pub IsSavedFault : List ℕ → SavedFault → Type 0
IsSavedFault bytes fault.Header = body_of (kept_from 0 bytes) ≡ None
IsSavedFault bytes (fault.Game of_game) = IsGameFault bytes of_game
IsSavedFault bytes (fault.Number line) = IsLineFault bytes line
IsSavedFault bytes fault.NoMemory = ⊥

-- what may be answered in place of a game and a history: the first fault, or want of memory
abbrev pub MayRefuse : List ℕ → SavedFault → Type 0
MayRefuse bytes fault.Header = IsSavedFault bytes fault.Header
MayRefuse bytes (fault.Game of_game) = IsSavedFault bytes (fault.Game of_game)
MayRefuse bytes (fault.Number line) = IsSavedFault bytes (fault.Number line)
MayRefuse bytes fault.NoMemory = ⊤

-- the answer is this game with this history, or want of memory
abbrev pub Gives : Game → List ℕ → Result Saved SavedFault → Type 0
Gives g history (Ok saved) = (view saved.game ≡ g) × (saved.history ≡ history)
Gives g history (Err answer) = answer ≡ fault.NoMemory

-- the answer is this fault, or want of memory
abbrev pub Refuses : SavedFault → Result Saved SavedFault → Type 0
Refuses cause (Ok saved) = ⊥
Refuses cause (Err answer) = (answer ≡ cause) ⊎ (answer ≡ fault.NoMemory)
