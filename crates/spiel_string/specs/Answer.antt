-- What reading a text answers, as a function: it gives the one value or the one first fault that
-- Reading.antt tells by the grammar.
use Rattle.std.specs.Prelude.{◌≡◌, ℕ, suc, ◌-◌, nat_lt, List, [], ◌∷◌, length, Option, Some, None, Result, Ok, Err, if◌then◌else◌, ⊤}
use Rattle.spiel_string.specs.Game.{Game}
use Rattle.spiel_string.specs.Grammar.{Whole}
use Rattle.spiel_string.specs.Nesting.{nesting}
use Rattle.spiel_string.specs.Partial.{State, start, step, final}
use Rattle.spiel_string.specs.Reading.{most_brackets, most_bytes, IsRead, IsFaultOf}
use Rattle.spiel_string.specs.Repeats.{second_keys}
use Rattle.spiel_string.specs.Values.{game_of}
use Rattle.spiel_string.specs.declared.fault.StringFault.{StringFault}
use Rattle.spiel_string.specs.declared.fault.StringFault.TheVariants.{TooLong, Syntax, TooDeep, Repeated, NoMemory}

-- goes on from a state; with none, the byte at this place can't stand there
abbrev pub or_stuck : ℕ → (State → Result State ℕ) → Option State → Result State ℕ
or_stuck at next None = Err at
or_stuck at next (Some state) = next state

-- the state after a text whose first byte has this place, or the place of the first byte that can't
-- stand where it does
unfoldable pub follow : State → ℕ → List ℕ → Result State ℕ
follow state at [] = Ok state
follow state at (byte ∷ bytes) = or_stuck at (λ next. follow next (suc at) bytes) (step state byte)

-- the game of a tree, unless a key stands twice: then the place where the first second key begins
abbrev pub once : ℕ → Game → List (List ℕ) → Result Game StringFault
once total g [] = Ok g
once total g (suffix ∷ others) = Err (Repeated (total - length suffix))

-- the game of a tree whose text has so many bytes
abbrev pub game_in : ℕ → Whole → Result Game StringFault
game_in total tree = if nat_lt most_brackets (nesting tree.top) then Err TooDeep else once total (game_of tree.top) (second_keys tree.top [])

-- a text may end at a state that has a tree
abbrev pub ended : ℕ → Option Whole → Result Game StringFault
ended total None = Err (Syntax total)
ended total (Some tree) = game_in total tree

abbrev pub followed : ℕ → Result State ℕ → Result Game StringFault
followed total (Err at) = Err (Syntax at)
followed total (Ok state) = ended total (final state)

-- the game that a text names, or its first fault
unfoldable pub reading : List ℕ → Result Game StringFault
reading text = if nat_lt most_bytes (length text) then Err TooLong else followed (length text) (follow (start 0) 0 text)

-- what the grammar says of an answer
abbrev pub IsAnswer : List ℕ → Result Game StringFault → Type 0
IsAnswer text (Ok g) = IsRead text g
IsAnswer text (Err fault) = IsFaultOf text fault

-- a fault that is answered is the one that was computed, or want of memory
abbrev pub IsComputed : Result Game StringFault → StringFault → Type 0
IsComputed answer TooLong = answer ≡ Err TooLong
IsComputed answer (Syntax at) = answer ≡ Err (Syntax at)
IsComputed answer TooDeep = answer ≡ Err TooDeep
IsComputed answer (Repeated at) = answer ≡ Err (Repeated at)
IsComputed answer NoMemory = ⊤
