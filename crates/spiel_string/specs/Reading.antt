-- What reading a game string answers: a value, or the first fault.
use Rattle.std.specs.Prelude.{◌≡◌, ◌≤◌, ◌<◌, ◌⊎◌, ℕ, List, [], length, Result, Ok, Err}
use Rattle.spiel_string.specs.Game.{Game}
use Rattle.spiel_string.specs.Grammar.{Whole, Spells, IsSyntaxPlace}
use Rattle.spiel_string.specs.Nesting.{nesting}
use Rattle.spiel_string.specs.Repeats.{second_keys, IsFirstSecondKey}
use Rattle.spiel_string.specs.Values.{game_of}
use Rattle.spiel_string.specs.View.{view}
use Rattle.spiel_string.specs.declared.value.GameText.{GameText}
use Rattle.spiel_string.specs.declared.fault.StringFault.{StringFault}
use Rattle.spiel_string.specs.declared.fault.StringFault.TheVariants.{TooLong, Syntax, TooDeep, Repeated, NoMemory}

-- the most bytes of a text
abbrev pub most_bytes : ℕ
most_bytes = 4096

-- how deep brackets may nest
abbrev pub most_brackets : ℕ
most_brackets = 8

-- the text is short enough and spells a tree, whose brackets nest no deeper than they may and in
-- which no key stands twice; the game is the value of that tree
pub record IsRead (text : List ℕ) (game : Game) : Type 0 where
  pub short : length text ≤ most_bytes
  pub tree : Whole
  pub spells : Spells tree text
  pub shallow : nesting tree.top ≤ most_brackets
  pub once : second_keys tree.top [] ≡ []
  pub value : game ≡ game_of tree.top

-- the text is short enough and spells a tree, but its brackets nest too deep
pub record IsTooDeep (text : List ℕ) : Type 0 where
  pub short : length text ≤ most_bytes
  pub tree : Whole
  pub spells : Spells tree text
  pub deep : most_brackets < nesting tree.top

-- the text is short enough and spells a tree that isn't too deep, but a key stands twice
pub record IsRepeated (text : List ℕ) (place : ℕ) : Type 0 where
  pub short : length text ≤ most_bytes
  pub tree : Whole
  pub spells : Spells tree text
  pub shallow : nesting tree.top ≤ most_brackets
  pub second : IsFirstSecondKey tree text place

-- the first fault of the text; want of memory is none of its own
abbrev pub IsFaultOf : List ℕ → StringFault → Type 0
IsFaultOf text TooLong = most_bytes < length text
IsFaultOf text (Syntax at) = (length text ≤ most_bytes) × IsSyntaxPlace text at
IsFaultOf text TooDeep = IsTooDeep text
IsFaultOf text (Repeated at) = IsRepeated text at
IsFaultOf text NoMemory = ⊥

-- what may be answered in place of a value: the first fault, or want of memory
abbrev pub MayRefuse : List ℕ → StringFault → Type 0
MayRefuse text NoMemory = Unit {0}
MayRefuse text fault = IsFaultOf text fault

-- the answer is this value, or want of memory
abbrev pub Gives : Game → Result GameText StringFault → Type 0
Gives g (Ok read) = view read ≡ g
Gives g (Err fault) = fault ≡ NoMemory

-- the answer is this fault, or want of memory
abbrev pub Refuses : StringFault → Result GameText StringFault → Type 0
Refuses fault (Ok read) = ⊥
Refuses fault (Err answer) = (answer ≡ fault) ⊎ (answer ≡ NoMemory)
