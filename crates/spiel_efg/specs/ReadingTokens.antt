-- The tokens of a game's file as its grammar sees them, and what is read of the next one.
use Rattle.std.specs.Prelude.{◌≡◌, ℕ, suc, ◌-◌, ◌^◌, ◌<◌, ◌≤◌, ◌&&◌, Bool, true, false, nat_le, nat_lt, if◌then◌else◌, List, [], ◌∷◌, length, drop, map, All, codes, slice_range, Option, Some, None, Result, Ok, Err, ⊤}
use Rattle.std.specs.Option.{option_and_then}
use Rattle.std.specs.Str.{bytes_eq}
use Rattle.std.specs.Str.Parse.{digits_value}
use Rattle.spiel_frac.specs.Fraction.{Fraction}
use Rattle.spiel_frac.specs.Reading.{frac_of}
use Rattle.spiel_frac.specs.Spelling.{are_digits}
use Rattle.spiel_frac.specs.declared.fault.BadNumber.{BadNumber}
use Rattle.spiel_string.specs.Quoting.{unescaped}
use Rattle.spiel_string.specs.Tokens.{IsWithin}
use Rattle.spiel_string.specs.declared.token.Token.{Token}
use Rattle.spiel_string.specs.declared.token.Token.TheVariants.{Word, Quote, Left, Right, Comma}
use Rattle.spiel_efg.specs.declared.read_fault.EfgFault.{EfgFault}
use Rattle.spiel_efg.specs.declared.read_fault.EfgFault.TheVariants.{Grammar, NoMemory}
use Rattle.spiel_efg.specs.declared.read_mentions.Begins.{Begins}
use Rattle.spiel_efg.specs.declared.read_mentions.Begins.TheVariants.{Chance, Personal, Terminal}

-- ---- tokens
-- a word with its bytes, a text with what it says, or a mark
pub data Mark : Type 0 where
  word_mark : List ℕ → Mark
  text_mark : List ℕ → Mark
  left_mark : Mark
  right_mark : Mark
  comma_mark : Mark

abbrev pub mark_of : List ℕ → Token → Mark
mark_of bytes (Word from to) = word_mark (slice_range bytes from to)
mark_of bytes (Quote from to) = text_mark (unescaped (slice_range bytes from to))
mark_of bytes Left = left_mark
mark_of bytes Right = right_mark
mark_of bytes Comma = comma_mark

-- what is left to read: so many tokens stand before it
pub record Rest : Type 0 where
  pub before : ℕ
  pub marks : List Mark

-- what is left behind the next token
abbrev pub behind_first : ℕ → List Mark → Rest
behind_first before [] = record { before = before; marks = [] }
behind_first before (mark ∷ marks) = record { before = suc before; marks = marks }

abbrev pub behind : Rest → Rest
behind rest = behind_first rest.before rest.marks

-- the tokens of a file from one of them on
abbrev pub rest_from : List ℕ → List Token → ℕ → Rest
rest_from bytes tokens at = record { before = at; marks = map (mark_of bytes) (drop at tokens) }

-- where a reader stands: each token's bytes are within the file's
pub record IsReaderAt (bytes : List ℕ) (tokens : List Token) (at : ℕ) : Type 0 where
  pub within : All (IsWithin (length bytes)) tokens
  pub place : at ≤ length tokens
  pub few : length tokens < 2 ^ 32

-- ---- the next token
abbrev pub word_in : List Mark → Option (List ℕ)
word_in (word_mark bytes ∷ marks) = Some bytes
word_in marks = None

abbrev pub text_in : List Mark → Option (List ℕ)
text_in (text_mark said ∷ marks) = Some said
text_in marks = None

abbrev pub is_left_in : List Mark → Bool
is_left_in (left_mark ∷ marks) = true
is_left_in marks = false

abbrev pub is_right_in : List Mark → Bool
is_right_in (right_mark ∷ marks) = true
is_right_in marks = false

abbrev pub is_comma_in : List Mark → Bool
is_comma_in (comma_mark ∷ marks) = true
is_comma_in marks = false

-- the word, if the next token is one
abbrev pub next_word : Rest → Option (List ℕ)
next_word rest = word_in rest.marks

-- what the next token says, if it is a text
abbrev pub next_text : Rest → Option (List ℕ)
next_text rest = text_in rest.marks

-- ---- what a word says
-- is there a word, and is it this one?
abbrev pub is_word : List ℕ → Option (List ℕ) → Bool
is_word wanted None = false
is_word wanted (Some found) = bytes_eq found wanted

-- a number of 32 bits, written by digits
abbrev pub whole_number : List ℕ → Option ℕ
whole_number found = if are_digits found && nat_lt (digits_value 10 found) (2 ^ 32) then Some (digits_value 10 found) else None

-- one of so many players, who are counted from 1 in a file and from 0 in its game
abbrev pub player_number : ℕ → ℕ → Option ℕ
player_number players n = if nat_le 1 n && nat_le n players then Some (n - 1) else None

abbrev pub fraction_read : Result Fraction BadNumber → Option Fraction
fraction_read (Ok f) = Some f
fraction_read (Err fault) = None

-- the word that a node begins with
abbrev pub begins : List ℕ → Option Begins
begins found =
    if bytes_eq found (codes "c") then Some Chance
    else (if bytes_eq found (codes "p") then Some Personal
    else (if bytes_eq found (codes "t") then Some Terminal
    else None))

abbrev pub next_whole : Rest → Option ℕ
next_whole rest = option_and_then whole_number (next_word rest)

abbrev pub next_player : ℕ → Rest → Option ℕ
next_player players rest = option_and_then (player_number players) (next_whole rest)

abbrev pub next_number : Rest → Option Fraction
next_number rest = option_and_then (λ found. fraction_read (frac_of found)) (next_word rest)

abbrev pub next_begins : Rest → Option Begins
next_begins rest = option_and_then begins (next_word rest)

-- ---- reading on
-- what was read and what is left, or the first fault
abbrev pub Read : Type 0 → Type 0
Read A = Result (A × Rest) EfgFault

-- goes on with what was read and what is left
abbrev pub and_then : {A B : Type 0} → (A → Rest → Result B EfgFault) → Read A → Result B EfgFault
and_then next (Ok found) = next found.0 found.1
and_then next (Err fault) = Err fault

-- the next token can't follow
abbrev pub stop : {A : Type 0} → Rest → Result A EfgFault
stop rest = Err (Grammar rest.before)

-- what the next token says, which has to say something of this kind
abbrev pub expected : {A : Type 0} → Option A → Rest → Read A
expected None rest = stop rest
expected (Some found) rest = Ok (found, behind rest)

-- the next token, which has to be this one
abbrev pub passed : Bool → Rest → Read (Unit {0})
passed false rest = stop rest
passed true rest = Ok (tt, behind rest)

-- what the next token says, if it says something of this kind, or else a value that stands for it
abbrev pub optional : {A : Type 0} → A → Option A → Rest → A × Rest
optional absent None rest = (absent, rest)
optional absent (Some found) rest = (found, behind rest)

abbrev pub text_at : Rest → Read (List ℕ)
text_at rest = expected (next_text rest) rest

abbrev pub whole_at : Rest → Read ℕ
whole_at rest = expected (next_whole rest) rest

abbrev pub player_at : ℕ → Rest → Read ℕ
player_at players rest = expected (next_player players rest) rest

abbrev pub number_at : Rest → Read Fraction
number_at rest = expected (next_number rest) rest

abbrev pub begins_at : Rest → Read Begins
begins_at rest = expected (next_begins rest) rest

abbrev pub word_at : List ℕ → Rest → Read (Unit {0})
word_at wanted rest = passed (is_word wanted (next_word rest)) rest

abbrev pub left_at : Rest → Read (Unit {0})
left_at rest = passed (is_left_in rest.marks) rest

abbrev pub right_at : Rest → Read (Unit {0})
right_at rest = passed (is_right_in rest.marks) rest

-- a name that may be left out, and is empty then
abbrev pub name_at : Rest → Read (List ℕ)
name_at rest = Ok (optional [] (next_text rest) rest)

-- what is left behind a comma, if one is next
abbrev pub behind_comma : Rest → Rest
behind_comma rest = if is_comma_in rest.marks then behind rest else rest

-- the fault is the one that was computed, unless memory ran out
abbrev pub IsComputed : {A : Type 0} → Result A EfgFault → EfgFault → Type 0
IsComputed computed NoMemory = ⊤
IsComputed computed fault = computed ≡ Err fault
