-- The value of a word, and of a tree.
use Rattle.std.specs.Prelude.{ℕ, ◌&&◌, ◌||◌, ◌==◌, ℤ, pos, neg_ℤ, Bool, true, false, List, [], ◌∷◌, length, nat_le, nat_lt, Option, Some, None, if◌then◌else◌, codes, drop}
use Rattle.std.specs.List.{list_all}
use Rattle.std.specs.Char.{is_ascii_digit}
use Rattle.std.specs.Str.{bytes_eq}
use Rattle.std.specs.Str.Parse.{digits_value}
use Rattle.spiel_string.specs.Game.{Game, game, no_params, Value, int, flag, word, inner}
use Rattle.spiel_string.specs.View.{params_of}
use Rattle.spiel_string.specs.Sorted.{sorted}
use Rattle.spiel_string.specs.Grammar.{Node, leaf, call, Brackets, empty, filled, Entries, one, and}

-- 1 to 18 digits
abbrev pub are_digits : List ℕ → Bool
are_digits bytes = nat_lt 0 (length bytes) && (nat_le (length bytes) 18 && list_all is_ascii_digit bytes)

-- the number of 1 to 18 digits
abbrev pub digits_of : List ℕ → Option ℕ
digits_of bytes = if are_digits bytes then Some (digits_value 10 bytes) else None

-- the bytes begin with `-`
abbrev pub is_negative : List ℕ → Bool
is_negative [] = false
is_negative (byte ∷ bytes) = byte == 45

abbrev pub number_of : Bool → Option ℕ → Option ℤ
number_of negative None = None
number_of negative (Some n) = Some (if negative then neg_ℤ (pos n) else pos n)

-- the whole number that a word reads as: 1 to 18 digits, after a `-` or not
abbrev pub whole_of : List ℕ → Option ℤ
whole_of text = if is_negative text then number_of true (digits_of (drop 1 text)) else number_of false (digits_of text)

abbrev pub is_true : List ℕ → Bool
is_true text = bytes_eq text (codes "True") || bytes_eq text (codes "true")

abbrev pub is_false : List ℕ → Bool
is_false text = bytes_eq text (codes "False") || bytes_eq text (codes "false")

abbrev pub flag_or_word : List ℕ → Value
flag_or_word text = if is_true text then flag true else (if is_false text then flag false else word text)

abbrev pub number_or : Option ℤ → Value → Value
number_or None value = value
number_or (Some n) value = int n

-- the value of a word: a whole number, a flag, or else the word
unfoldable pub word_value : List ℕ → Value
word_value text = number_or (whole_of text) (flag_or_word text)

-- the value of a tree, with its parameters in byte order of their keys
abbrev mutual
  pub value_of : Node → Value
  value_of (leaf text after) = word_value text
  value_of (call name before brackets after) = inner (game name (params_of (sorted (brackets_params brackets))))

  pub brackets_params : Brackets → List (List ℕ × Value)
  brackets_params (empty n) = []
  brackets_params (filled entries) = entries_params entries

  pub entries_params : Entries → List (List ℕ × Value)
  entries_params (one head value) = (head.key, value_of value) ∷ []
  entries_params (and head value entries) = (head.key, value_of value) ∷ entries_params entries

-- the value of the outermost tree
abbrev pub game_of : Node → Game
game_of (leaf text after) = game text no_params
game_of (call name before brackets after) = game name (params_of (sorted (brackets_params brackets)))
