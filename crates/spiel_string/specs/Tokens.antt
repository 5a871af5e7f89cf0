-- The tokens of a Gambit file: words, quoted texts, braces and commas. A place is the number of bytes
-- that stand before it.
use Rattle.std.specs.Prelude.{◌≡◌, ◌<◌, ◌≤◌, ◌+◌, ℕ, ◌==◌, ◌&&◌, ◌||◌, Bool, true, false, nat_le, List, [], ◌∷◌, slice_range, Option, Some, None, Result, Ok, Err, if◌then◌else◌, ⊤}
use Rattle.std.specs.List.{list_all}
use Rattle.std.specs.Str.{bytes_eq}
use Rattle.spiel_string.specs.declared.token.Token.{Token}
use Rattle.spiel_string.specs.declared.token.Token.TheVariants.{Word, Quote, Left, Right, Comma}
use Rattle.spiel_string.specs.declared.token.TokenFault.{TokenFault}
use Rattle.spiel_string.specs.declared.token.TokenFault.TheVariants.{Unclosed, NoMemory}
use Rattle.spiel_string.specs.declared.token.Kind.{Kind}
use Rattle.spiel_string.specs.declared.token.Kind.TheVariants.{Space, LeftBrace, RightBrace, CommaByte, QuoteMark, WordByte}

-- the most bytes of a file
unfoldable pub most_file_bytes : ℕ
most_file_bytes = 67108864

-- tabs, the ends of lines and pages, and the space itself
abbrev pub is_space : ℕ → Bool
is_space byte = (nat_le 9 byte && nat_le byte 13) || (byte == 32)

-- what a byte is for, outside of texts
unfoldable pub kind : ℕ → Kind
kind byte =
    if is_space byte then Space
    else (if byte == 123 then LeftBrace
    else (if byte == 125 then RightBrace
    else (if byte == 44 then CommaByte
    else (if byte == 34 then QuoteMark
    else WordByte))))

abbrev pub is_of_word : Kind → Bool
is_of_word WordByte = true
is_of_word other = false

abbrev pub is_word_byte : ℕ → Bool
is_word_byte byte = is_of_word (kind byte)

-- a byte of a word stands first
abbrev pub begins_word : List ℕ → Bool
begins_word [] = false
begins_word (byte ∷ bytes) = is_word_byte byte

-- one or more bytes of a word, and no others
abbrev pub is_token_word : List ℕ → Bool
is_token_word [] = false
is_token_word (byte ∷ bytes) = is_word_byte byte && list_all is_word_byte bytes

-- tokens, and the place of the quote behind them that opens a text that isn't closed, if there is one
pub record Found : Type 0 where
  pub tokens : List Token
  pub unclosed : Option ℕ

abbrev pub nothing : Found
nothing = record { tokens = []; unclosed = None }

abbrev pub cut : ℕ → Found
cut opened = record { tokens = []; unclosed = Some opened }

-- a token, and then what was found
abbrev pub first : Token → Found → Found
first token found = record { tokens = token ∷ found.tokens; unclosed = found.unclosed }

-- the word that stands first begins earlier
abbrev pub from_earlier : ℕ → List Token → List Token
from_earlier at (Word from to ∷ tokens) = Word at to ∷ tokens
from_earlier at tokens = tokens

abbrev pub earlier : ℕ → Found → Found
earlier at found = record { tokens = from_earlier at found.tokens; unclosed = found.unclosed }

-- the bytes between two places belong to a word: to the one that goes on there, or else to one of
-- their own
abbrev pub word_before : ℕ → ℕ → List ℕ → Found → Found
word_before from to bytes found = if begins_word bytes then earlier from found else first (Word from to) found

-- what is found in bytes of which the first has this place
unfoldable mutual
  -- outside of texts
  pub tokens_from : ℕ → List ℕ → Found
  tokens_from at [] = nothing
  tokens_from at (byte ∷ bytes) = elim (kind byte) [
    | Space ↦ tokens_from (at + 1) bytes
    | LeftBrace ↦ first Left (tokens_from (at + 1) bytes)
    | RightBrace ↦ first Right (tokens_from (at + 1) bytes)
    | CommaByte ↦ first Comma (tokens_from (at + 1) bytes)
    | QuoteMark ↦ text_from at (at + 1) bytes
    | WordByte ↦ word_before at (at + 1) bytes (tokens_from (at + 1) bytes)
  ]

  -- inside of a text that was opened at a place
  pub text_from : ℕ → ℕ → List ℕ → Found
  text_from opened at [] = cut opened
  text_from opened at (byte ∷ bytes) = elim (byte == 34) [
    | true ↦ first (Quote (opened + 1) at) (tokens_from (at + 1) bytes)
    | false ↦ elim (byte == 92) [
      | true ↦ behind_backslash opened (at + 1) bytes
      | false ↦ text_from opened (at + 1) bytes
    ]
  ]

  -- behind a backslash in a text: the byte there closes nothing
  pub behind_backslash : ℕ → ℕ → List ℕ → Found
  behind_backslash opened at [] = cut opened
  behind_backslash opened at (byte ∷ bytes) = text_from opened (at + 1) bytes

abbrev pub all_or_fault : List Token → Option ℕ → Result (List Token) TokenFault
all_or_fault tokens None = Ok tokens
all_or_fault tokens (Some opened) = Err (Unclosed opened)

-- the tokens of a file, unless a text isn't closed
unfoldable pub file_tokens : List ℕ → Result (List Token) TokenFault
file_tokens bytes = all_or_fault (tokens_from 0 bytes).tokens (tokens_from 0 bytes).unclosed

-- a fault that is answered is the one of the file, or want of memory
abbrev pub IsTokenFault : List ℕ → TokenFault → Type 0
IsTokenFault bytes (Unclosed opened) = file_tokens bytes ≡ Err (Unclosed opened)
IsTokenFault bytes NoMemory = ⊤

-- a token's bytes stand in a file of so many bytes
abbrev pub IsWithin : ℕ → Token → Type 0
IsWithin total (Word from to) = (from < to) × (to ≤ total)
IsWithin total (Quote from to) = (from ≤ to) × (to < total)
IsWithin total Left = ⊤
IsWithin total Right = ⊤
IsWithin total Comma = ⊤

-- tokens stand one behind another, from a place on, in a file of so many bytes
abbrev pub Rise : ℕ → ℕ → List Token → Type 0
Rise least total [] = least ≤ total
Rise least total (Word from to ∷ tokens) = (least ≤ from) × (from < to) × Rise to total tokens
Rise least total (Quote from to ∷ tokens) = (least < from) × (from ≤ to) × Rise (to + 1) total tokens
Rise least total (Left ∷ tokens) = Rise (least + 1) total tokens
Rise least total (Right ∷ tokens) = Rise (least + 1) total tokens
Rise least total (Comma ∷ tokens) = Rise (least + 1) total tokens

-- the bytes of a token in its file: of a word, between the quotes of a text, or the mark
abbrev pub token_text : List ℕ → Token → List ℕ
token_text bytes (Word from to) = slice_range bytes from to
token_text bytes (Quote from to) = slice_range bytes from to
token_text bytes Left = 123 ∷ []
token_text bytes Right = 125 ∷ []
token_text bytes Comma = 44 ∷ []

-- the first of a file's tokens is this word
abbrev pub first_is : List ℕ → List ℕ → List Token → Bool
first_is bytes word (Word from to ∷ tokens) = bytes_eq (slice_range bytes from to) word
first_is bytes word tokens = false
