-- The grammar of Gambit files up to their tokens: a file is a row of pieces, and spells them.
use Rattle.std.specs.Prelude.{◌≡◌, ◌+◌, ℕ, ◌&&◌, not, Bool, true, false, List, [], ◌∷◌, ◌++◌, length, ◌⊎◌}
use Rattle.std.specs.List.{list_all}
use Rattle.spiel_string.specs.Quoting.{is_escaped, backslash_kept}
use Rattle.spiel_string.specs.Tokens.{is_space, is_token_word}
use Rattle.spiel_string.specs.declared.token.Token.{Token}
use Rattle.spiel_string.specs.declared.token.Token.TheVariants.{Word, Quote, Left, Right, Comma}

-- a letter of a quoted text: a byte that says itself, or a backslash and the byte that it takes
pub data Letter : Type 0 where
  plain : ℕ → Letter
  pair : ℕ → Letter

-- a piece of a file
pub data Piece : Type 0 where
  space : ℕ → Piece
  left : Piece
  right : Piece
  comma : Piece
  word : List ℕ → Piece
  text : List Letter → Piece

-- the bytes of letters, and then the rest
abbrev pub spell_letters : List Letter → List ℕ → List ℕ
spell_letters [] rest = rest
spell_letters (plain byte ∷ letters) rest = byte ∷ spell_letters letters rest
spell_letters (pair byte ∷ letters) rest = 92 ∷ byte ∷ spell_letters letters rest

-- what letters say
abbrev pub letters_say : List Letter → List ℕ
letters_say [] = []
letters_say (plain byte ∷ letters) = byte ∷ letters_say letters
letters_say (pair byte ∷ letters) = backslash_kept byte ++ byte ∷ letters_say letters

abbrev pub letters_size : List Letter → ℕ
letters_size letters = length (spell_letters letters [])

-- the bytes of pieces, and then the rest
abbrev pub spell : List Piece → List ℕ → List ℕ
spell [] rest = rest
spell (space byte ∷ pieces) rest = byte ∷ spell pieces rest
spell (left ∷ pieces) rest = 123 ∷ spell pieces rest
spell (right ∷ pieces) rest = 125 ∷ spell pieces rest
spell (comma ∷ pieces) rest = 44 ∷ spell pieces rest
spell (word bytes ∷ pieces) rest = bytes ++ spell pieces rest
spell (text letters ∷ pieces) rest = 34 ∷ spell_letters letters (34 ∷ spell pieces rest)

-- a quote or a backslash is no plain letter
abbrev pub is_proper_letter : Letter → Bool
is_proper_letter (plain byte) = not (is_escaped byte)
is_proper_letter (pair byte) = true

abbrev pub word_is_first : List Piece → Bool
word_is_first (word bytes ∷ pieces) = true
word_is_first pieces = false

-- what stands as white space, as a word or as a text is one, and no word stands right behind another
abbrev pub are_proper : List Piece → Bool
are_proper [] = true
are_proper (space byte ∷ pieces) = is_space byte && are_proper pieces
are_proper (left ∷ pieces) = are_proper pieces
are_proper (right ∷ pieces) = are_proper pieces
are_proper (comma ∷ pieces) = are_proper pieces
are_proper (word bytes ∷ pieces) = is_token_word bytes && (not (word_is_first pieces) && are_proper pieces)
are_proper (text letters ∷ pieces) = list_all is_proper_letter letters && are_proper pieces

-- the tokens of pieces of which the first stands at a place
abbrev pub tokens_of : ℕ → List Piece → List Token
tokens_of at [] = []
tokens_of at (space byte ∷ pieces) = tokens_of (at + 1) pieces
tokens_of at (left ∷ pieces) = Left ∷ tokens_of (at + 1) pieces
tokens_of at (right ∷ pieces) = Right ∷ tokens_of (at + 1) pieces
tokens_of at (comma ∷ pieces) = Comma ∷ tokens_of (at + 1) pieces
tokens_of at (word bytes ∷ pieces) = Word at (at + length bytes) ∷ tokens_of (at + length bytes) pieces
tokens_of at (text letters ∷ pieces) = Quote (at + 1) (at + 1 + letters_size letters) ∷ tokens_of (at + 1 + letters_size letters + 1) pieces

-- the file is a row of pieces, and these are its tokens
pub record IsRowOf (bytes : List ℕ) (tokens : List Token) : Type 0 where
  pub pieces : List Piece
  pub proper : are_proper pieces ≡ true
  pub same : bytes ≡ spell pieces []
  pub tokens_are : tokens ≡ tokens_of 0 pieces

-- the file is a row of pieces up to a place, and a text from there on that isn't closed; a backslash may
-- stand last
pub record IsCutAt (bytes : List ℕ) (place : ℕ) : Type 0 where
  pub pieces : List Piece
  pub proper : are_proper pieces ≡ true
  pub letters : List Letter
  pub proper_letters : list_all is_proper_letter letters ≡ true
  pub tail : List ℕ
  pub tail_is : (tail ≡ []) ⊎ (tail ≡ 92 ∷ [])
  pub same : bytes ≡ spell pieces (34 ∷ spell_letters letters tail)
  pub place_is : place ≡ length (spell pieces [])
