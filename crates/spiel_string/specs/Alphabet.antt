-- The bytes of game strings, names and words.
use Rattle.std.specs.Prelude.{ℕ, zero, suc, ◌==◌, ◌&&◌, ◌||◌, Bool, false, List, [], ◌∷◌, nat_le}
use Rattle.std.specs.List.{list_all}

-- a lower-case letter
abbrev pub is_lower : ℕ → Bool
is_lower byte = nat_le 97 byte && nat_le byte 122

-- a digit or `_`, with which no name begins
abbrev pub is_name_rest : ℕ → Bool
is_name_rest byte = (nat_le 48 byte && nat_le byte 57) || (byte == 95)

-- a capital letter or one of `. ; / + : -`, which stand in words alone
abbrev pub is_word_rest : ℕ → Bool
is_word_rest byte =
    (nat_le 65 byte && nat_le byte 90)
    || ((byte == 46) || ((byte == 59) || ((byte == 47) || ((byte == 43) || ((byte == 58) || (byte == 45))))))

abbrev pub is_name_byte : ℕ → Bool
is_name_byte byte = is_lower byte || is_name_rest byte

abbrev pub is_word_byte : ℕ → Bool
is_word_byte byte = is_name_byte byte || is_word_rest byte

-- a lower-case letter, and then lower-case letters, digits and `_`
abbrev pub is_name : List ℕ → Bool
is_name [] = false
is_name (byte ∷ bytes) = is_lower byte && list_all is_name_byte bytes

-- one or more bytes of words
abbrev pub is_word : List ℕ → Bool
is_word [] = false
is_word (byte ∷ bytes) = is_word_byte byte && list_all is_word_byte bytes

-- so many spaces, and then the rest
abbrev pub spaces : ℕ → List ℕ → List ℕ
spaces zero rest = rest
spaces (suc n) rest = spaces n (32 ∷ rest)
