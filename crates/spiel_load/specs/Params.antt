-- The kinds of parameters: what their values mean, and how one is read.
use Rattle.std.specs.Prelude.{ℕ, ◌&&◌, pos, Bool, List, [], ◌∷◌, codes, nat_le, Option, Some, None, Ok, unwrap_or, if◌then◌else◌}
use Rattle.std.specs.List.{find}
use Rattle.std.specs.Option.{option_map}
use Rattle.std.specs.Str.{bytes_eq}
use Rattle.spiel_frac.specs.Listed.{numbers_between}
use Rattle.spiel_string.specs.Game.{Value, int, flag, word, inner}
use Rattle.spiel_load.specs.Given.{Asked, asked_by, Read, ◌>>=◌, only_keys, optional, required}

-- a whole number from the first to the last of these
abbrev pub number_in : ℕ → ℕ → Value → Option ℕ
number_in least most (int (pos n)) = if nat_le least n && nat_le n most then Some n else None
number_in least most value = None

abbrev pub flag_in : Value → Option Bool
flag_in (flag b) = Some b
flag_in value = None

-- what one of these words says
abbrev pub chosen : {A : Type 0} → List (List ℕ × A) → List ℕ → Option A
chosen choices text = option_map (λ choice. choice.1) (find (λ choice. bytes_eq text choice.0) choices)

abbrev pub choice_in : {A : Type 0} → List (List ℕ × A) → Value → Option A
choice_in choices (word text) = chosen choices text
choice_in choices value = None

-- a game; a word is the name of one with nothing given
abbrev pub game_in : Value → Option Asked
game_in (word name) = Some (record { name = name; given = [] })
game_in (inner g) = Some (asked_by g)
game_in value = None

-- a history: one number below 2^32, or such numbers with semicolons between them
abbrev pub history_in : Value → Option (List ℕ)
history_in (int (pos n)) = if nat_le n 4294967295 then Some (n ∷ []) else None
history_in (word text) = numbers_between 59 text
history_in value = None

-- the name of a file; standard input has none
abbrev pub name_in : Value → Option (List ℕ)
name_in (word name) = if bytes_eq name (codes "-") then None else Some name
name_in value = None

-- what is given for the key, or else the last of these
unfoldable pub flag_at : Asked → List ℕ → Bool → Read Bool
flag_at asked key default = optional flag_in asked key >>= λ b. Ok (unwrap_or b default)

unfoldable pub number_at : Asked → List ℕ → ℕ → ℕ → ℕ → Read ℕ
number_at asked key least most default = optional (number_in least most) asked key >>= λ n. Ok (unwrap_or n default)

unfoldable pub choice_at : {A : Type 0} → Asked → List ℕ → List (List ℕ × A) → A → Read A
choice_at asked key choices default = optional (choice_in choices) asked key >>= λ x. Ok (unwrap_or x default)

unfoldable pub history_at : Asked → List ℕ → Read (List ℕ)
history_at asked key = optional history_in asked key >>= λ history. Ok (unwrap_or history [])

-- the name of the file that a game takes, and nothing else
unfoldable pub file_taken : Asked → Read (List ℕ)
file_taken asked =
    only_keys asked (codes "filename" ∷ []) >>= λ fine.
    optional name_in asked (codes "filename") >>= λ name.
    required asked (codes "filename") name
