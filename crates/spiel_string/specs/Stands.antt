-- Where a reader stands in a text.
use Rattle.std.specs.Prelude.{◌≡◌, ◌≤◌, ◌+◌, ℕ, List, [], ◌∷◌, ◌++◌, length, take, drop, Option, Some, None, ⊤}
use Rattle.spiel_string.specs.Alphabet.{spaces}
use Rattle.spiel_string.specs.Partial.{State, start, key_at, run}
use Rattle.spiel_string.specs.Modes.{mode_of, depth_of}
use Rattle.spiel_string.specs.Kept.{kept_view, kept_of}
use Rattle.spiel_string.specs.Progress.{deepest_of, seconds_of}
use Rattle.spiel_string.specs.declared.read.Reader.{Reader}

-- the word that is being read as a key begins at the place, where the rest follows
abbrev pub IsFrom : State → ℕ → List ℕ → ℕ → Type 0
IsFrom (key_at context finished lead key after) from rest total = from + length (key ++ spaces after rest) ≡ total
IsFrom state from rest total = ⊤

-- the place is that of the first of the texts, the last bytes of a text
abbrev pub IsFirst : Option ℕ → List (List ℕ) → ℕ → Type 0
IsFirst None texts total = texts ≡ []
IsFirst (Some place) texts total = (suffix : List ℕ) × (others : List (List ℕ)) × (texts ≡ suffix ∷ others) × (place + length suffix ≡ total)

-- the reader has read the bytes before the place, and keeps what their state tells
pub record Stands (text : List ℕ) (at : ℕ) (reader : Reader) : Type 0 where
  pub state : State
  pub read : run (start 0) (take at text) ≡ Some state
  pub mode_is : reader.mode ≡ mode_of state
  pub depth_is : reader.depth ≡ depth_of state
  pub shallow : reader.depth ≤ at
  pub kept_is : kept_view reader.kept ≡ kept_of state
  pub deepest_is : reader.deepest ≡ deepest_of state
  pub from_is : IsFrom state reader.from (drop at text) (length text)
  pub first_is : IsFirst reader.first (seconds_of state (drop at text)) (length text)
