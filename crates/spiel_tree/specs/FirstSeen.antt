-- Texts, each once, in the order in which they are first seen.
use Rattle.std.specs.Prelude.{◌≡◌, ℕ, suc, ◌<◌, cond, List, [], ◌∷◌, length, slice_index_or}
use Rattle.std.specs.Str.{bytes_eq}

-- a text goes last if it wasn't there
abbrev pub with_text : List (List ℕ) → List ℕ → List (List ℕ)
with_text [] text = text ∷ []
with_text (first ∷ rest) text = first ∷ cond (bytes_eq text first) rest (with_text rest text)

-- the first place of a text, which is the length where it isn't there
abbrev pub place_of_text : List (List ℕ) → List ℕ → ℕ
place_of_text [] text = 0
place_of_text (first ∷ rest) text = cond (bytes_eq text first) 0 (suc (place_of_text rest text))

-- the text at a place
abbrev pub text_at : List (List ℕ) → ℕ → List ℕ
text_at texts n = slice_index_or texts n []

-- the texts that were seen, and behind them those that come, each once
abbrev pub first_seen : List (List ℕ) → List (List ℕ) → List (List ℕ)
first_seen seen [] = seen
first_seen seen (text ∷ rest) = first_seen (with_text seen text) rest

-- the number is that of a text: its first place
pub record IsNumberIn (texts : List (List ℕ)) (n : ℕ) : Type 0 where
  pub within : n < length texts
  pub first : place_of_text texts (text_at texts n) ≡ n
