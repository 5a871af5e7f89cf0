-- Keys that stand twice in one pair of brackets. A second key is told by the text from it on.
use Rattle.std.specs.Prelude.{◌≡◌, ◌+◌, ℕ, List, [], ◌∷◌, ◌++◌, length, if◌then◌else◌}
use Rattle.std.specs.List.{list_any}
use Rattle.std.specs.Str.{bytes_eq}
use Rattle.spiel_string.specs.Alphabet.{spaces}
use Rattle.spiel_string.specs.Grammar.{Node, leaf, call, Brackets, empty, filled, Entries, one, and, Whole, past_key, spell, spell_entries}

-- the text from a key on, where the key was seen before in these brackets
abbrev pub again : List (List ℕ) → List ℕ → List ℕ → List (List ℕ)
again seen key rest = if list_any (bytes_eq key) seen then (key ++ rest) ∷ [] else []

-- the texts from each second key on, in the order of the text
abbrev mutual
  pub second_keys : Node → List ℕ → List (List ℕ)
  second_keys (leaf text after) rest = []
  second_keys (call name before brackets after) rest = second_brackets brackets (41 ∷ spaces after rest)

  pub second_brackets : Brackets → List ℕ → List (List ℕ)
  second_brackets (empty n) rest = []
  second_brackets (filled entries) rest = second_entries [] entries rest

  pub second_entries : List (List ℕ) → Entries → List ℕ → List (List ℕ)
  second_entries seen (one head value) rest = again seen head.key (past_key head (spell value rest)) ++ second_keys value rest
  second_entries seen (and head value entries) rest =
      again seen head.key (past_key head (spell value (44 ∷ spell_entries entries rest)))
      ++ (second_keys value (44 ∷ spell_entries entries rest) ++ second_entries (head.key ∷ seen) entries rest)

-- the first second key stands at the place
pub record IsFirstSecondKey (tree : Whole) (text : List ℕ) (place : ℕ) : Type 0 where
  pub suffix : List ℕ
  pub others : List (List ℕ)
  pub first : second_keys tree.top [] ≡ suffix ∷ others
  pub at_place : place + length suffix ≡ length text
