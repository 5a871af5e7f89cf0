-- The grammar of game strings. A text of it is the spelling of a tree, which tells how many spaces
-- stand round each name, word and mark.
use Rattle.std.specs.Prelude.{◌≡◌, ◌<◌, ◌≤◌, length, take, ℕ, true, List, [], ◌∷◌, ◌++◌}
use Rattle.spiel_string.specs.Alphabet.{is_name, is_word, spaces}

-- what stands before the value of a parameter: the key, `=`, and spaces round both
pub record Head : Type 0 where
  pub before_key : ℕ
  pub key : List ℕ
  pub after_key : ℕ
  pub after_equals : ℕ

mutual
  -- a value and the spaces after it: a word, or a name with brackets
  pub data Node : Type 0 where
    leaf : List ℕ → ℕ → Node
    call : List ℕ → ℕ → Brackets → ℕ → Node

  -- what stands between brackets: spaces alone, or parameters
  pub data Brackets : Type 0 where
    empty : ℕ → Brackets
    filled : Entries → Brackets

  -- parameters, with a comma between two
  pub data Entries : Type 0 where
    one : Head → Node → Entries
    and : Head → Node → Entries → Entries

-- what follows a key up to the value, and then the rest
abbrev pub past_key : Head → List ℕ → List ℕ
past_key head rest = spaces head.after_key (61 ∷ spaces head.after_equals rest)

abbrev pub spell_head : Head → List ℕ → List ℕ
spell_head head rest = spaces head.before_key (head.key ++ past_key head rest)

-- the text of a tree, and then the rest
abbrev mutual
  pub spell : Node → List ℕ → List ℕ
  spell (leaf text after) rest = text ++ spaces after rest
  spell (call name before brackets after) rest = name ++ spaces before (40 ∷ spell_brackets brackets (41 ∷ spaces after rest))

  pub spell_brackets : Brackets → List ℕ → List ℕ
  spell_brackets (empty n) rest = spaces n rest
  spell_brackets (filled entries) rest = spell_entries entries rest

  pub spell_entries : Entries → List ℕ → List ℕ
  spell_entries (one head value) rest = spell_head head (spell value rest)
  spell_entries (and head value entries) rest = spell_head head (spell value (44 ∷ spell_entries entries rest))

-- what stands as a name is a name, and what stands as a word is a word
abbrev mutual
  pub IsProper : Node → Type 0
  IsProper (leaf text after) = is_word text ≡ true
  IsProper (call name before brackets after) = (is_name name ≡ true) × AreBracketsProper brackets

  pub AreBracketsProper : Brackets → Type 0
  AreBracketsProper (empty n) = Unit {0}
  AreBracketsProper (filled entries) = AreEntriesProper entries

  pub AreEntriesProper : Entries → Type 0
  AreEntriesProper (one head value) = (is_name head.key ≡ true) × IsProper value
  AreEntriesProper (and head value entries) = (is_name head.key ≡ true) × IsProper value × AreEntriesProper entries

-- the same of the outermost game, a name with or without brackets
abbrev pub IsProperTop : Node → Type 0
IsProperTop (leaf text after) = is_name text ≡ true
IsProperTop (call name before brackets after) = (is_name name ≡ true) × AreBracketsProper brackets

-- a whole text: spaces, and the outermost game
pub record Whole : Type 0 where
  pub lead : ℕ
  pub top : Node

abbrev pub spell_whole : Whole → List ℕ
spell_whole whole = spaces whole.lead (spell whole.top [])

-- the text spells the tree
pub record Spells (tree : Whole) (text : List ℕ) : Type 0 where
  pub proper : IsProperTop tree.top
  pub same : text ≡ spell_whole tree

-- the text is in the grammar
abbrev pub InGrammar : List ℕ → Type 0
InGrammar text = (tree : Whole) × Spells tree text

-- some text of the grammar begins with this one
abbrev pub IsViable : List ℕ → Type 0
IsViable text = (rest : List ℕ) × InGrammar (text ++ rest)

-- the text isn't in the grammar, and the place is the length of its longest front with which some
-- text of the grammar begins
pub record IsSyntaxPlace (text : List ℕ) (place : ℕ) : Type 0 where
  pub refused : InGrammar text → ⊥
  pub within : place ≤ length text
  pub front : IsViable (take place text)
  pub longest : (longer : ℕ) → place < longer → longer ≤ length text → IsViable (take longer text) → ⊥
