-- A game string has no line feed, and its canonical text is a line that is kept.
use Rattle.std.proofs.Common.{◌≡◌, ℕ, zero, suc, true, List, [], ◌∷◌, ◌++◌, refl, sym, ◌∙◌, ap}
use Rattle.std.specs.List.{list_all}
use Rattle.std.proofs.lemmas.Bool.{and_from, and_parts, true≢false}
use Rattle.std.proofs.lemmas.List.Folds.{list_all-append}
use Rattle.spiel_string.specs.Alphabet.{is_name, is_word, is_word_byte, is_lower, spaces}
use Rattle.spiel_string.specs.Canonical.{game_text}
use Rattle.spiel_string.specs.Game.{Game, game}
use Rattle.spiel_string.specs.Grammar.{Head, Node, leaf, call, Brackets, empty, filled, Entries, one, and, spell, spell_head, spell_brackets, spell_entries, IsProper, AreBracketsProper, AreEntriesProper, IsProperTop}
use Rattle.spiel_string.specs.Reading.{IsRead}
use Rattle.spiel_string.specs.WellFormed.{IsWell}
use Rattle.spiel_string.proofs.Alphabet.{is_word-from_name}
use Rattle.spiel_save.specs.Lines.{is_kept}
use Rattle.spiel_save.proofs.Texts.{is_other, is_plain, plain_by}

-- ---- no line feed in a text of the grammar

plain_spaces : (n : ℕ) (rest : List ℕ) → is_plain rest ≡ true → is_plain (spaces n rest) ≡ true
plain_spaces zero rest h = h
plain_spaces (suc n) rest h = plain_spaces n (32 ∷ rest) h

all_word : (word : List ℕ) → is_word word ≡ true → list_all is_word_byte word ≡ true
all_word [] h = refl
all_word (byte ∷ word) h = h

plain_word : (word rest : List ℕ) → is_word word ≡ true → is_plain rest ≡ true → is_plain (word ++ rest) ≡ true
plain_word word rest w h = list_all-append _ word rest ∙ and_from (is_plain word) (is_plain rest) (plain_by word is_word_byte refl (all_word word w)) h

plain_name : (name rest : List ℕ) → is_name name ≡ true → is_plain rest ≡ true → is_plain (name ++ rest) ≡ true
plain_name name rest n h = plain_word name rest (is_word-from_name name n) h

plain_head : (head : Head) (rest : List ℕ) → is_name head.key ≡ true → is_plain rest ≡ true → is_plain (spell_head head rest) ≡ true
plain_head head rest n h =
    plain_spaces head.before_key _ (plain_name head.key _ n (plain_spaces head.after_key _ (plain_spaces head.after_equals rest h)))

mutual
  plain_node : (node : Node) (rest : List ℕ) → IsProper node → is_plain rest ≡ true → is_plain (spell node rest) ≡ true
  plain_node (leaf text after) rest p h = plain_word text _ p (plain_spaces after rest h)
  plain_node (call name before brackets after) rest p h =
      plain_name name _ p.0 (plain_spaces before _ (plain_brackets brackets (41 ∷ spaces after rest) p.1 (plain_spaces after rest h)))

  plain_brackets : (brackets : Brackets) (rest : List ℕ) → AreBracketsProper brackets → is_plain rest ≡ true → is_plain (spell_brackets brackets rest) ≡ true
  plain_brackets (empty n) rest p h = plain_spaces n rest h
  plain_brackets (filled entries) rest p h = plain_entries entries rest p h

  plain_entries : (entries : Entries) (rest : List ℕ) → AreEntriesProper entries → is_plain rest ≡ true → is_plain (spell_entries entries rest) ≡ true
  plain_entries (one head value) rest p h = plain_head head _ p.0 (plain_node value rest p.1 h)
  plain_entries (and head value entries) rest p h =
      plain_head head _ p.0 (plain_node value (44 ∷ spell_entries entries rest) p.1 (plain_entries entries rest p.2 h))

plain_top : (node : Node) → IsProperTop node → is_plain (spell node []) ≡ true
plain_top (leaf text after) p = plain_name text _ p (plain_spaces after [] refl)
plain_top (call name before brackets after) p = plain_node (call name before brackets after) [] p refl

pub plain_game : (text : List ℕ) (g : Game) → IsRead text g → is_plain text ≡ true
plain_game text g read = ap is_plain read.spells.same ∙ plain_spaces read.tree.lead _ (plain_top read.tree.top read.spells.proper)

-- ---- the canonical text begins with a letter

kept_name : (name rest : List ℕ) → is_name name ≡ true → is_kept (name ++ rest) ≡ true
kept_name [] rest n = absurd (true≢false (sym n))
kept_name (byte ∷ name) rest n = is_other byte 35 is_lower (and_parts (is_lower byte) _ n).0 refl

pub kept_game : (g : Game) → IsWell g → is_kept (game_text g) ≡ true
kept_game (game name _) well = kept_name name _ well.0
