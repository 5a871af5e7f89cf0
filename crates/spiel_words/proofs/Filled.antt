-- Each place of a line has its word.
use Rattle.std.proofs.Common.{◌≡◌, ◌∙◌, cond, ap, refl, sym, Bool, true, false, List, [], ◌∷◌, map, Option, Some, None, is_some}
use Rattle.std.specs.Prelude.{if◌then◌else◌, option_and_then}
use Rattle.std.specs.Option.{option_map_or}
use Rattle.std.specs.Str.{bytes_eq}
use Rattle.spiel_words.specs.Line.{Kind, Line, Shape, Text, Used, are_distinct, dashes, first, flag, is_among, is_filled, is_sound, is_value, kind_first, kind_of, once_each, option, place, placed, read_line, unknown, use_of, uses_of, value_of, valued, with_value, without_value}
use Rattle.spiel_words.proofs.Agreement.{no_flags}
use Rattle.spiel_words.proofs.Names.{both, itself, left_of, not_true, right_of, same}
use Rattle.spiel_words.proofs.Sayings.{IsNamed, are_no_flags, word_named}

-- the names that are still to be filled are filled in what is read
abbrev fills : List Text → Option Line → Bool
fills names o = option_map_or (is_filled names) o true

-- a value more takes none away
more_filled : (names : List Text) (name value : Text) (line : Line) → is_filled names line ≡ true → is_filled names (with_value name value ∷ line) ≡ true
more_filled [] name value line h = refl
more_filled (n ∷ names) name value line h = both _ _ (go (bytes_eq name n) (left_of _ _ h)) (more_filled names name value line (right_of _ _ h))
  where
    go : (b : Bool) → is_some (value_of n line) ≡ true → is_some (option_and_then (λ (u : Used). u.value) (cond b (Some (with_value name value)) (use_of n line))) ≡ true
    go true k = refl
    go false k = k

value_fills : (names : List Text) (name value : Text) (o : Option Line) → fills names o ≡ true → fills names (first (with_value name value) o) ≡ true
value_fills names name value None h = refl
value_fills names name value (Some line) h = more_filled names name value line h

place_fills : (names : List Text) (name value : Text) (o : Option Line) → fills names o ≡ true → fills (name ∷ names) (first (with_value name value) o) ≡ true
place_fills names name value None h = refl
place_fills names name value (Some line) h = both _ _
    (ap (λ b. is_some (option_and_then (λ (u : Used). u.value) (cond b (Some (with_value name value)) (use_of name line)))) (itself name))
    (more_filled names name value line h)

-- nor does a flag
flag_filled : (shape : Shape) (names : List Text) (name : Text) (line : Line) → is_among name shape.flags ≡ true → are_no_flags shape names ≡ true
    → is_filled names line ≡ true → is_filled names (without_value name ∷ line) ≡ true
flag_filled shape [] name line is_flag apart h = refl
flag_filled shape (n ∷ names) name line is_flag apart h =
    both _ _ (go (bytes_eq name n) refl (left_of _ _ h)) (flag_filled shape names name line is_flag (right_of _ _ apart) (right_of _ _ h))
  where
    go : (b : Bool) → bytes_eq name n ≡ b → is_some (value_of n line) ≡ true
        → is_some (option_and_then (λ (u : Used). u.value) (cond b (Some (without_value name)) (use_of n line))) ≡ true
    go true e k = let bad : true ≡ false = sym is_flag ∙ ap (λ m. is_among m shape.flags) (same name n e) ∙ not_true _ (left_of _ _ apart) in cc
    go false e k = k

flag_fills : (shape : Shape) (names : List Text) (name : Text) (o : Option Line) → is_among name shape.flags ≡ true → are_no_flags shape names ≡ true
    → fills names o ≡ true → fills names (first (without_value name) o) ≡ true
flag_fills shape names name None is_flag apart h = refl
flag_fills shape names name (Some line) is_flag apart h = flag_filled shape names name line is_flag apart h

placed_fills : (names words : List Text) → fills names (placed names words) ≡ true
placed_fills [] [] = refl
placed_fills [] (word ∷ words) = refl
placed_fills (name ∷ names) [] = refl
placed_fills (name ∷ names) (word ∷ words) = place_fills names name word (placed names words) (placed_fills names words)

abbrev Fills : Shape → List Text → Type 0
Fills shape words = (left : List Text) (awaited : Option Text) → are_no_flags shape left ≡ true → fills left (uses_of shape words left awaited) ≡ true

kind_fills : (shape : Shape) (word : Text) (words left : List Text) → Fills shape words → are_no_flags shape left ≡ true → (kind : Kind) → IsNamed shape kind
    → fills left (kind_first kind word words left (uses_of shape words)) ≡ true
kind_fills shape word words left below apart dashes n = placed_fills left words
kind_fills shape word words [] below apart place n = refl
kind_fills shape word words (name ∷ left) below apart place n = place_fills left name word (uses_of shape words left None) (below left None (right_of _ _ apart))
kind_fills shape word words left below apart (flag name) n = flag_fills shape left name (uses_of shape words left None) n apart (below left None apart)
kind_fills shape word words left below apart (option name) n = below left (Some name) apart
kind_fills shape word words left below apart (valued name value) n = value_fills left name value (uses_of shape words left None) (below left None apart)
kind_fills shape word words left below apart unknown n = refl

awaited_fills : (b : Bool) (names : List Text) (name value : Text) (o : Option Line) → fills names o ≡ true → fills names (if b then first (with_value name value) o else None) ≡ true
awaited_fills true names name value o h = value_fills names name value o h
awaited_fills false names name value o h = refl

all_fill : (shape : Shape) (words : List Text) → Fills shape words
all_fill shape [] [] None apart = refl
all_fill shape [] [] (Some name) apart = refl
all_fill shape [] (name ∷ names) awaited apart = refl
all_fill shape (word ∷ words) left None apart = kind_fills shape word words left (all_fill shape words) apart (kind_of shape word) (word_named shape word)
all_fill shape (word ∷ words) left (Some name) apart = awaited_fills (is_value word) left name word (uses_of shape words left None) (all_fill shape words left None apart)

once_fills : (names : List Text) (o : Option Line) → fills names o ≡ true → fills names (option_and_then once_each o) ≡ true
once_fills names None h = refl
once_fills names (Some line) h = go (are_distinct (map (λ u. u.name) line))
  where
    go : (b : Bool) → fills names (if b then Some line else None) ≡ true
    go true = h
    go false = refl

pub line_is_filled : (shape : Shape) (words : List Text) (line : Line) → is_sound shape ≡ true → read_line shape words ≡ Some line → is_filled shape.places line ≡ true
line_is_filled shape words line sound is =
    ap (fills shape.places) (sym is) ∙ once_fills shape.places (uses_of shape words shape.places None)
    (all_fill shape words shape.places None (no_flags shape.places shape.flags shape.options (left_of _ _ sound)))
