-- From what clap has found to what the line says.
use Rattle.std.proofs.Common.{◌≡◌, ◌∙◌, cond, ap, refl, sym, subst, Bool, true, false, not, List, [], ◌∷◌, map, Option, Some, None, codes, is_some}
use Rattle.std.specs.Prelude.{if◌then◌else◌, option_and_then, option_map, slice_get, unwrap_or}
use Rattle.std.specs.List.{list_all}
use Rattle.std.specs.Option.{option_map_or, option_or}
use Rattle.std.specs.Str.{bytes_eq}
use Rattle.std.specs.Str.{is_utf8}
use Rattle.std.proofs.Common.{String, string_bytes}
use Rattle.std.proofs.lemmas.Str.{IsUtf8-string_bytes, is_utf8-from_IsUtf8}
use Rattle.clap.specs.Walk.{Row, row_text, rows_of}
use Rattle.std.specs.Prelude.{◌≢◌, Err, Ok, Result}
use Rattle.std.specs.Result.{IsErrAnd}
use Rattle.std.proofs.Common.{inl, inr}
use Rattle.clap.specs.Simple.{App, is_simple, matches_of}
use Rattle.clap.specs.Kinds.{HasKind, IsAmong, Kinds}
use Rattle.clap.specs.Faults.{fault_of, is_simple_and_free}
use Rattle.clap.specs.Values.{kind_of as error_kind}
use Rattle.clap.specs.declared.error.Error.{Error}
use Rattle.clap.specs.declared.error.kind.ErrorKind.TheVariants.{OutOfMemory}
use Rattle.spiel_words.specs.declared.fault.WordsFault.{WordsFault}
use Rattle.spiel_words.specs.declared.fault.WordsFault.TheVariants.{Usage}
use Rattle.spiel_words.proofs.Built.{simple}
use Rattle.clap.specs.declared.error.kind.ErrorKind.{ErrorKind}
use Rattle.clap.specs.declared.parser.matches.Found.{Found}
use Rattle.clap.proofs.WalkLemmas.{first_value-rows, one_text-rows}
use Rattle.spiel_words.specs.Line.{Kind, Line, Shape, Text, Used, are_distinct, dashes, first, flag, flag_kind, is_among, is_dashed, is_given, is_sound, is_value, kind_first, kind_of, named, named_kind, once_each, option, option_kind, place, placed, read_line, unknown, use_of, uses_of, value_of, valued, with_value, without_value}
use Rattle.spiel_words.specs.Found.{Says, flag_text}
use Rattle.spiel_words.proofs.Agreement.{no_flags}
use Rattle.spiel_words.proofs.Names.{both, left_of, not_true, right_of, same}
use Rattle.spiel_words.specs.Rules.{app_for}
use Rattle.spiel_words.proofs.Ends.{end_rows}
use Rattle.spiel_words.proofs.Found.{clap_agrees}
use Rattle.spiel_words.proofs.Rows.{default_row, end_found, find_row, row}
use Rattle.spiel_words.proofs.Turns.{passes}

-- ---- flags have no value, and all else has one

abbrev pub is_well : Shape → Used → Bool
is_well shape u = if is_among u.name shape.flags then not (is_some u.value) else is_some u.value

abbrev pub all_well : Shape → Option Line → Bool
all_well shape o = option_map_or (list_all (is_well shape)) o true

first_well : (shape : Shape) (u : Used) (o : Option Line) → is_well shape u ≡ true → all_well shape o ≡ true → all_well shape (first u o) ≡ true
first_well shape u None w h = refl
first_well shape u (Some line) w h = both _ _ w h

value_well : (shape : Shape) (name value : Text) → is_among name shape.flags ≡ false → is_well shape (with_value name value) ≡ true
value_well shape name value no_flag = ap (λ b. if b then false else true) no_flag

flag_well : (shape : Shape) (name : Text) → is_among name shape.flags ≡ true → is_well shape (without_value name) ≡ true
flag_well shape name is_flag = ap (λ b. if b then true else false) is_flag

-- what a kind says of its name
abbrev pub IsNamed : Shape → Kind → Type 0
IsNamed shape dashes = Unit {0}
IsNamed shape place = Unit {0}
IsNamed shape (flag name) = is_among name shape.flags ≡ true
IsNamed shape (option name) = is_among name shape.flags ≡ false
IsNamed shape (valued name value) = is_among name shape.flags ≡ false
IsNamed shape unknown = Unit {0}

flag_named : (shape : Shape) (name : Text) (value : Option Text) → is_among name shape.flags ≡ true → IsNamed shape (flag_kind name value)
flag_named shape name None h = h
flag_named shape name (Some value) h = tt

option_named : (shape : Shape) (name : Text) (value : Option Text) → is_among name shape.flags ≡ false → IsNamed shape (option_kind name value)
option_named shape name None h = h
option_named shape name (Some []) h = tt
option_named shape name (Some (byte ∷ bytes)) h = h

kind_named : (shape : Shape) (found : Option (Text × Option Text)) → IsNamed shape (named_kind shape found)
kind_named shape None = tt
kind_named shape (Some pair) = go (is_among pair.0 shape.flags) (is_among pair.0 shape.options) refl
  where
    go : (f o : Bool) → is_among pair.0 shape.flags ≡ f → IsNamed shape (if f then flag_kind pair.0 pair.1 else (if o then option_kind pair.0 pair.1 else unknown))
    go true o e = flag_named shape pair.0 pair.1 e
    go false true e = option_named shape pair.0 pair.1 e
    go false false e = tt

pub word_named : (shape : Shape) (word : Text) → IsNamed shape (kind_of shape word)
word_named shape word = go (bytes_eq word (codes "--")) (is_dashed word)
  where
    go : (b d : Bool) → IsNamed shape (if b then dashes else (if d then named_kind shape (named word) else place))
    go true d = tt
    go false true = kind_named shape (named word)
    go false false = tt

abbrev pub are_no_flags : Shape → List Text → Bool
are_no_flags shape names = list_all (λ name. not (is_among name shape.flags)) names

placed_well : (shape : Shape) (names words : List Text) → are_no_flags shape names ≡ true → all_well shape (placed names words) ≡ true
placed_well shape [] [] h = refl
placed_well shape [] (word ∷ words) h = refl
placed_well shape (name ∷ names) [] h = refl
placed_well shape (name ∷ names) (word ∷ words) h =
    first_well shape (with_value name word) (placed names words) (value_well shape name word (not_true _ (left_of _ _ h))) (placed_well shape names words (right_of _ _ h))

abbrev IsNoFlag : Shape → Option Text → Type 0
IsNoFlag shape None = Unit {0}
IsNoFlag shape (Some name) = is_among name shape.flags ≡ false

abbrev ReadsWell : Shape → List Text → Type 0
ReadsWell shape words = (left : List Text) (awaited : Option Text) → are_no_flags shape left ≡ true → IsNoFlag shape awaited → all_well shape (uses_of shape words left awaited) ≡ true

kind_well : (shape : Shape) (word : Text) (words left : List Text) → ReadsWell shape words → are_no_flags shape left ≡ true → (kind : Kind) → IsNamed shape kind
    → all_well shape (kind_first kind word words left (uses_of shape words)) ≡ true
kind_well shape word words left reads h dashes n = placed_well shape left words h
kind_well shape word words [] reads h place n = refl
kind_well shape word words (name ∷ left) reads h place n =
    first_well shape (with_value name word) (uses_of shape words left None) (value_well shape name word (not_true _ (left_of _ _ h))) (reads left None (right_of _ _ h) tt)
kind_well shape word words left reads h (flag name) n = first_well shape (without_value name) (uses_of shape words left None) (flag_well shape name n) (reads left None h tt)
kind_well shape word words left reads h (option name) n = reads left (Some name) h n
kind_well shape word words left reads h (valued name value) n = first_well shape (with_value name value) (uses_of shape words left None) (value_well shape name value n) (reads left None h tt)
kind_well shape word words left reads h unknown n = refl

value_first_well : (shape : Shape) (b : Bool) (u : Used) (o : Option Line) → is_well shape u ≡ true → all_well shape o ≡ true → all_well shape (if b then first u o else None) ≡ true
value_first_well shape true u o w h = first_well shape u o w h
value_first_well shape false u o w h = refl

reads_well : (shape : Shape) (words : List Text) → ReadsWell shape words
reads_well shape [] [] None h n = refl
reads_well shape [] [] (Some name) h n = refl
reads_well shape [] (name ∷ names) awaited h n = refl
reads_well shape (word ∷ words) left None h n = kind_well shape word words left (reads_well shape words) h (kind_of shape word) (word_named shape word)
reads_well shape (word ∷ words) left (Some name) h n =
    value_first_well shape (is_value word) (with_value name word) (uses_of shape words left None) (value_well shape name word n) (reads_well shape words left None h tt)

once_well : (shape : Shape) (o : Option Line) → all_well shape o ≡ true → all_well shape (option_and_then once_each o) ≡ true
once_well shape None h = refl
once_well shape (Some line) h = go (are_distinct (map (λ u. u.name) line))
  where
    go : (b : Bool) → all_well shape (if b then Some line else None) ≡ true
    go true = h
    go false = refl

pub line_well : (shape : Shape) (words : List Text) → is_sound shape ≡ true → all_well shape (read_line shape words) ≡ true
line_well shape words sound = once_well shape (uses_of shape words shape.places None)
    (reads_well shape words shape.places None (no_flags shape.places shape.flags shape.options (left_of _ _ sound)) tt)

-- ---- what is found of a name

value_found : (shape : Shape) (name : Text) (line : Line) → is_among name shape.flags ≡ false → list_all (is_well shape) line ≡ true
    → option_and_then (λ (r : Row). slice_get r.values 0) (option_or (option_map row (use_of name line)) None) ≡ value_of name line
value_found shape name [] no_flag h = refl
value_found shape name (u ∷ line) no_flag h = go (bytes_eq u.name name) refl (value_found shape name line no_flag (right_of _ _ h))
  where
    there : (v : Option Text) → is_some v ≡ true → Some (unwrap_or v (codes "true")) ≡ v
    there None k = let bad : false ≡ true = k in cc
    there (Some v) k = refl

    go : (b : Bool) → bytes_eq u.name name ≡ b → option_and_then (λ (r : Row). slice_get r.values 0) (option_or (option_map row (use_of name line)) None) ≡ value_of name line
        → option_and_then (λ (r : Row). slice_get r.values 0) (option_or (option_map row (cond b (Some u) (use_of name line))) None) ≡ option_and_then (λ (w : Used). w.value) (cond b (Some u) (use_of name line))
    go true e below = there u.value (sym (ap (λ b. if b then not (is_some u.value) else is_some u.value) (ap (λ n. is_among n shape.flags) (same u.name name e) ∙ no_flag)) ∙ left_of _ _ h)
    go false e below = below

flag_found : (shape : Shape) (name : Text) (line : Line) → is_among name shape.flags ≡ true → list_all (is_well shape) line ≡ true
    → option_and_then row_text (option_or (option_map row (use_of name line)) (Some (default_row name))) ≡ Some (flag_text (is_given name line))
flag_found shape name [] is_flag h = refl
flag_found shape name (u ∷ line) is_flag h = go (bytes_eq u.name name) refl (flag_found shape name line is_flag (right_of _ _ h))
  where
    there : (v : Option Text) → not (is_some v) ≡ true → Some (unwrap_or v (codes "true")) ≡ Some (codes "true")
    there None k = refl
    there (Some v) k = let bad : false ≡ true = k in cc

    go : (b : Bool) → bytes_eq u.name name ≡ b → option_and_then row_text (option_or (option_map row (use_of name line)) (Some (default_row name))) ≡ Some (flag_text (is_given name line))
        → option_and_then row_text (option_or (option_map row (cond b (Some u) (use_of name line))) (Some (default_row name))) ≡ Some (flag_text (is_some (cond b (Some u) (use_of name line))))
    go true e below = there u.value (sym (ap (λ b. if b then not (is_some u.value) else is_some u.value) (ap (λ n. is_among n shape.flags) (same u.name name e) ∙ is_flag)) ∙ left_of _ _ h)
    go false e below = below

-- ---- both ways

pub says : (shape : Shape) (words : List Text) (found : Found) → is_sound shape ≡ true → list_all is_utf8 words ≡ true → fault_of (app_for shape) words ≡ []
    → rows_of found ≡ matches_of (app_for shape) words → Says shape words found
says shape words found sound u none rows = go (read_line shape words) refl (line_well shape words sound)
    (sym (ap (λ k. if passes k then Some (matches_of (app_for shape) words) else None) none) ∙ clap_agrees shape words sound u)
  where
    go : (o : Option Line) → read_line shape words ≡ o → all_well shape o ≡ true → Some (matches_of (app_for shape) words) ≡ option_map (end_rows shape) o → Says shape words found
    go None is well e = absurd (cc)
    go (Some line) is well e =
        let same_rows : rows_of found ≡ end_rows shape line = cc in
        record {
          line = line;
          read = is;
          values = λ name no_flag. first_value-rows found name
              ∙ ap (λ rs. option_and_then (λ (r : Row). slice_get r.values 0) (find_row name rs)) same_rows
              ∙ ap (option_and_then (λ (r : Row). slice_get r.values 0)) (end_found shape name line ∙ ap (λ b. option_or (option_map row (use_of name line)) (if b then Some (default_row name) else None)) no_flag)
              ∙ value_found shape name line no_flag well;
          flags = λ name is_flag. one_text-rows found name
              ∙ ap (λ rs. option_and_then row_text (find_row name rs)) same_rows
              ∙ ap (option_and_then row_text) (end_found shape name line ∙ ap (λ b. option_or (option_map row (use_of name line)) (if b then Some (default_row name) else None)) is_flag)
              ∙ flag_found shape name line is_flag well;
        }

pub refused : (shape : Shape) (words : List Text) (kind : ErrorKind) → is_sound shape ≡ true → list_all is_utf8 words ≡ true → IsAmong kind (fault_of (app_for shape) words) → read_line shape words ≡ None
refused shape words kind sound u among = go (read_line shape words) (sym (ap (λ b. if b then Some (matches_of (app_for shape) words) else None) (fails (fault_of (app_for shape) words) among)) ∙ clap_agrees shape words sound u)
  where
    fails : (kinds : Kinds) → IsAmong kind kinds → passes kinds ≡ false
    fails [] h = absurd h
    fails (k ∷ ks) h = refl

    go : (o : Option Line) → None ≡ option_map (end_rows shape) o → o ≡ None
    go None e = refl
    go (Some line) e = absurd (cc)

-- the words of the code are UTF-8
pub all_texts : {Z : Type 0} (words : List (String Z)) → list_all is_utf8 (map string_bytes words) ≡ true
all_texts [] = refl
all_texts (word ∷ words) = both _ _ (is_utf8-from_IsUtf8 (string_bytes word) (IsUtf8-string_bytes word)) (all_texts words)

-- ---- at the command that the code has built

module _ (shape : Shape) (words : List Text) (app : App) (is : app ≡ app_for shape) (sound : is_sound shape ≡ true) (u : list_all is_utf8 words ≡ true) where
  free : is_simple_and_free app ≡ true
  free = ap is_simple_and_free is ∙ simple shape

  pub taken : (found : Found) → (is_simple_and_free app ≡ true → fault_of app words ≡ []) → (is_simple app ≡ true → rows_of found ≡ matches_of app words) → Says shape words found
  taken found none rows = says shape words found sound u (ap (λ a. fault_of a words) (sym is) ∙ none free) (rows (left_of _ _ free) ∙ ap (λ a. matches_of a words) is)

  pub refused_usage : {T : Type 0} (result : Result T WordsFault) (error : Error) → (is_simple_and_free app ≡ true → HasKind (fault_of app words) error)
      → IsErrAnd result (λ fault. fault ≡ Usage → error_kind error ≢ OutOfMemory) → result ≡ Err Usage → read_line shape words ≡ None
  refused_usage (Ok x) error kinds from e = absurd from
  refused_usage (Err fault) error kinds from e = elim (kinds free) [
    | inl memory ↦ absurd (from (cc) memory)
    | inr among ↦ refused shape words (error_kind error) sound u (subst (λ (a : App). IsAmong (error_kind error) (fault_of a words)) is among)
  ]
