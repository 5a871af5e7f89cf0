-- What clap checks once all words are read.
use Rattle.std.proofs.Common.{◌≡◌, ◌∙◌, ◌&&◌, ◌||◌, cond, ap, refl, ℕ, suc, Bool, true, false, not, List, [], ◌∷◌, ◌++◌, map, Option, Some, None, codes, is_some}
use Rattle.std.specs.Prelude.{fold, if◌then◌else◌, option_map}
use Rattle.std.specs.List.{list_all, list_any}
use Rattle.std.specs.Option.{option_map_or, option_or}
use Rattle.clap.specs.Facts.{explicit_source}
use Rattle.clap.specs.Walk.{Text, Row, Rule, has_row, with_default}
use Rattle.clap.specs.Takes.{is_given}
use Rattle.std.specs.Str.{bytes_eq}
use Rattle.std.proofs.Math.Bool.{and-false}
use Rattle.clap.specs.declared.error.kind.ErrorKind.{ErrorKind}
use Rattle.spiel_words.proofs.Names.{both, left_of, not_true, right_of}
use Rattle.clap.specs.Kinds.{Kinds, or_else}
use Rattle.clap.specs.Faults.{check_fault, default_fault, defaults_fault, given_default_fault}
use Rattle.spiel_words.specs.Line.{Line, Shape, Used, is_among, use_of}
use Rattle.spiel_words.specs.Rules.{numbered}
use Rattle.spiel_words.proofs.Built.{all_built, flag_built, option_built, place_built}
use Rattle.spiel_words.proofs.Rows.{default_row, end_found, names_of, row}
use Rattle.spiel_words.proofs.Turns.{command, passes, passes-or_else}

-- ---- the defaults

or_pass : (a b : Kinds) → passes a ≡ true → passes b ≡ true → passes (or_else a b) ≡ true
or_pass a b p q = passes-or_else a b ∙ both (passes a) (passes b) p q

-- places and options have none, and that of a flag is good
skips : (b : Bool) (kinds : Kinds) → passes (if b || true then [] else kinds) ≡ true
skips true kinds = refl
skips false kinds = refl

place_default : (k : ℕ) (n : Text) (rows : List Row) → passes (default_fault rows (place_built k n)) ≡ true
place_default k n rows = skips (has_row n rows) (given_default_fault (place_built k n) [])

option_default : (n : Text) (rows : List Row) → passes (default_fault rows (option_built n)) ≡ true
option_default n rows = skips (has_row n rows) (given_default_fault (option_built n) [])

flag_default : (n : Text) (rows : List Row) → passes (default_fault rows (flag_built n)) ≡ true
flag_default n rows = go (has_row n rows)
  where
    go : (b : Bool) → passes (if b || false then [] else given_default_fault (flag_built n) (codes "false" ∷ [])) ≡ true
    go true = refl
    go false = refl

defaults-options : (names : List Text) (rows : List Row) → passes (defaults_fault rows (map option_built names)) ≡ true
unfolding defaults_fault
defaults-options [] rows = refl
defaults-options (n ∷ names) rows = or_pass (default_fault rows (option_built n)) _ (option_default n rows) (defaults-options names (with_default rows (option_built n)))

defaults-flags : (flags options : List Text) (rows : List Row) → passes (defaults_fault rows (map flag_built flags ++ map option_built options)) ≡ true
unfolding defaults_fault
defaults-flags [] options rows = defaults-options options rows
defaults-flags (n ∷ names) options rows = or_pass (default_fault rows (flag_built n)) _ (flag_default n rows) (defaults-flags names options (with_default rows (flag_built n)))

defaults-places : (k : ℕ) (places flags options : List Text) (rows : List Row)
    → passes (defaults_fault rows (numbered place_built k places ++ (map flag_built flags ++ map option_built options))) ≡ true
unfolding defaults_fault
defaults-places k [] flags options rows = defaults-flags flags options rows
defaults-places k (n ∷ names) flags options rows =
    or_pass (default_fault rows (place_built k n)) _ (place_default k n rows) (defaults-places (suc k) names flags options (with_default rows (place_built k n)))

pub defaults_pass : (shape : Shape) (rows : List Row) → passes (defaults_fault rows (all_built shape)) ≡ true
defaults_pass shape rows = defaults-places 1 shape.places shape.flags shape.options rows

-- ---- what is required

abbrev is_missing : List Row → Rule → Bool
is_missing rows rule = rule.required && not (is_given rule.id rows)

missing-options : (names : List Text) (rows : List Row) → list_any (is_missing rows) (map option_built names) ≡ false
missing-options [] rows = refl
missing-options (n ∷ names) rows = missing-options names rows

missing-flags : (flags options : List Text) (rows : List Row) → list_any (is_missing rows) (map flag_built flags ++ map option_built options) ≡ false
missing-flags [] options rows = missing-options options rows
missing-flags (n ∷ names) options rows = missing-flags names options rows

missing-places : (k : ℕ) (places flags options : List Text) (rows : List Row)
    → list_any (is_missing rows) (numbered place_built k places ++ (map flag_built flags ++ map option_built options)) ≡ not (list_all (λ n. is_given n rows) places)
missing-places k [] flags options rows = missing-flags flags options rows
missing-places k (n ∷ names) flags options rows = go (is_given n rows) (missing-places (suc k) names flags options rows)
  where
    go : (b : Bool) → list_any (is_missing rows) (numbered place_built (suc k) names ++ (map flag_built flags ++ map option_built options)) ≡ not (list_all (λ m. is_given m rows) names)
        → (not b || list_any (is_missing rows) (numbered place_built (suc k) names ++ (map flag_built flags ++ map option_built options))) ≡ not (b && list_all (λ m. is_given m rows) names)
    go true h = h
    go false h = refl

passes_if : (b : Bool) (kind : ErrorKind) → passes (if b then kind ∷ [] else []) ≡ not b
passes_if true kind = refl
passes_if false kind = refl

not_twice : (b : Bool) → not (not b) ≡ b
not_twice true = refl
not_twice false = refl

pub check_is : (shape : Shape) (rows : List Row) → passes (check_fault (command shape) rows false) ≡ list_all (λ n. is_given n rows) shape.places
check_is shape rows =
    passes_if (list_any (is_missing rows) (all_built shape)) _ ∙ ap not (missing-places 1 shape.places shape.flags shape.options rows) ∙ not_twice (list_all (λ n. is_given n rows) shape.places)

-- ---- what is given at the end

use_among : (name : Text) (line : Line) → is_some (use_of name line) ≡ is_among name (names_of line)
use_among name [] = refl
use_among name (u ∷ line) = go (bytes_eq u.name name) (use_among name line)
  where
    go : (b : Bool) → is_some (use_of name line) ≡ is_among name (names_of line) → is_some (cond b (Some u) (use_of name line)) ≡ (b || is_among name (names_of line))
    go true h = refl
    go false h = h

-- the rows at the end of a line
abbrev pub end_rows : Shape → Line → List Row
end_rows shape line = fold with_default (map row line) (all_built shape)

given_end : (shape : Shape) (line : Line) (name : Text) → is_among name shape.flags ≡ false → is_given name (end_rows shape line) ≡ is_among name (names_of line)
given_end shape line name no_flag =
    ap (λ o. option_map_or (λ (r : Row). explicit_source r.source) o false)
    (end_found shape name line ∙ ap (λ b. option_or (option_map row (use_of name line)) (if b then Some (default_row name) else None)) no_flag)
    ∙ go (use_of name line) ∙ use_among name line
  where
    go : (o : Option Used) → option_map_or (λ (r : Row). explicit_source r.source) (option_or (option_map row o) None) false ≡ is_some o
    go None = refl
    go (Some u) = refl

-- each of the names is used, and none of them is a flag
pub each_given : (shape : Shape) (line : Line) (names : List Text) → list_all (λ n. is_among n (names_of line)) names ≡ true → list_all (λ n. not (is_among n shape.flags)) names ≡ true
    → list_all (λ n. is_given n (end_rows shape line)) names ≡ true
each_given shape line [] used no_flags = refl
each_given shape line (n ∷ names) used no_flags = both _ _
    (given_end shape line n (not_true _ (left_of _ _ no_flags)) ∙ left_of _ _ used) (each_given shape line names (right_of _ _ used) (right_of _ _ no_flags))

-- one of the names isn't used, and is no flag
pub not_each_given : (shape : Shape) (line : Line) (front : List Text) (name : Text) (left : List Text) → is_among name (names_of line) ≡ false → is_among name shape.flags ≡ false
    → list_all (λ n. is_given n (end_rows shape line)) (front ++ name ∷ left) ≡ false
not_each_given shape line [] name left unused no_flag = ap (λ b. b && list_all (λ n. is_given n (end_rows shape line)) left) (given_end shape line name no_flag ∙ unused)
not_each_given shape line (n ∷ front) name left unused no_flag =
    ap (λ b. is_given n (end_rows shape line) && b) (not_each_given shape line front name left unused no_flag) ∙ and-false (is_given n (end_rows shape line))
