-- What clap has found where a line uses these names.
use Rattle.std.proofs.Common.{◌≡◌, ◌∙◌, ◌||◌, cond, ap, refl, sym, ℕ, suc, Bool, true, false, List, [], ◌∷◌, ◌++◌, map, Option, Some, None, codes, append-nil, is_some}
use Rattle.std.specs.Prelude.{find, fold, if◌then◌else◌, option_map, unwrap_or}
use Rattle.std.specs.Option.{option_or}
use Rattle.std.specs.Str.{bytes_eq}
use Rattle.std.proofs.lemmas.List.Folds.{find-append}
use Rattle.clap.specs.Walk.{Text, Row, Rule, at_row, has_row, more_values, with_default, with_values, without}
use Rattle.clap.specs.declared.builder.value_parser.Reading.TheVariants.{AsWritten}
use Rattle.clap.specs.declared.parser.matches.ValueSource.{ValueSource}
use Rattle.clap.specs.declared.parser.matches.ValueSource.TheVariants.{CommandLine, DefaultValue}
use Rattle.spiel_words.specs.Line.{Line, Shape, Used, is_among, use_of}
use Rattle.spiel_words.specs.Rules.{numbered}
use Rattle.spiel_words.proofs.Built.{all_built, flag_built, option_built, place_built}
use Rattle.spiel_words.proofs.Names.{same}

-- a row with one value
abbrev pub row_from : ValueSource → Text → Text → Row
row_from source id value = record { id = id; values = value ∷ []; count = None; source = Some source; reading = AsWritten }

-- clap gives a flag the value `true`
abbrev pub row : Used → Row
row u = row_from CommandLine u.name (unwrap_or u.value (codes "true"))

abbrev pub names_of : Line → List Text
names_of = map (λ u. u.name)

abbrev pub find_row : Text → List Row → Option Row
find_row id rows = find (λ r. bytes_eq r.id id) rows

pub rows_named : (name : Text) (line : Line) → has_row name (map row line) ≡ is_among name (names_of line)
rows_named name [] = refl
rows_named name (u ∷ line) = ap (λ b. bytes_eq u.name name || b) (rows_named name line)

pub found_rows : (name : Text) (line : Line) → find_row name (map row line) ≡ option_map row (use_of name line)
found_rows name [] = refl
found_rows name (u ∷ line) = go (bytes_eq u.name name) (found_rows name line)
  where
    go : (b : Bool) → find_row name (map row line) ≡ option_map row (use_of name line)
        → cond b (Some (row u)) (find_row name (map row line)) ≡ option_map row (cond b (Some u) (use_of name line))
    go true h = refl
    go false h = h

pub has_found : (id : Text) (rows : List Row) → has_row id rows ≡ is_some (find_row id rows)
has_found id [] = refl
has_found id (r ∷ rows) = go (bytes_eq r.id id) (has_found id rows)
  where
    go : (b : Bool) → has_row id rows ≡ is_some (find_row id rows) → (b || has_row id rows) ≡ is_some (cond b (Some r) (find_row id rows))
    go true h = refl
    go false h = h

-- ---- a row of a new name goes last

at_row-fresh : (id : Text) (change : Row → List Row) (missing rows : List Row) → has_row id rows ≡ false → at_row id change missing rows ≡ rows ++ missing
at_row-fresh id change missing [] f = refl
at_row-fresh id change missing (r ∷ rows) f = go (bytes_eq r.id id) f (at_row-fresh id change missing rows)
  where
    go : (b : Bool) → (b || has_row id rows) ≡ false → (has_row id rows ≡ false → at_row id change missing rows ≡ rows ++ missing)
        → (if b then change r ++ rows else r ∷ at_row id change missing rows) ≡ r ∷ (rows ++ missing)
    go true h below = let bad : true ≡ false = h in cc
    go false h below = ap (λ u. r ∷ u) (below h)

pub fresh : (source : ValueSource) (id value : Text) (rows : List Row) → has_row id rows ≡ false → with_values id AsWritten source (value ∷ []) rows ≡ rows ++ row_from source id value ∷ []
fresh source id value rows f = at_row-fresh id (more_values source (value ∷ [])) _ rows f

pub fresh_again : (id value : Text) (rows : List Row) → has_row id rows ≡ false
    → with_values id AsWritten CommandLine (value ∷ []) (without id rows) ≡ rows ++ row_from CommandLine id value ∷ []
fresh_again id value rows f =
    ap (with_values id AsWritten CommandLine (value ∷ [])) (at_row-fresh id (λ _. []) [] rows f ∙ append-nil rows) ∙ fresh CommandLine id value rows f

-- ---- defaults

-- the row of a flag that isn't given
abbrev pub default_row : Text → Row
default_row name = row_from DefaultValue name (codes "false")

same_either : (b : Bool) (rows : List Row) → (if b then rows else rows) ≡ rows
same_either true rows = refl
same_either false rows = refl

fold-options : (names : List Text) (rows : List Row) → fold with_default rows (map option_built names) ≡ rows
fold-options [] rows = refl
fold-options (n ∷ names) rows = ap (λ r. fold with_default r (map option_built names)) (same_either (has_row n rows) rows) ∙ fold-options names rows

fold-flags : (flags options : List Text) (rows : List Row) → fold with_default rows (map flag_built flags ++ map option_built options) ≡ fold with_default rows (map flag_built flags)
fold-flags [] options rows = fold-options options rows
fold-flags (n ∷ names) options rows = fold-flags names options (with_default rows (flag_built n))

fold-places : (k : ℕ) (places : List Text) (rules : List Rule) (rows : List Row) → fold with_default rows (numbered place_built k places ++ rules) ≡ fold with_default rows rules
fold-places k [] rules rows = refl
fold-places k (n ∷ names) rules rows =
    ap (λ r. fold with_default r (numbered place_built (suc k) names ++ rules)) (same_either (has_row n rows) rows) ∙ fold-places (suc k) names rules rows

-- only flags have defaults
all_folded : (shape : Shape) (rows : List Row) → fold with_default rows (all_built shape) ≡ fold with_default rows (map flag_built shape.flags)
all_folded shape rows = fold-places 1 shape.places (map flag_built shape.flags ++ map option_built shape.options) rows ∙ fold-flags shape.flags shape.options rows

abbrev if_same : Text → Text → Option Row
if_same name id = if bytes_eq name id then Some (default_row name) else None

or-none : (o : Option Row) → option_or o None ≡ o
or-none None = refl
or-none (Some r) = refl

-- what stands already is found
standing : (id name : Text) (rows : List Row) → has_row name rows ≡ true → find_row id rows ≡ option_or (find_row id rows) (if_same name id)
standing id name rows h = go (bytes_eq name id) refl
  where
    some : (o : Option Row) → is_some o ≡ true → o ≡ option_or o (Some (default_row name))
    some None k = let bad : false ≡ true = k in cc
    some (Some r) k = refl

    go : (b : Bool) → bytes_eq name id ≡ b → find_row id rows ≡ option_or (find_row id rows) (if b then Some (default_row name) else None)
    go true e = some (find_row id rows) (sym (has_found id rows) ∙ ap (λ n. has_row n rows) (sym (same name id e)) ∙ h)
    go false e = sym (or-none (find_row id rows))

-- a flag's default is found where nothing was
default_found : (id name : Text) (rows : List Row) → find_row id (with_default rows (flag_built name)) ≡ option_or (find_row id rows) (if_same name id)
default_found id name rows = go (has_row name rows) refl
  where
    go : (b : Bool) → has_row name rows ≡ b
        → find_row id (if b then rows else with_values name AsWritten DefaultValue (codes "false" ∷ []) rows) ≡ option_or (find_row id rows) (if_same name id)
    go true h = standing id name rows h
    go false h = ap (find_row id) (fresh DefaultValue name (codes "false") rows h) ∙ find-append (λ (r : Row). bytes_eq r.id id) rows (default_row name ∷ [])

or-assoc : (a b c : Option Row) → option_or (option_or a b) c ≡ option_or a (option_or b c)
or-assoc None b c = refl
or-assoc (Some r) b c = refl

abbrev default_of_flags : Text → List Text → Option Row
default_of_flags id flags = if is_among id flags then Some (default_row id) else None

one_more : (id name : Text) (flags : List Text) → option_or (if_same name id) (default_of_flags id flags) ≡ default_of_flags id (name ∷ flags)
one_more id name flags = go (bytes_eq name id) refl
  where
    go : (b : Bool) → bytes_eq name id ≡ b → option_or (if b then Some (default_row name) else None) (default_of_flags id flags) ≡ (if b || is_among id flags then Some (default_row id) else None)
    go true e = ap (λ (x : Text). Some (default_row x)) (same name id e)
    go false e = refl

flags_found : (id : Text) (flags : List Text) (rows : List Row) → find_row id (fold with_default rows (map flag_built flags)) ≡ option_or (find_row id rows) (default_of_flags id flags)
flags_found id [] rows = sym (or-none (find_row id rows))
flags_found id (name ∷ flags) rows =
    flags_found id flags (with_default rows (flag_built name))
    ∙ ap (λ o. option_or o (default_of_flags id flags)) (default_found id name rows)
    ∙ or-assoc (find_row id rows) (if_same name id) (default_of_flags id flags)
    ∙ ap (option_or (find_row id rows)) (one_more id name flags)

-- at the end a name finds what the line says of it, or a flag its default
pub end_found : (shape : Shape) (id : Text) (line : Line)
    → find_row id (fold with_default (map row line) (all_built shape)) ≡ option_or (option_map row (use_of id line)) (if is_among id shape.flags then Some (default_row id) else None)
end_found shape id line =
    ap (find_row id) (all_folded shape (map row line)) ∙ flags_found id shape.flags (map row line)
    ∙ ap (λ o. option_or o (default_of_flags id shape.flags)) (found_rows id line)
