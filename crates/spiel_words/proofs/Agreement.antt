-- A parse by clap and the project's rule go the same way, from each state on.
use Rattle.std.proofs.Common.{◌≡◌, ◌∙◌, ◌&&◌, ◌||◌, ◌<◌, ap, ap₂, refl, sym, subst, arith, append_assoc, append-nil, ℕ, suc, ◌+◌, Bool, true, false, not, List, [], ◌∷◌, ◌++◌, map, length, Option, Some, None, codes}
use Rattle.std.specs.Prelude.{if◌then◌else◌, nat_lt, option_and_then, option_map}
use Rattle.std.specs.List.{list_all}
use Rattle.std.specs.Option.{option_map_or}
use Rattle.std.specs.Str.{is_utf8}
use Rattle.std.proofs.Math.Bool.{and-false, and-true, or-true}
use Rattle.std.proofs.lemmas.Bool.{ltb-true}
use Rattle.std.proofs.lemmas.List.{length-append}
use Rattle.clap.specs.Takes.{is_given}
use Rattle.clap.specs.Walk.{Text, Row, Rule, Held, Walk, Waiting, idle, option as waits_for, option_word, arg_by_id, arg_by_index, has_row, used, used_by_id}
use Rattle.clap.specs.Kinds.{Kinds, or_else}
use Rattle.clap.specs.Faults.{check_fault, use_fault, values_fault}
use Rattle.clap.specs.declared.error.kind.ErrorKind.TheVariants.{ArgumentConflict, InvalidValue}
use Rattle.spiel_words.specs.Line.{Line, Shape, Used, Kind, are_distinct, dashes, first, flag, is_among, is_dashed, is_sound, kind_first, kind_of, once_each, option, place, place_first, placed, unknown, uses_of, valued, with_value, without_value}
use Rattle.spiel_words.proofs.Built.{all_built, flag_built, option_built, place_built}
use Rattle.spiel_words.proofs.Ends.{check_is, defaults_pass, each_given, end_rows, not_each_given}
use Rattle.spiel_words.proofs.Lookups.{by_index, option_by_id, place_by_id}
use Rattle.spiel_words.proofs.Names.{among-append, apart, back_distinct, both, front_distinct, inserted, itself, left_of, neither, not_true, right_of, twice}
use Rattle.spiel_words.proofs.Rows.{fresh_again, names_of, row, rows_named}
use Rattle.spiel_words.proofs.Turns.{Places, TurnIs, fails-first, on_plain, before, behind, command, held, next_of, passes, turn, turn_of}
use Rattle.spiel_words.proofs.Walks.{ends, outcome, place_fault, place_next, place_next_behind, settled_at, settles, settles_before, settles_behind, step_place, stray}

-- where a reading stands: what is used so far, the places that have a word and those that have none
pub record Stands (shape : Shape) (acc : Line) (front left : List Text) (position : ℕ) : Type 0 where
  pub split : shape.places ≡ front ++ left
  pub here : position ≡ suc (length front)
  pub distinct : are_distinct (names_of acc ++ left) ≡ true
  pub apart : are_distinct (left ++ (shape.flags ++ shape.options)) ≡ true
  pub placed : list_all (λ name. is_among name (names_of acc)) front ≡ true

-- the whole line, from what was used before and what is used from here on
abbrev pub closes : Line → Option Line → Option Line
closes acc = option_and_then (λ line. once_each (acc ++ line))

abbrev pub finish : Shape → Option Line → Option (List Row)
finish shape = option_map (end_rows shape)

-- ---- one more use

names-append : (xs ys : Line) → names_of (xs ++ ys) ≡ names_of xs ++ names_of ys
names-append [] ys = refl
names-append (u ∷ xs) ys = ap (λ names. u.name ∷ names) (names-append xs ys)

rows-append : (xs ys : Line) → map row (xs ++ ys) ≡ map row xs ++ map row ys
rows-append [] ys = refl
rows-append (u ∷ xs) ys = ap (λ rows. row u ∷ rows) (rows-append xs ys)

closes_more : (acc : Line) (u : Used) (o : Option Line) → closes (acc ++ u ∷ []) o ≡ closes acc (first u o)
closes_more acc u None = refl
closes_more acc u (Some line) = ap once_each (append_assoc acc (u ∷ []) line)

-- a name that is used already isn't used again
closes_twice : (acc : Line) (u : Used) (o : Option Line) → is_among u.name (names_of acc) ≡ true → closes acc (first u o) ≡ None
closes_twice acc u None h = refl
closes_twice acc u (Some line) h =
    let bad : are_distinct (names_of (acc ++ u ∷ line)) ≡ false = ap are_distinct (names-append acc (u ∷ line)) ∙ twice u.name (names_of acc) (names_of line) h in
    ap (λ b. if b then Some (acc ++ u ∷ line) else None) bad

not_before : (x : Text) (xs ys : List Text) → are_distinct (xs ++ x ∷ ys) ≡ true → is_among x xs ≡ false
not_before x xs ys d = go (is_among x xs) refl
  where
    go : (b : Bool) → is_among x xs ≡ b → b ≡ false
    go true e = sym d ∙ twice x xs ys e
    go false e = refl

-- what is among the second isn't among the first
pub apart_before : (x : Text) (xs ys : List Text) → are_distinct (xs ++ ys) ≡ true → is_among x ys ≡ true → is_among x xs ≡ false
apart_before x xs ys d h = go (is_among x xs) refl
  where
    go : (b : Bool) → is_among x xs ≡ b → b ≡ false
    go true e = sym h ∙ apart x xs ys d e
    go false e = refl

more_placed : (acc : Line) (u : Used) (names : List Text) → list_all (λ name. is_among name (names_of acc)) names ≡ true → list_all (λ name. is_among name (names_of (acc ++ u ∷ []))) names ≡ true
more_placed acc u [] h = refl
more_placed acc u (n ∷ names) h =
    let here : is_among n (names_of (acc ++ u ∷ [])) ≡ true =
    ap (is_among n) (names-append acc (u ∷ [])) ∙ among-append n (names_of acc) (u.name ∷ []) ∙ ap (λ b. b || is_among n (u.name ∷ [])) (left_of _ _ h) in
    both _ _ here (more_placed acc u names (right_of _ _ h))

-- after a flag or an option
stands_named : (shape : Shape) (acc : Line) (front left : List Text) (position : ℕ) (u : Used) → Stands shape acc front left position
    → is_among u.name (names_of acc) ≡ false → is_among u.name left ≡ false → Stands shape (acc ++ u ∷ []) front left position
stands_named shape acc front left position u s new free = record {
  split = s.split;
  here = s.here;
  distinct = ap (λ names. are_distinct (names ++ left)) (names-append acc (u ∷ [])) ∙ ap are_distinct (append_assoc (names_of acc) (u.name ∷ []) left) ∙ inserted u.name (names_of acc) left s.distinct new free;
  apart = s.apart;
  placed = more_placed acc u front s.placed;
}

all-append : (test : Text → Bool) (xs ys : List Text) → list_all test xs ≡ true → list_all test ys ≡ true → list_all test (xs ++ ys) ≡ true
all-append test [] ys p q = q
all-append test (x ∷ xs) ys p q = both _ _ (left_of _ _ p) (all-append test xs ys (right_of _ _ p) q)

-- after a positional word
stands_placed : (shape : Shape) (acc : Line) (front : List Text) (name : Text) (left : List Text) (position : ℕ) (word : Text) → is_sound shape ≡ true
    → Stands shape acc front (name ∷ left) position → Stands shape (acc ++ with_value name word ∷ []) (front ++ name ∷ []) left (step_place position)
stands_placed shape acc front name left position word sound s =
    let few : length shape.places < 100 = ltb-true (length shape.places) 100
    (right_of (are_distinct (shape.places ++ (shape.flags ++ shape.options))) (nat_lt (length shape.places) 100) sound) in
    let all : length shape.places ≡ length front + length (name ∷ left) = ap length s.split ∙ length-append front (name ∷ left) in
    let next : length (front ++ name ∷ []) ≡ length front + 1 = length-append front (name ∷ []) in
    let here : position ≡ suc (length front) = s.here in
    let last : is_among name (names_of (acc ++ with_value name word ∷ [])) ≡ true =
    ap (is_among name) (names-append acc (with_value name word ∷ [])) ∙ among-append name (names_of acc) (name ∷ [])
    ∙ ap (λ b. is_among name (names_of acc) || (b || false)) (itself name) ∙ or-true (is_among name (names_of acc)) in
    record {
      split = s.split ∙ sym (append_assoc front (name ∷ []) left);
      here = omega arith;
      distinct = ap (λ names. are_distinct (names ++ left)) (names-append acc (with_value name word ∷ [])) ∙ ap are_distinct (append_assoc (names_of acc) (name ∷ []) left) ∙ s.distinct;
      apart = right_of _ _ s.apart;
      placed = all-append (λ n. is_among n (names_of (acc ++ with_value name word ∷ []))) front (name ∷ []) (more_placed acc (with_value name word) front s.placed) (both _ _ last refl);
    }

-- ---- what is settled

single : (b : Bool) (more : Kinds) → passes (or_else (if b && true then ArgumentConflict ∷ [] else []) more) ≡ (not b && passes more)
single true more = refl
single false more = refl

filled_in : (b : Bool) → passes (or_else (if b then [] else InvalidValue ∷ []) []) ≡ b
filled_in true = refl
filled_in false = refl

-- a place, a flag and an option may be used once, and an option's value isn't empty
place_use : (k : ℕ) (name word : Text) (acc : Line) → passes (use_fault false (place_built k name) (word ∷ []) (map row acc)) ≡ not (is_among name (names_of acc))
place_use k name word acc = single (has_row name (map row acc)) [] ∙ ap (λ b. not b && true) (rows_named name acc) ∙ and-true (not (is_among name (names_of acc)))

flag_use : (name : Text) (acc : Line) → passes (use_fault false (flag_built name) [] (map row acc)) ≡ not (is_among name (names_of acc))
flag_use name acc = single (has_row name (map row acc)) [] ∙ ap (λ b. not b && true) (rows_named name acc) ∙ and-true (not (is_among name (names_of acc)))

option_use : (name word : Text) (acc : Line)
    → passes (use_fault false (option_built name) (word ∷ []) (map row acc)) ≡ (not (is_among name (names_of acc)) && nat_lt 0 (length word))
option_use name word acc =
    single (has_row name (map row acc)) (values_fault (option_built name) (word ∷ []))
    ∙ ap₂ (λ b c. not b && c) (rows_named name acc) (filled_in (nat_lt 0 (length word)))

-- the row of a new use goes last
place_used : (k : ℕ) (name word : Text) (acc : Line) → is_among name (names_of acc) ≡ false
    → used (place_built k name) (word ∷ []) (map row acc) ≡ map row (acc ++ with_value name word ∷ [])
place_used k name word acc new = fresh_again name word (map row acc) (rows_named name acc ∙ new) ∙ sym (rows-append acc (with_value name word ∷ []))

option_used : (name word : Text) (acc : Line) → is_among name (names_of acc) ≡ false
    → used (option_built name) (word ∷ []) (map row acc) ≡ map row (acc ++ with_value name word ∷ [])
option_used name word acc new = fresh_again name word (map row acc) (rows_named name acc ∙ new) ∙ sym (rows-append acc (with_value name word ∷ []))

flag_used : (name : Text) (acc : Line) → is_among name (names_of acc) ≡ false
    → used (flag_built name) [] (map row acc) ≡ map row (acc ++ without_value name ∷ [])
flag_used name acc new = fresh_again name (codes "true") (map row acc) (rows_named name acc ∙ new) ∙ sym (rows-append acc (without_value name ∷ []))

-- ---- the end

pub no_flags : (xs flags options : List Text) → are_distinct (xs ++ (flags ++ options)) ≡ true → list_all (λ n. not (is_among n flags)) xs ≡ true
no_flags [] flags options d = refl
no_flags (x ∷ xs) flags options d =
    let none : is_among x (xs ++ (flags ++ options)) ≡ false = not_true _ (left_of _ _ d) in
    let later = neither _ _ (sym (among-append x xs (flags ++ options)) ∙ none) in
    let flag_none = neither _ _ (sym (among-append x flags options) ∙ later.1) in
    both _ _ (ap not flag_none.0) (no_flags xs flags options (right_of _ _ d))

ends_with : (shape : Shape) (acc : Line) (b : Bool) → passes (check_fault (command shape) (end_rows shape acc) false) ≡ b
    → ends shape (held (map row acc) None) ≡ (if b then Some (end_rows shape acc) else None)
ends_with shape acc b h = ap₂ (λ c d. if c && d then Some (end_rows shape acc) else None) (defaults_pass shape (map row acc)) h

-- all places have a word
ends_whole : (shape : Shape) (acc : Line) (front : List Text) (position : ℕ) → is_sound shape ≡ true → Stands shape acc front [] position
    → ends shape (held (map row acc) None) ≡ finish shape (closes acc (Some []))
ends_whole shape acc front position sound s =
    let whole : shape.places ≡ front = s.split ∙ append-nil front in
    let no_flag : list_all (λ n. not (is_among n shape.flags)) shape.places ≡ true = no_flags shape.places shape.flags shape.options (left_of _ _ sound) in
    let given = each_given shape acc front s.placed (subst (λ (names : List Text). list_all (λ n. not (is_among n shape.flags)) names ≡ true) whole no_flag) in
    let check = check_is shape (end_rows shape acc) ∙ ap (list_all (λ n. is_given n (end_rows shape acc))) whole ∙ given in
    let distinct : are_distinct (names_of acc) ≡ true = ap are_distinct (sym (append-nil (names_of acc))) ∙ s.distinct in
    ends_with shape acc true check
    ∙ sym (ap (λ line. finish shape (once_each line)) (append-nil acc) ∙ ap (λ b. finish shape (if b then Some acc else None)) distinct)

-- a place has none
ends_short : (shape : Shape) (acc : Line) (front : List Text) (name : Text) (left : List Text) (position : ℕ) → Stands shape acc front (name ∷ left) position
    → ends shape (held (map row acc) None) ≡ None
ends_short shape acc front name left position s =
    let unused : is_among name (names_of acc) ≡ false = not_before name (names_of acc) left s.distinct in
    let others : is_among name (left ++ (shape.flags ++ shape.options)) ≡ false = not_true _ (left_of _ _ s.apart) in
    let no_flag : is_among name shape.flags ≡ false =
    (neither _ _ (sym (among-append name shape.flags shape.options) ∙ (neither _ _ (sym (among-append name left (shape.flags ++ shape.options)) ∙ others)).1)).0 in
    ends_with shape acc false
    (check_is shape (end_rows shape acc) ∙ ap (list_all (λ n. is_given n (end_rows shape acc))) s.split ∙ not_each_given shape acc front name left unused no_flag)

-- ---- a positional word

-- a place that has just got its word is settled
module _ (shape : Shape) (acc : Line) (front : List Text) (name : Text) (left : List Text) (position : ℕ) (word : Text) (sound : is_sound shape ≡ true)
    (s : Stands shape acc front (name ∷ left) position) where
  new : is_among name (names_of acc) ≡ false
  new = not_before name (names_of acc) left s.distinct

  found : arg_by_id (all_built shape) name ≡ Some (place_built position name)
  found = place_by_id shape position front left name s.split
      (not_before name front left (subst (λ (names : List Text). are_distinct names ≡ true) s.split (front_distinct shape.places (shape.flags ++ shape.options) (left_of _ _ sound)))) s.here

  pub at_place : arg_by_index (all_built shape) position ≡ Some (place_built position name)
  at_place = by_index shape position front (name ∷ left) s.split s.here

  pub place_settles : passes (settles shape (map row acc) (Some (name, word ∷ []))) ≡ true
  place_settles = ap (λ o. passes (option_map_or (λ (a : Rule). use_fault false a (word ∷ []) (map row acc)) o [])) found ∙ place_use position name word acc ∙ ap not new

  pub place_settled : settled_at shape (map row acc) (Some (name, word ∷ [])) ≡ held (map row (acc ++ with_value name word ∷ [])) None
  place_settled = ap (λ o. held (used_by_id o (word ∷ []) (map row acc)) None) found ∙ ap (λ rows. held rows None) (place_used position name word acc new)

at_none : (shape : Shape) (acc : Line) (front : List Text) (position : ℕ) → Stands shape acc front [] position → arg_by_index (all_built shape) position ≡ None
at_none shape acc front position s = by_index shape position front [] s.split s.here

-- behind `--`
pub reads_behind : (shape : Shape) → is_sound shape ≡ true → (words : List Text) (acc : Line) (front left : List Text) (waiting : Waiting) (position : ℕ) → Stands shape acc front left position
    → outcome shape (behind (held (map row acc) None) waiting position) words ≡ finish shape (closes acc (placed left words))
reads_behind shape sound [] acc front [] waiting position s = ends_whole shape acc front position sound s
reads_behind shape sound [] acc front (name ∷ left) waiting position s = ends_short shape acc front name left position s
reads_behind shape sound (word ∷ words) acc front [] waiting position s =
    ap (λ b. if b then outcome shape (next_of shape (behind (held (map row acc) None) waiting position) word) words else None)
    (stray shape (map row acc) None position (at_none shape acc front position s))
reads_behind shape sound (word ∷ words) acc front (name ∷ left) waiting position s =
    let spot = at_place shape acc front name left position word sound s in
    ap₂ (λ k v. if passes k then outcome shape v words else None)
    (place_fault shape (map row acc) None position position name spot) (place_next_behind shape (map row acc) None waiting position position name word spot)
    ∙ settles_behind shape (map row acc) (Some (name, word ∷ [])) idle (step_place position) words
    ∙ ap₂ (λ b h. if b then outcome shape (behind h idle (step_place position)) words else None)
    (place_settles shape acc front name left position word sound s) (place_settled shape acc front name left position word sound s)
    ∙ reads_behind shape sound words (acc ++ with_value name word ∷ []) (front ++ name ∷ []) left idle (step_place position)
    (stands_placed shape acc front name left position word sound s)
    ∙ ap (finish shape) (closes_more acc (with_value name word) (placed left words))

-- ---- any word

-- clap's state where the value of this option comes next, or nothing is awaited
abbrev pub reading : Line → Option Text → ℕ → Walk
reading acc None position = before (held (map row acc) None) idle position
reading acc (Some name) position = before (held (map row acc) (Some (name, []))) (waits_for name) position

abbrev pub IsKnown : Shape → Option Text → Type 0
IsKnown shape None = Unit {0}
IsKnown shape (Some name) = is_among name shape.options ≡ true

-- clap and the rule agree on these words, wherever the reading stands
abbrev pub Agree : Shape → List Text → Type 0
Agree shape words = (acc : Line) (front left : List Text) (awaited : Option Text) (position : ℕ) → Stands shape acc front left position → IsKnown shape awaited
    → outcome shape (reading acc awaited position) words ≡ finish shape (closes acc (uses_of shape words left awaited))

-- a use that may be made once
once_more : (shape : Shape) (words : List Text) (acc : Line) (front left : List Text) (position : ℕ) (u : Used) (b : Bool) (w : Walk) → Agree shape words → Stands shape acc front left position
    → is_among u.name left ≡ false → b ≡ not (is_among u.name (names_of acc)) → (is_among u.name (names_of acc) ≡ false → w ≡ reading (acc ++ u ∷ []) None position)
    → (if b then outcome shape w words else None) ≡ finish shape (closes acc (first u (uses_of shape words left None)))
once_more shape words acc front left position u b w agree s free b_is next = go (is_among u.name (names_of acc)) refl
  where
    go : (c : Bool) → is_among u.name (names_of acc) ≡ c → (if b then outcome shape w words else None) ≡ finish shape (closes acc (first u (uses_of shape words left None)))
    go true e = ap (λ d. if d then outcome shape w words else None) (b_is ∙ ap not e) ∙ sym (ap (finish shape) (closes_twice acc u (uses_of shape words left None) e))
    go false e =
        ap₂ (λ d v. if d then outcome shape v words else None) (b_is ∙ ap not e) (next e)
        ∙ agree (acc ++ u ∷ []) front left None position (stands_named shape acc front left position u s e free) tt
        ∙ ap (finish shape) (closes_more acc u (uses_of shape words left None))

free_flag : (shape : Shape) (acc : Line) (front left : List Text) (position : ℕ) (name : Text) → Stands shape acc front left position → is_among name shape.flags ≡ true → is_among name left ≡ false
free_flag shape acc front left position name s h = apart_before name left (shape.flags ++ shape.options) s.apart
    (among-append name shape.flags shape.options ∙ ap (λ b. b || is_among name shape.options) h)

free_option : (shape : Shape) (acc : Line) (front left : List Text) (position : ℕ) (name : Text) → Stands shape acc front left position → is_among name shape.options ≡ true → is_among name left ≡ false
free_option shape acc front left position name s h = apart_before name left (shape.flags ++ shape.options) s.apart
    (among-append name shape.flags shape.options ∙ ap (λ b. is_among name shape.flags || b) h ∙ or-true (is_among name shape.flags))

-- an option of a sound shape is found by its name
found_option : (shape : Shape) (name : Text) → is_sound shape ≡ true → is_among name shape.options ≡ true → arg_by_id (all_built shape) name ≡ Some (option_built name)
found_option shape name sound h =
    let distinct : are_distinct (shape.places ++ (shape.flags ++ shape.options)) ≡ true = left_of _ _ sound in
    let among : is_among name (shape.flags ++ shape.options) ≡ true =
    among-append name shape.flags shape.options ∙ ap (λ b. is_among name shape.flags || b) h ∙ or-true (is_among name shape.flags) in
    option_by_id shape name (apart_before name shape.places (shape.flags ++ shape.options) distinct among)
    (apart_before name shape.flags shape.options (back_distinct shape.places (shape.flags ++ shape.options) distinct) h) h

read_place : (shape : Shape) → is_sound shape ≡ true → (word : Text) (words : List Text) → list_all is_utf8 words ≡ true → Agree shape words
    → (acc : Line) (front left : List Text) (position : ℕ) → Stands shape acc front left position → Places shape (held (map row acc) None) idle position word
    → outcome shape (reading acc None position) (word ∷ words) ≡ finish shape (closes acc (place_first left word (λ names. uses_of shape words names None)))
read_place shape sound word words us agree acc front [] position s t =
    ap (λ b. if b then outcome shape (next_of shape (reading acc None position) word) words else None)
    (ap passes t.fault ∙ stray shape (map row acc) None position (at_none shape acc front position s))
read_place shape sound word words us agree acc front (name ∷ left) position s t =
    let spot = at_place shape acc front name left position word sound s in
    ap₂ (λ k v. if passes k then outcome shape v words else None)
    (t.fault ∙ place_fault shape (map row acc) None position position name spot) (t.next ∙ place_next shape (map row acc) None idle position position name word spot)
    ∙ settles_before shape (map row acc) (Some (name, word ∷ [])) (step_place position) words us
    ∙ ap₂ (λ b h. if b then outcome shape (before h idle (step_place position)) words else None)
    (place_settles shape acc front name left position word sound s) (place_settled shape acc front name left position word sound s)
    ∙ agree (acc ++ with_value name word ∷ []) (front ++ name ∷ []) left None (step_place position) (stands_placed shape acc front name left position word sound s) tt
    ∙ ap (finish shape) (closes_more acc (with_value name word) (uses_of shape words left None))

-- a word where no value is awaited
read_word : (shape : Shape) → is_sound shape ≡ true → (word : Text) (words : List Text) → is_utf8 word ≡ true → list_all is_utf8 words ≡ true → Agree shape words
    → (acc : Line) (front left : List Text) (position : ℕ) → Stands shape acc front left position
    → outcome shape (reading acc None position) (word ∷ words) ≡ finish shape (closes acc (uses_of shape (word ∷ words) left None))
read_word shape sound word words u us agree acc front left position s = go (kind_of shape word) (turn shape (map row acc) None idle position word u)
  where
    go : (kind : Kind) → TurnIs shape (held (map row acc) None) idle position word kind
        → outcome shape (reading acc None position) (word ∷ words) ≡ finish shape (closes acc (kind_first kind word words left (uses_of shape words)))
    go dashes t = ap₂ (λ k v. if passes k then outcome shape v words else None) t.fault t.next ∙ reads_behind shape sound words acc front left idle position s
    go place t = read_place shape sound word words us agree acc front left position s t
    go (flag name) t = ap₂ (λ k v. if passes k then outcome shape v words else None) t.fault t.next
        ∙ once_more shape words acc front left position (without_value name) (passes (use_fault false (flag_built name) [] (map row acc))) _ agree s
        (free_flag shape acc front left position name s t.known) (flag_use name acc) (λ new. ap (λ rows. before (held rows None) idle position) (flag_used name acc new))
    go (option name) t = ap₂ (λ k v. if passes k then outcome shape v words else None) t.fault t.next ∙ agree acc front left (Some name) position s t.known
    go (valued name v) t = ap₂ (λ k w. if passes k then outcome shape w words else None) t.fault t.next
        ∙ once_more shape words acc front left position (with_value name v) (passes (use_fault false (option_built name) (v ∷ []) (map row acc))) _ agree s
        (free_option shape acc front left position name s t.known)
        (option_use name v acc ∙ ap (λ b. not (is_among name (names_of acc)) && b) t.filled ∙ and-true (not (is_among name (names_of acc))))
        (λ new. ap (λ rows. before (held rows None) idle position) (option_used name v acc new))
    go unknown t = ap (λ b. if b then outcome shape (next_of shape (reading acc None position) word) words else None) t.fault

-- ---- the value of an option

module _ (shape : Shape) (sound : is_sound shape ≡ true) (name : Text) (known : is_among name shape.options ≡ true) (acc : Line) where
  -- an option that still lacks its value is refused
  lacking : passes (settles shape (map row acc) (Some (name, []))) ≡ false
  lacking = ap (λ o. passes (option_map_or (λ (a : Rule). use_fault false a [] (map row acc)) o [])) (found_option shape name sound known)

  lacking_first : (turn rest : Kinds) → turn ≡ or_else (settles shape (map row acc) (Some (name, []))) rest → passes turn ≡ false
  lacking_first turn rest e = ap passes e ∙ fails-first (settles shape (map row acc) (Some (name, []))) rest lacking

  -- a word that begins with a dash is no value
  dashed_refused : (word : Text) (words : List Text) (position : ℕ) → is_utf8 word ≡ true → is_dashed word ≡ true → outcome shape (reading acc (Some name) position) (word ∷ words) ≡ None
  dashed_refused word words position u d = go (kind_of shape word) (turn shape (map row acc) (Some (name, [])) (waits_for name) position word u)
    where
      none : passes (turn_of shape (reading acc (Some name) position) word) ≡ false → outcome shape (reading acc (Some name) position) (word ∷ words) ≡ None
      none f = ap (λ b. if b then outcome shape (next_of shape (reading acc (Some name) position) word) words else None) f

      go : (kind : Kind) → TurnIs shape (held (map row acc) (Some (name, []))) (waits_for name) position word kind → outcome shape (reading acc (Some name) position) (word ∷ words) ≡ None
      go dashes t = ap₂ (λ k v. if passes k then outcome shape v words else None) t.fault t.next
          ∙ settles_behind shape (map row acc) (Some (name, [])) (waits_for name) position words
          ∙ ap (λ b. if b then outcome shape (behind (settled_at shape (map row acc) (Some (name, []))) (waits_for name) position) words else None) lacking
      go place t = let bad : true ≡ false = sym d ∙ t.plain in cc
      go (flag n) t = none (lacking_first _ _ t.fault)
      go (option n) t = none (ap passes t.fault ∙ lacking)
      go (valued n v) t = none (lacking_first _ _ t.fault)
      go unknown t = none t.fault

  -- any other word is the value
  value_waits : (word : Text) (position : ℕ) → is_dashed word ≡ false
      → next_of shape (reading acc (Some name) position) word ≡ before (held (map row acc) (Some (name, word ∷ []))) idle position
  value_waits word position p =
      let h : Held = held (map row acc) (Some (name, [])) in
      (on_plain shape (map row acc) (Some (name, [])) (waits_for name) position word p).next
      ∙ ap (λ o. before (option_word o name word h).0 (option_word o name word h).1 position) (found_option shape name sound known)
      ∙ ap (λ b. before (held (map row acc) (Some (name, word ∷ []))) (if nat_lt (if b then 1 else 0) 1 then waits_for name else idle) position) (itself name)

  value_passes : (word : Text) (position : ℕ) → is_dashed word ≡ false → turn_of shape (reading acc (Some name) position) word ≡ []
  value_passes word position p = (on_plain shape (map row acc) (Some (name, [])) (waits_for name) position word p).fault

  value_settles : (word : Text) → passes (settles shape (map row acc) (Some (name, word ∷ []))) ≡ (not (is_among name (names_of acc)) && nat_lt 0 (length word))
  value_settles word = ap (λ o. passes (option_map_or (λ (a : Rule). use_fault false a (word ∷ []) (map row acc)) o [])) (found_option shape name sound known) ∙ option_use name word acc

  value_settled : (word : Text) → is_among name (names_of acc) ≡ false → settled_at shape (map row acc) (Some (name, word ∷ [])) ≡ held (map row (acc ++ with_value name word ∷ [])) None
  value_settled word new = ap (λ o. held (used_by_id o (word ∷ []) (map row acc)) None) (found_option shape name sound known) ∙ ap (λ rows. held rows None) (option_used name word acc new)

  read_value : (word : Text) (words : List Text) → is_utf8 word ≡ true → list_all is_utf8 words ≡ true → Agree shape words
      → (front left : List Text) (position : ℕ) → Stands shape acc front left position
      → outcome shape (reading acc (Some name) position) (word ∷ words) ≡ finish shape (closes acc (uses_of shape (word ∷ words) left (Some name)))
  read_value word words u us agree front left position s = go (is_dashed word) (nat_lt 0 (length word)) refl refl
    where
      begun : is_dashed word ≡ false → outcome shape (reading acc (Some name) position) (word ∷ words)
          ≡ (if passes (settles shape (map row acc) (Some (name, word ∷ []))) then outcome shape (before (settled_at shape (map row acc) (Some (name, word ∷ []))) idle position) words else None)
      begun e = ap₂ (λ k v. if passes k then outcome shape v words else None) (value_passes word position e) (value_waits word position e)
          ∙ settles_before shape (map row acc) (Some (name, word ∷ [])) position words us

      go : (d n : Bool) → is_dashed word ≡ d → nat_lt 0 (length word) ≡ n → outcome shape (reading acc (Some name) position) (word ∷ words)
          ≡ finish shape (closes acc (if not (is_dashed word) && nat_lt 0 (length word) then first (with_value name word) (uses_of shape words left None) else None))
      go true n e f = dashed_refused word words position u e
          ∙ sym (ap (λ d. finish shape (closes acc (if not d && nat_lt 0 (length word) then first (with_value name word) (uses_of shape words left None) else None))) e)
      go false true e f = begun e
          ∙ once_more shape words acc front left position (with_value name word) (passes (settles shape (map row acc) (Some (name, word ∷ [])))) _ agree s
          (free_option shape acc front left position name s known)
          (value_settles word ∙ ap (λ b. not (is_among name (names_of acc)) && b) f ∙ and-true (not (is_among name (names_of acc))))
          (λ new. ap (λ h. before h idle position) (value_settled word new))
          ∙ sym (ap₂ (λ d n. finish shape (closes acc (if not d && n then first (with_value name word) (uses_of shape words left None) else None))) e f)
      go false false e f = begun e
          ∙ ap (λ b. if b then outcome shape (before (settled_at shape (map row acc) (Some (name, word ∷ []))) idle position) words else None)
          (value_settles word ∙ ap (λ b. not (is_among name (names_of acc)) && b) f ∙ and-false (not (is_among name (names_of acc))))
          ∙ sym (ap₂ (λ d n. finish shape (closes acc (if not d && n then first (with_value name word) (uses_of shape words left None) else None))) e f)

-- ---- all words

fails_at_end : (b c : Bool) (rows : List Row) → b ≡ false → (if b && c then Some rows else None) ≡ None
fails_at_end b c rows h = ap (λ d. if d && c then Some rows else None) h

pub agree : (shape : Shape) → is_sound shape ≡ true → (words : List Text) → list_all is_utf8 words ≡ true → Agree shape words
agree shape sound [] u acc front [] None position s known = ends_whole shape acc front position sound s
agree shape sound [] u acc front (name ∷ left) None position s known = ends_short shape acc front name left position s
agree shape sound [] u acc front [] (Some option_name) position s known =
    fails_at_end _ _ _ (lacking shape sound option_name known acc)
agree shape sound [] u acc front (name ∷ left) (Some option_name) position s known =
    fails_at_end _ _ _ (lacking shape sound option_name known acc)
agree shape sound (word ∷ words) u acc front left None position s known =
    read_word shape sound word words (left_of _ _ u) (right_of _ _ u) (agree shape sound words (right_of _ _ u)) acc front left position s
agree shape sound (word ∷ words) u acc front left (Some name) position s known =
    read_value shape sound name known acc word words (left_of _ _ u) (right_of _ _ u) (agree shape sound words (right_of _ _ u)) front left position s
