-- What clap makes of one word.
use Rattle.std.proofs.Common.{◌≡◌, ◌∙◌, ◌&&◌, ◌==◌, ap, ap₂, subst, refl, sym, ℕ, Bool, true, false, List, [], ◌∷◌, length, Option, Some, None, arith, eqb-true}
use Rattle.std.specs.Prelude.{option_and_then, if◌then◌else◌, nat_lt}
use Rattle.std.specs.Option.{option_map_or}
use Rattle.std.specs.Str.{bytes_eq}
use Rattle.std.specs.Str.{chars, encode_utf8_all, is_utf8}
use Rattle.std.specs.Prelude.{drop, encode_utf8, slice_get}
use Rattle.std.proofs.Math.Bool.{and-false}
use Rattle.std.proofs.lemmas.Bool.{lt-ltb}
use Rattle.std.specs.List.{before_first}
use Rattle.std.proofs.lemmas.Str.{IsUtf8-from_is_utf8, encodes-chars}
use Rattle.clap.specs.Lexer.{long_of, long_of_rest, short_of, short_of_rest, strip_byte}
use Rattle.clap.specs.Walk.{Text, Rule, Row, Held, Walk, Step, Waiting, idle, option as waits_for, positional, arg_by_long, long_or_other, plain_word, reacted, settled, subcommand_met, walked, trailing, after_flag, long_met, after_step, subcommand_or_other, short_or_plain}
use Rattle.clap.specs.Simple.{Shape as CommandShape}
use Rattle.clap.specs.Kinds.{Kinds, or_else}
use Rattle.clap.specs.Faults.{turn_fault, settle_fault, react_fault, bundle_fault, other_fault, repeat_fault, use_fault, values_fault, long_fault, bundle_step_fault, flags_fault, short_fault, flag_word_fault, step_fault}
use Rattle.clap.proofs.OnLiterals.{clap_on_literals}
use Rattle.spiel_words.specs.Line.{Shape, Kind, dashes, flag, flag_kind, is_among, is_dashed, is_equals, value_in, kind_of, named_kind, option, option_kind, place, unknown, valued}
use Rattle.spiel_words.proofs.Lookups.{by_long, by_short}
use Rattle.spiel_words.proofs.Built.{all_built, flag_built, option_built, top_of}

-- the command that clap has built, with its rules written out
abbrev pub command : Shape → CommandShape
command shape = record (top_of shape) { rules = all_built shape }

-- no kind of error
abbrev pub passes : Kinds → Bool
passes [] = true
passes (kind ∷ kinds) = false

pub passes-or_else : (a b : Kinds) → passes (or_else a b) ≡ (passes a && passes b)
passes-or_else [] b = refl
passes-or_else (k ∷ ks) b = refl

pub fails-first : (a b : Kinds) → passes a ≡ false → passes (or_else a b) ≡ false
fails-first [] b h = let bad : true ≡ false = h in cc
fails-first (k ∷ ks) b h = refl

pub fails-behind : (a b : Kinds) → passes b ≡ false → passes (or_else a b) ≡ false
fails-behind [] b h = h
fails-behind (k ∷ ks) b h = refl

some_byte : (x : ℕ) (xs : List ℕ) → nat_lt 0 (length (x ∷ xs)) ≡ true
some_byte x xs = lt-ltb 0 (length (x ∷ xs)) (omega arith)

-- an option's value may not be empty
pub refused_empty : (name : Text) (rows : List Row) → passes (use_fault false (option_built name) ([] ∷ []) rows) ≡ false
refused_empty name rows = fails-behind (repeat_fault false name rows) (values_fault (option_built name) ([] ∷ [])) refl

abbrev pub held : List Row → Option (Text × List Text) → Held
held rows pending = record { rows = rows; pending = pending; skip = 0 }

abbrev pub before : Held → Waiting → ℕ → Walk
before h waiting position = record { held = h; waiting = waiting; position = position; is_trailing = false; stopped = None }

abbrev pub behind : Held → Waiting → ℕ → Walk
behind h waiting position = record { held = h; waiting = waiting; position = position; is_trailing = true; stopped = None }

-- ---- what a plain word looks like to clap

long-plain : (w : Text) → is_dashed w ≡ false → long_of w ≡ None
long-plain [] p = refl
long-plain (x ∷ []) p = one (x == 45)
  where
    one : (b : Bool) → option_and_then long_of_rest (option_and_then (strip_byte 45) (if b then Some [] else None)) ≡ None
    one true = refl
    one false = refl
long-plain (x ∷ y ∷ ys) p = ap (λ b. option_and_then long_of_rest (option_and_then (strip_byte 45) (if b then Some (y ∷ ys) else None))) p

short-plain : (w : Text) → is_dashed w ≡ false → short_of w ≡ None
short-plain [] p = refl
short-plain (x ∷ []) p = one (x == 45)
  where
    one : (b : Bool) → option_and_then short_of_rest (if b then Some [] else None) ≡ None
    one true = refl
    one false = refl
short-plain (x ∷ y ∷ ys) p = ap (λ b. option_and_then short_of_rest (if b then Some (y ∷ ys) else None)) p

dashes-plain : (w : Text) → is_dashed w ≡ false → bytes_eq w (45 ∷ 45 ∷ []) ≡ false
dashes-plain [] p = refl
dashes-plain (x ∷ []) p = and-false (x == 45)
dashes-plain (x ∷ y ∷ ys) p = ap (λ b. b && bytes_eq (y ∷ ys) (45 ∷ [])) p

-- letters behind one dash are refused, since nothing has a short name
bundle_fails : (shape : Shape) (rows : List Row) (pending : Option (Text × List Text)) (x : ℕ) (xs : Text) (c : ℕ) → slice_get (chars (x ∷ xs)) 0 ≡ Some c
    → passes (bundle_fault (all_built shape) false (x ∷ xs) (held rows pending)) ≡ false
unfolding flags_fault
bundle_fails shape rows pending x xs c first =
    let rules : List Rule = all_built shape in
    let h : Held = held rows pending in
    let rest : Text = drop (length (encode_utf8 c)) (x ∷ xs) in
    ap (λ o. passes (bundle_step_fault rules false o (x ∷ xs) 0 h (flags_fault rules false (length xs)))) first
    ∙ ap (λ o. passes (short_fault rules false o rest h (flags_fault rules false (length xs) rest 0))) (by_short shape c)

no_subcommand : (waiting : Waiting) (word : Text) → subcommand_met [] waiting word ≡ None
no_subcommand idle word = refl
no_subcommand (waits_for id) word = refl
no_subcommand positional word = refl

-- the turn, by whether the word is `--` and by its long name
abbrev met_by : Shape → Held → Waiting → ℕ → Text → Bool → Option (Text × Option Text) → Held × Step
met_by shape h waiting position word is_dashes long =
    if is_dashes then (h, trailing position) else long_or_other (all_built shape) waiting word long h

abbrev fault_by : Shape → Held → Waiting → ℕ → Text → Bool → Option (Text × Option Text) → Kinds
fault_by shape h waiting position word is_dashes long = or_else (if is_dashes then [] else flag_word_fault (all_built shape) false long word h)
    (step_fault (command shape) position (met_by shape h waiting position word is_dashes long).0 (met_by shape h waiting position word is_dashes long).1)

abbrev next_by : Shape → Held → Waiting → ℕ → Text → Bool → Option (Text × Option Text) → Walk
next_by shape h waiting position word is_dashes long = after_step (all_built shape) word (before h waiting position)
    (met_by shape h waiting position word is_dashes long).0 (met_by shape h waiting position word is_dashes long).1

abbrev pub turn_of : Shape → Walk → Text → Kinds
turn_of shape w word = turn_fault (command shape) [] w word

abbrev pub next_of : Shape → Walk → Text → Walk
next_of shape w word = walked (all_built shape) [] w word

pub record Dashes (shape : Shape) (h : Held) (waiting : Waiting) (position : ℕ) (word : Text) : Type 0 where
  pub fault : turn_of shape (before h waiting position) word ≡ []
  pub next : next_of shape (before h waiting position) word ≡ behind h waiting position

pub record Flags (shape : Shape) (h : Held) (waiting : Waiting) (position : ℕ) (word name : Text) : Type 0 where
  pub known : is_among name shape.flags ≡ true
  pub fault : turn_of shape (before h waiting position) word ≡ react_fault (all_built shape) false (flag_built name) [] h
  pub next : next_of shape (before h waiting position) word ≡ before (reacted (all_built shape) (flag_built name) [] h) idle position

pub record Options (shape : Shape) (h : Held) (waiting : Waiting) (position : ℕ) (word name : Text) : Type 0 where
  pub known : is_among name shape.options ≡ true
  pub fault : turn_of shape (before h waiting position) word ≡ settle_fault (all_built shape) false h
  pub next : next_of shape (before h waiting position) word ≡ before (record (settled (all_built shape) h) { pending = Some (name, []) }) (waits_for name) position

pub record Valued (shape : Shape) (h : Held) (waiting : Waiting) (position : ℕ) (word name v : Text) : Type 0 where
  pub known : is_among name shape.options ≡ true
  pub filled : nat_lt 0 (length v) ≡ true
  pub fault : turn_of shape (before h waiting position) word ≡ react_fault (all_built shape) false (option_built name) (v ∷ []) h
  pub next : next_of shape (before h waiting position) word ≡ before (reacted (all_built shape) (option_built name) (v ∷ []) h) idle position

pub record Places (shape : Shape) (h : Held) (waiting : Waiting) (position : ℕ) (word : Text) : Type 0 where
  pub plain : is_dashed word ≡ false
  pub fault : turn_of shape (before h waiting position) word ≡ step_fault (command shape) position (plain_word (all_built shape) waiting word h).0 (plain_word (all_built shape) waiting word h).1
  pub next : next_of shape (before h waiting position) word
      ≡ after_step (all_built shape) word (before h waiting position) (plain_word (all_built shape) waiting word h).0 (plain_word (all_built shape) waiting word h).1

pub record Unknowns (shape : Shape) (h : Held) (waiting : Waiting) (position : ℕ) (word : Text) : Type 0 where
  pub fault : passes (turn_of shape (before h waiting position) word) ≡ false

-- what clap makes of a word of this kind: the errors of its turn, and where clap stands after it
abbrev pub TurnIs : Shape → Held → Waiting → ℕ → Text → Kind → Type 0
TurnIs shape h waiting position word dashes = Dashes shape h waiting position word
TurnIs shape h waiting position word place = Places shape h waiting position word
TurnIs shape h waiting position word (flag name) = Flags shape h waiting position word name
TurnIs shape h waiting position word (option name) = Options shape h waiting position word name
TurnIs shape h waiting position word (valued name v) = Valued shape h waiting position word name v
TurnIs shape h waiting position word unknown = Unknowns shape h waiting position word

or_else-nil : (ks : Kinds) → or_else ks [] ≡ ks
or_else-nil [] = refl
or_else-nil (k ∷ ks) = refl

module _ (shape : Shape) (rows : List Row) (pending : Option (Text × List Text)) (waiting : Waiting) (position : ℕ) (word : Text) where
  abbrev h : Held
  h = held rows pending

  abbrev rules : List Rule
  rules = all_built shape

  abbrev Turn : Kind → Type 0
  Turn kind = TurnIs shape h waiting position word kind

  fault-is : turn_of shape (before h waiting position) word ≡ fault_by shape h waiting position word (bytes_eq word (45 ∷ 45 ∷ [])) (long_of word)
  fault-is = ap (λ o. or_else (other_fault (command shape) o word h)
      (step_fault (command shape) position (subcommand_or_other rules o waiting position word h).0
      (subcommand_or_other rules o waiting position word h).1)) (no_subcommand waiting word)

  next-is : next_of shape (before h waiting position) word ≡ next_by shape h waiting position word (bytes_eq word (45 ∷ 45 ∷ [])) (long_of word)
  unfolding clap_on_literals
  next-is = ap (λ o. after_step rules word (before h waiting position)
      (subcommand_or_other rules o waiting position word h).0
      (subcommand_or_other rules o waiting position word h).1) (no_subcommand waiting word)

  fault-at : (is_dashes : Bool) (long : Option (Text × Option Text)) → bytes_eq word (45 ∷ 45 ∷ []) ≡ is_dashes → long_of word ≡ long
      → turn_of shape (before h waiting position) word ≡ fault_by shape h waiting position word is_dashes long
  fault-at is_dashes long d l = fault-is ∙ ap₂ (λ b o. fault_by shape h waiting position word b o) d l

  next-at : (is_dashes : Bool) (long : Option (Text × Option Text)) → bytes_eq word (45 ∷ 45 ∷ []) ≡ is_dashes → long_of word ≡ long
      → next_of shape (before h waiting position) word ≡ next_by shape h waiting position word is_dashes long
  next-at is_dashes long d l = next-is ∙ ap₂ (λ b o. next_by shape h waiting position word b o) d l

  on_dashes : bytes_eq word (45 ∷ 45 ∷ []) ≡ true → Turn dashes
  on_dashes d = record { fault = fault-at true (long_of word) d refl; next = next-at true (long_of word) d refl }

  -- `--name` and `--name=value`, by the rule that the name finds
  abbrev long_by : Option Text → Option Rule → Held × Step
  long_by v found = after_flag rules waiting word (long_met rules found v h).0 (long_met rules found v h).1

  abbrev long_fault_by : Option Text → Option Rule → Kinds
  long_fault_by v found = or_else (long_fault rules false found v h) (step_fault (command shape) position (long_by v found).0 (long_by v found).1)

  module _ (name : Text) (v : Option Text) (d : bytes_eq word (45 ∷ 45 ∷ []) ≡ false) (l : long_of word ≡ Some (name, v)) where
    fault-long : (found : Option Rule) → arg_by_long rules name ≡ found → turn_of shape (before h waiting position) word ≡ long_fault_by v found
    fault-long found e = fault-at false (Some (name, v)) d l ∙ ap (long_fault_by v) e

    next-long : (found : Option Rule) → arg_by_long rules name ≡ found
        → next_of shape (before h waiting position) word ≡ after_step rules word (before h waiting position) (long_by v found).0 (long_by v found).1
    next-long found e = next-at false (Some (name, v)) d l ∙ ap (λ o. after_step rules word (before h waiting position) (long_by v o).0 (long_by v o).1) e

  on_flag : (name : Text) (v : Option Text) → bytes_eq word (45 ∷ 45 ∷ []) ≡ false → long_of word ≡ Some (name, v)
      → is_among name shape.flags ≡ true → arg_by_long rules name ≡ Some (flag_built name) → Turn (flag_kind name v)
  on_flag name None d l known found = record {
    known = known;
    fault = fault-long name None d l _ found ∙ or_else-nil _;
    next = next-long name None d l _ found;
  }
  on_flag name (Some v) d l known found = record { fault = ap passes (fault-long name (Some v) d l _ found) }

  on_option : (name : Text) (v : Option Text) → bytes_eq word (45 ∷ 45 ∷ []) ≡ false → long_of word ≡ Some (name, v)
      → is_among name shape.options ≡ true → arg_by_long rules name ≡ Some (option_built name) → Turn (option_kind name v)
  on_option name None d l known found = record {
    known = known;
    fault = fault-long name None d l _ found ∙ or_else-nil _;
    next = next-long name None d l _ found;
  }
  on_option name (Some []) d l known found = record {
    fault = ap passes (fault-long name (Some []) d l _ found)
        ∙ fails-first _ [] (fails-behind (settle_fault rules false h) _ (refused_empty name (settled rules h).rows));
  }
  on_option name (Some (x ∷ xs)) d l known found = record {
    known = known;
    filled = some_byte x xs;
    fault = fault-long name (Some (x ∷ xs)) d l _ found ∙ or_else-nil _;
    next = next-long name (Some (x ∷ xs)) d l _ found;
  }

  on_name : (name : Text) (v : Option Text) → bytes_eq word (45 ∷ 45 ∷ []) ≡ false → long_of word ≡ Some (name, v) → Turn (named_kind shape (Some (name, v)))
  on_name name v d l = go (is_among name shape.flags) (is_among name shape.options) refl refl (by_long shape name)
    where
      go : (f o : Bool) → is_among name shape.flags ≡ f → is_among name shape.options ≡ o
          → arg_by_long rules name ≡ (if is_among name shape.flags then Some (flag_built name) else (if is_among name shape.options then Some (option_built name) else None))
          → Turn (if f then flag_kind name v else (if o then option_kind name v else unknown))
      go true o f_is o_is found = on_flag name v d l f_is (found ∙ ap (λ b. if b then Some (flag_built name) else (if is_among name shape.options then Some (option_built name) else None)) f_is)
      go false true f_is o_is found = on_option name v d l o_is
          (found ∙ ap₂ (λ b c. if b then Some (flag_built name) else (if c then Some (option_built name) else None)) f_is o_is)
      go false false f_is o_is found =
          let none : arg_by_long rules name ≡ None = found ∙ ap₂ (λ b c. if b then Some (flag_built name) else (if c then Some (option_built name) else None)) f_is o_is in
          record { fault = ap passes (fault-long name v d l None none) }

  -- a word that isn't `--name`, by what is behind its one dash
  abbrev short_met_by : Option Text → Held × Step
  short_met_by flags = short_or_plain rules waiting word flags h

  abbrev short_fault_by : Option Text → Kinds
  short_fault_by flags = or_else (option_map_or (λ f. bundle_fault rules false f h) flags [])
      (step_fault (command shape) position (short_met_by flags).0 (short_met_by flags).1)

  -- a word with one dash is unknown, since nothing has a short name
  on_short : (x : ℕ) (xs : Text) → bytes_eq word (45 ∷ 45 ∷ []) ≡ false → long_of word ≡ None → short_of word ≡ Some (x ∷ xs)
      → (c : ℕ) → slice_get (chars (x ∷ xs)) 0 ≡ Some c → Turn unknown
  on_short x xs d l s c first = record {
    fault = ap passes (fault-at false None d l ∙ ap short_fault_by s)
        ∙ fails-first _ (step_fault (command shape) position (short_met_by (Some (x ∷ xs))).0 (short_met_by (Some (x ∷ xs))).1) (bundle_fails shape rows pending x xs c first);
  }

  pub on_plain : is_dashed word ≡ false → Turn place
  on_plain p = record {
    plain = p;
    fault = fault-at false None (dashes-plain word p) (long-plain word p) ∙ ap short_fault_by (short-plain word p);
    next = next-at false None (dashes-plain word p) (long-plain word p)
        ∙ ap (λ o. after_step rules word (before h waiting position) (short_met_by o).0 (short_met_by o).1) (short-plain word p);
  }

-- ---- each word has its turn

-- behind an ASCII byte another character begins
first_char : (y : ℕ) (text : Text) → is_utf8 (45 ∷ y ∷ text) ≡ true → (c : ℕ) × (slice_get (chars (y ∷ text)) 0 ≡ Some c)
unfolding clap_on_literals
first_char y text u = go (chars (y ∷ text)) (encodes-chars (45 ∷ y ∷ text) (IsUtf8-from_is_utf8 (45 ∷ y ∷ text) u))
  where
    go : (cs : List ℕ) → encode_utf8_all (45 ∷ cs) ≡ 45 ∷ y ∷ text → (c : ℕ) × (slice_get cs 0 ≡ Some c)
    go [] e = let e' : 45 ∷ [] ≡ 45 ∷ y ∷ text = e in let bad : [] ≡ y ∷ text = cc in absurd (cc)
    go (c ∷ cs) e = (c, refl)

abbrev kind_by : Shape → Bool → Bool → Text → Kind
kind_by shape bx by text =
    if bx && (by && bytes_eq text []) then dashes
    else if bx then named_kind shape (if by then Some (before_first is_equals text, value_in text) else None)
    else place

pub turn : (shape : Shape) (rows : List Row) (pending : Option (Text × List Text)) (waiting : Waiting) (position : ℕ) (word : Text) → is_utf8 word ≡ true
    → TurnIs shape (held rows pending) waiting position word (kind_of shape word)
turn shape rows pending waiting position [] u = on_plain shape rows pending waiting position [] refl
turn shape rows pending waiting position (x ∷ []) u =
    subst (λ (k : Kind). TurnIs shape (held rows pending) waiting position (x ∷ []) k) (ap (λ b. if b then dashes else place) (sym (and-false (x == 45))))
    (on_plain shape rows pending waiting position (x ∷ []) refl)
turn shape rows pending waiting position (x ∷ y ∷ text) u = go (x == 45) (y == 45) text refl refl u
  where
    go : (bx by : Bool) (t : Text) → (x == 45) ≡ bx → (y == 45) ≡ by → is_utf8 (x ∷ y ∷ t) ≡ true
        → TurnIs shape (held rows pending) waiting position (x ∷ y ∷ t) (kind_by shape bx by t)
    go false by t ex ey u = on_plain shape rows pending waiting position (x ∷ y ∷ t) ex
    go true true [] ex ey u = on_dashes shape rows pending waiting position (x ∷ y ∷ []) (ap₂ (λ b c. b && (c && true)) ex ey)
    go true true (z ∷ t) ex ey u = on_name shape rows pending waiting position (x ∷ y ∷ z ∷ t) (before_first is_equals (z ∷ t)) (value_in (z ∷ t))
        (ap₂ (λ b c. b && (c && false)) ex ey)
        (ap (λ b. option_and_then long_of_rest (option_and_then (strip_byte 45) (if b then Some (y ∷ z ∷ t) else None))) ex
        ∙ ap (λ c. option_and_then long_of_rest (if c then Some (z ∷ t) else None)) ey)
    go true false t ex ey u =
        let dash : x ≡ 45 = eqb-true x 45 ex in
        let first = first_char y t (subst (λ (k : ℕ). is_utf8 (k ∷ y ∷ t) ≡ true) dash u) in
        on_short shape rows pending waiting position (x ∷ y ∷ t) y t
        (ap₂ (λ b c. b && (c && bytes_eq t [])) ex ey)
        (ap (λ b. option_and_then long_of_rest (option_and_then (strip_byte 45) (if b then Some (y ∷ t) else None))) ex
        ∙ ap (λ c. option_and_then long_of_rest (if c then Some t else None)) ey)
        (ap (λ b. option_and_then short_of_rest (if b then Some (y ∷ t) else None)) ex ∙ ap (λ c. if c then None else Some (y ∷ t)) ey)
        first.0 first.1
