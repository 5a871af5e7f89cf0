-- A parse from one of its states on: the rows at its end, where it has no error. What waits to be
-- settled may as well be settled at once.
use Rattle.std.proofs.Common.{◌≡◌, ◌∙◌, ◌&&◌, ◌⊎◌, inl, inr, ap, ap₂, refl, sym, ℕ, ◌+◌, min, Bool, true, false, List, [], ◌∷◌, Option, Some, None}
use Rattle.std.specs.Prelude.{if◌then◌else◌}
use Rattle.std.specs.List.{list_all}
use Rattle.std.specs.Option.{option_map_or}
use Rattle.std.specs.Str.{is_utf8}
use Rattle.std.proofs.Math.Bool.{and-false}
use Rattle.clap.specs.Lexer.{usize_max}
use Rattle.clap.specs.Walk.{Text, Row, Rule, Held, Walk, Waiting, idle, arg_by_index, finished, is_pending, pushed, settled, settled_rows, to_positional, value}
use Rattle.clap.specs.Kinds.{Kinds, or_else}
use Rattle.clap.specs.Faults.{check_fault, defaults_fault, positional_fault, settle_fault, step_fault, use_fault}
use Rattle.clap.specs.declared.error.kind.ErrorKind.TheVariants.{UnknownArgument}
use Rattle.clap.proofs.OnLiterals.{clap_on_literals}
use Rattle.spiel_words.specs.Line.{Shape, Kind, dashes, flag, kind_of, option, place, unknown, valued}
use Rattle.spiel_words.proofs.Built.{all_built, flag_built, option_built, place_built}
use Rattle.spiel_words.proofs.Lookups.{at_any_index}
use Rattle.spiel_words.proofs.Names.{left_of}
use Rattle.spiel_words.proofs.Turns.{Places, TurnIs, before, behind, command, held, next_of, passes, passes-or_else, turn, turn_of}

abbrev pub ends : Shape → Held → Option (List Row)
ends shape h =
    if passes (settle_fault (all_built shape) false h)
    && (passes (defaults_fault (settled (all_built shape) h).rows (all_built shape)) && passes (check_fault (command shape) (finished (all_built shape) h) false))
    then Some (finished (all_built shape) h) else None

abbrev pub outcome : Shape → Walk → List Text → Option (List Row)
outcome shape w [] = ends shape w.held
outcome shape w (word ∷ words) = if passes (turn_of shape w word) then outcome shape (next_of shape w word) words else None

-- ---- a word that goes to a place

abbrev pub step_place : ℕ → ℕ
step_place position = min (position + 1) usize_max

same_either : {X : Type 0} (b : Bool) (x : X) → (if b then x else x) ≡ x
same_either true x = refl
same_either false x = refl

-- the state after the word went to the place of this name
abbrev pub filled : Shape → List Row → Option (Text × List Text) → Text → Text → Held
filled shape rows pending name word = held (settled_rows (all_built shape) pending rows) (Some (name, word ∷ []))

pub place_fault : (shape : Shape) (rows : List Row) (pending : Option (Text × List Text)) (position k : ℕ) (name : Text)
    → arg_by_index (all_built shape) position ≡ Some (place_built k name)
    → step_fault (command shape) position (held rows pending) value ≡ settle_fault (all_built shape) false (held rows pending)
place_fault shape rows pending position k name found =
    let h : Held = held rows pending in
    ap (λ o. option_map_or (λ (a : Rule). positional_fault (all_built shape) false a h) o (UnknownArgument ∷ [])) found
    ∙ ap (λ b. if b then [] else settle_fault (all_built shape) false h) (and-false (is_pending (place_built k name) pending))

pub stray : (shape : Shape) (rows : List Row) (pending : Option (Text × List Text)) (position : ℕ)
    → arg_by_index (all_built shape) position ≡ None → passes (step_fault (command shape) position (held rows pending) value) ≡ false
stray shape rows pending position found =
    ap (λ o. passes (option_map_or (λ (a : Rule). positional_fault (all_built shape) false a (held rows pending)) o (UnknownArgument ∷ []))) found

pub place_next : (shape : Shape) (rows : List Row) (pending : Option (Text × List Text)) (waiting : Waiting) (position k : ℕ) (name word : Text)
    → arg_by_index (all_built shape) position ≡ Some (place_built k name)
    → to_positional (all_built shape) (arg_by_index (all_built shape) position) word (before (held rows pending) waiting position) (held rows pending)
    ≡ before (filled shape rows pending name word) idle (step_place position)
place_next shape rows pending waiting position k name word found =
    let h : Held = held rows pending in
    ap (λ o. to_positional (all_built shape) o word (before h waiting position) h) found
    ∙ ap (λ b. before (pushed name word (if b then h else settled (all_built shape) h)) idle (step_place position)) (and-false (is_pending (place_built k name) pending))

pub place_next_behind : (shape : Shape) (rows : List Row) (pending : Option (Text × List Text)) (waiting : Waiting) (position k : ℕ) (name word : Text)
    → arg_by_index (all_built shape) position ≡ Some (place_built k name)
    → next_of shape (behind (held rows pending) waiting position) word
    ≡ behind (filled shape rows pending name word) idle (step_place position)
unfolding clap_on_literals
place_next_behind shape rows pending waiting position k name word found =
    let h : Held = held rows pending in
    ap (λ o. to_positional (all_built shape) o word (behind h waiting position) h) found
    ∙ ap (λ b. behind (pushed name word (if b then h else settled (all_built shape) h)) idle (step_place position)) (and-false (is_pending (place_built k name) pending))

-- ---- settled at once

abbrev pub settled_at : Shape → List Row → Option (Text × List Text) → Held
settled_at shape rows pending = held (settled_rows (all_built shape) pending rows) None

abbrev pub settles : Shape → List Row → Option (Text × List Text) → Kinds
settles shape rows pending = settle_fault (all_built shape) false (held rows pending)

both_tests : {X : Type 0} (b c : Bool) (x : Option X) → (if b && c then x else None) ≡ (if b then (if c then x else None) else None)
both_tests true c x = refl
both_tests false c x = refl

-- a turn whose first errors are those of settling
same_turn : (shape : Shape) (words : List Text) (s u fault settled_fault : Kinds) (w settled_w : Walk) → fault ≡ or_else s u → settled_fault ≡ u → w ≡ settled_w
    → (if passes fault then outcome shape w words else None) ≡ (if passes s then (if passes settled_fault then outcome shape settled_w words else None) else None)
same_turn shape words s u fault settled_fault w settled_w f sf next =
    ap₂ (λ k v. if passes k then outcome shape v words else None) f next
    ∙ ap (λ b. if b then outcome shape settled_w words else None) (passes-or_else s u)
    ∙ both_tests (passes s) (passes u) (outcome shape settled_w words)
    ∙ ap (λ k. if passes s then (if passes k then outcome shape settled_w words else None) else None) (sym sf)

-- a turn that fails either way
both_fail : (shape : Shape) (words : List Text) (s fault settled_fault : Kinds) (w settled_w : Walk) → passes fault ≡ false → passes settled_fault ≡ false
    → (if passes fault then outcome shape w words else None) ≡ (if passes s then (if passes settled_fault then outcome shape settled_w words else None) else None)
both_fail shape words s fault settled_fault w settled_w f sf =
    ap (λ b. if b then outcome shape w words else None) f
    ∙ sym (same_either (passes s) None)
    ∙ ap (λ b. if passes s then (if b then outcome shape settled_w words else None) else None) (sym sf)

or_else-nil : (ks : Kinds) → ks ≡ or_else ks []
or_else-nil [] = refl
or_else-nil (k ∷ ks) = refl

pub settles_behind : (shape : Shape) (rows : List Row) (pending : Option (Text × List Text)) (waiting : Waiting) (position : ℕ) (words : List Text)
    → outcome shape (behind (held rows pending) waiting position) words
    ≡ (if passes (settles shape rows pending) then outcome shape (behind (settled_at shape rows pending) waiting position) words else None)
settles_behind shape rows pending waiting position [] = both_tests (passes (settles shape rows pending)) _ _
settles_behind shape rows pending waiting position (word ∷ words) = go (at_any_index shape position)
  where
    go : (arg_by_index (all_built shape) position ≡ None) ⊎ ((k : ℕ) × (name : Text) × (arg_by_index (all_built shape) position ≡ Some (place_built k name)))
        → outcome shape (behind (held rows pending) waiting position) (word ∷ words)
        ≡ (if passes (settles shape rows pending) then outcome shape (behind (settled_at shape rows pending) waiting position) (word ∷ words) else None)
    go (inl none) = both_fail shape words (settles shape rows pending) _ _ _ _ (stray shape rows pending position none) (stray shape (settled_rows (all_built shape) pending rows) None position none)
    go (inr (k, name, found)) = same_turn shape words (settles shape rows pending) [] _ _ _ _
        (place_fault shape rows pending position k name found ∙ or_else-nil _)
        (place_fault shape (settled_rows (all_built shape) pending rows) None position k name found)
        (place_next_behind shape rows pending waiting position k name word found
        ∙ sym (place_next_behind shape (settled_rows (all_built shape) pending rows) None waiting position k name word found))

pub settles_before : (shape : Shape) (rows : List Row) (pending : Option (Text × List Text)) (position : ℕ) (words : List Text) → list_all is_utf8 words ≡ true
    → outcome shape (before (held rows pending) idle position) words
    ≡ (if passes (settles shape rows pending) then outcome shape (before (settled_at shape rows pending) idle position) words else None)
settles_before shape rows pending position [] u = both_tests (passes (settles shape rows pending)) _ _
settles_before shape rows pending position (word ∷ words) u =
    go (kind_of shape word) (turn shape rows pending idle position word (left_of _ _ u))
    (turn shape (settled_rows (all_built shape) pending rows) None idle position word (left_of _ _ u)) (at_any_index shape position)
  where
    placed : Places shape (held rows pending) idle position word → Places shape (settled_at shape rows pending) idle position word
        → (arg_by_index (all_built shape) position ≡ None) ⊎ ((k : ℕ) × (name : Text) × (arg_by_index (all_built shape) position ≡ Some (place_built k name)))
        → outcome shape (before (held rows pending) idle position) (word ∷ words)
        ≡ (if passes (settles shape rows pending) then outcome shape (before (settled_at shape rows pending) idle position) (word ∷ words) else None)
    placed t s (inl none) = both_fail shape words (settles shape rows pending) _ _ _ _
        (ap passes t.fault ∙ stray shape rows pending position none) (ap passes s.fault ∙ stray shape (settled_rows (all_built shape) pending rows) None position none)
    placed t s (inr (k, name, found)) = same_turn shape words (settles shape rows pending) [] _ _ _ _
        (t.fault ∙ place_fault shape rows pending position k name found ∙ or_else-nil _)
        (s.fault ∙ place_fault shape (settled_rows (all_built shape) pending rows) None position k name found)
        (t.next ∙ place_next shape rows pending idle position k name word found
        ∙ sym (place_next shape (settled_rows (all_built shape) pending rows) None idle position k name word found) ∙ sym s.next)

    go : (kind : Kind) → TurnIs shape (held rows pending) idle position word kind → TurnIs shape (settled_at shape rows pending) idle position word kind
        → (arg_by_index (all_built shape) position ≡ None) ⊎ ((k : ℕ) × (name : Text) × (arg_by_index (all_built shape) position ≡ Some (place_built k name)))
        → outcome shape (before (held rows pending) idle position) (word ∷ words)
        ≡ (if passes (settles shape rows pending) then outcome shape (before (settled_at shape rows pending) idle position) (word ∷ words) else None)
    go dashes t s found =
        ap₂ (λ k v. if passes k then outcome shape v words else None) t.fault t.next ∙ settles_behind shape rows pending idle position words
        ∙ ap (λ o. if passes (settles shape rows pending) then o else None) (sym (ap₂ (λ k v. if passes k then outcome shape v words else None) s.fault s.next))
    go place t s found = placed t s found
    go (flag name) t s found = same_turn shape words (settles shape rows pending) (use_fault false (flag_built name) [] (settled_rows (all_built shape) pending rows)) _ _ _ _
        t.fault s.fault (t.next ∙ sym s.next)
    go (option name) t s found = same_turn shape words (settles shape rows pending) [] _ _ _ _ (t.fault ∙ or_else-nil _) s.fault (t.next ∙ sym s.next)
    go (valued name v) t s found = same_turn shape words (settles shape rows pending) (use_fault false (option_built name) (v ∷ []) (settled_rows (all_built shape) pending rows)) _ _ _ _
        t.fault s.fault (t.next ∙ sym s.next)
    go unknown t s found = both_fail shape words (settles shape rows pending) _ _ _ _ t.fault s.fault
