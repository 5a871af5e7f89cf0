-- clap takes the words exactly where they are a line of the shape, and finds what the line says.
use Rattle.std.proofs.Common.{◌≡◌, ◌∙◌, ◌&&◌, ap, ap₂, refl, sym, true, false, List, [], ◌∷◌, ◌++◌, Option, Some, None, is_some}
use Rattle.std.specs.Prelude.{fold, if◌then◌else◌, option_map}
use Rattle.std.specs.List.{list_all}
use Rattle.std.specs.Str.{is_utf8}
use Rattle.clap.specs.Walk.{Text, Row, Walk, finished, nothing_held, settled, walk, walk_from, walked}
use Rattle.clap.specs.Simple.{Shape as CommandShape, built, entered, matches_of}
use Rattle.clap.specs.Kinds.{Kinds, or_else}
use Rattle.clap.specs.Faults.{check_fault, defaults_fault, entered_fault, fault_of, level_fault, settle_fault, walk_fault}
use Rattle.spiel_words.specs.Line.{Shape, is_sound, read_line}
use Rattle.spiel_words.specs.Rules.{app_for}
use Rattle.spiel_words.proofs.Agreement.{Stands, agree}
use Rattle.spiel_words.proofs.Built.{all_built, rules_built, top_of}
use Rattle.spiel_words.proofs.Ends.{end_rows}
use Rattle.spiel_words.proofs.Names.{front_distinct, left_of}
use Rattle.spiel_words.proofs.Turns.{command, next_of, passes, passes-or_else, turn_of}
use Rattle.spiel_words.proofs.Walks.{outcome}

-- the errors of a whole parse from a state on
abbrev rest_fault : CommandShape → Walk → List Text → Kinds
rest_fault top w words =
    let end = (fold (walked top.rules []) w words).held in
    or_else (walk_fault top [] w words)
    (or_else [] (or_else (settle_fault top.rules top.args_override_self end)
    (or_else (defaults_fault (settled top.rules end).rows top.rules) (check_fault top (finished top.rules end) false))))

abbrev rest_rows : CommandShape → Walk → List Text → List Row
rest_rows top w words = finished top.rules (fold (walked top.rules []) w words).held

three : (a b c : Kinds) → passes (or_else a (or_else b c)) ≡ (passes a && (passes b && passes c))
three a b c = passes-or_else a (or_else b c) ∙ ap (λ d. passes a && d) (passes-or_else b c)

or_else-assoc : (a b c : Kinds) → or_else (or_else a b) c ≡ or_else a (or_else b c)
or_else-assoc [] b c = refl
or_else-assoc (k ∷ ks) b c = refl

in_turn : {X : Type 0} (a b : Kinds) (x : X) → (if passes a then (if passes b then Some x else None) else None) ≡ (if passes (or_else a b) then Some x else None)
in_turn [] b x = refl
in_turn (k ∷ ks) b x = refl

rest : (shape : Shape) (w : Walk) (words : List Text)
    → outcome shape w words ≡ (if passes (rest_fault (command shape) w words) then Some (rest_rows (command shape) w words) else None)
unfolding walk_fault
rest shape w [] = ap (λ b. if b then Some (rest_rows (command shape) w []) else None)
    (sym (three (settle_fault (all_built shape) false w.held) (defaults_fault (settled (all_built shape) w.held).rows (all_built shape))
    (check_fault (command shape) (finished (all_built shape) w.held) false)))
rest shape w (word ∷ words) =
    let next : Walk = next_of shape w word in
    let first : Kinds = turn_of shape w word in
    ap (λ o. if passes first then o else None) (rest shape next words)
    ∙ in_turn first (rest_fault (command shape) next words) (rest_rows (command shape) next words)
    ∙ ap (λ k. if passes k then Some (rest_rows (command shape) next words) else None) (sym (or_else-assoc first (walk_fault (command shape) [] next words) _))

no_subcommand : (shape : Shape) (stop : Option (Text × List Text)) → is_some (entered (built (app_for shape)) stop) ≡ false
no_subcommand shape None = refl
no_subcommand shape (Some p) = refl

no_subcommand_fault : (shape : Shape) (stop : Option (Text × List Text)) → entered_fault (built (app_for shape)) stop ≡ []
no_subcommand_fault shape None = refl
no_subcommand_fault shape (Some p) = refl

whole_fault : (shape : Shape) (words : List Text) → fault_of (app_for shape) words ≡ rest_fault (command shape) (walk_from nothing_held) words
whole_fault shape words =
    let stop : Option (Text × List Text) = (walk (top_of shape).rules [] nothing_held words).stopped in
    ap₂ (level_fault (top_of shape) [] nothing_held words) (no_subcommand shape stop) (no_subcommand_fault shape stop)
    ∙ ap (λ rules. rest_fault (record (top_of shape) { rules = rules }) (walk_from nothing_held) words) (rules_built shape)

whole_rows : (shape : Shape) (words : List Text) → matches_of (app_for shape) words ≡ rest_rows (command shape) (walk_from nothing_held) words
whole_rows shape words = ap (λ rules. rest_rows (record (top_of shape) { rules = rules }) (walk_from nothing_held) words) (rules_built shape)

start : (shape : Shape) → is_sound shape ≡ true → Stands shape [] [] shape.places 1
start shape sound = record {
  split = refl;
  here = refl;
  distinct = front_distinct shape.places (shape.flags ++ shape.options) (left_of _ _ sound);
  apart = left_of _ _ sound;
  placed = refl;
}

pub clap_agrees : (shape : Shape) (words : List Text) → is_sound shape ≡ true → list_all is_utf8 words ≡ true
    → (if passes (fault_of (app_for shape) words) then Some (matches_of (app_for shape) words) else None) ≡ option_map (end_rows shape) (read_line shape words)
clap_agrees shape words sound u =
    ap₂ (λ k rows. if passes k then Some rows else None) (whole_fault shape words) (whole_rows shape words)
    ∙ sym (rest shape (walk_from nothing_held) words)
    ∙ agree shape sound words u [] [] shape.places None 1 (start shape sound) tt
