-- A clap command with one rule more.
use Rattle.std.proofs.Common.{◌≡◌, ◌∙◌, ◌<◌, ◌+◌, ap, ap₂, refl, sym, arith, append_assoc, ℕ, suc, false, List, [], ◌∷◌, ◌++◌, map, length, take, get_or}
use Rattle.std.specs.Borrow.{Bor}
use Rattle.std.proofs.lemmas.List.{length-take, take_more}
use Rattle.clap.specs.Built.{AddsArg}
use Rattle.clap.specs.Walk.{Rule, Text, rule_of}
use Rattle.clap.specs.Simple.{App, app_of, on_top, with_rule}
use Rattle.clap.specs.declared.builder.arg.Arg.{Arg}
use Rattle.clap.specs.declared.builder.command.Command.{Command}
use Rattle.spiel_words.specs.Found.{texts}
use Rattle.std.specs.Prelude.{IfOk, Result, Ok, Err}
use Rattle.spiel_words.specs.Line.{Shape}
use Rattle.spiel_words.specs.Rules.{app_for, bare, flag_rule, numbered, option_rule, place_rule, with_rules}

pub one_rule : (old new : Command) (arg : Arg) (app : App) (rules : List Rule) (rule : Rule) → app_of old ≡ with_rules app rules → AddsArg old arg new → arg.global ≡ false → rule_of arg ≡ rule
    → app_of new ≡ with_rules app (rules ++ rule ∷ [])
one_rule old new arg app rules rule stands adds local is =
    adds.shape local ∙ ap₂ with_rule stands is ∙ ap (λ all. record app { top = record app.top { rules = all } }) (append_assoc app.top.rules rules (rule ∷ []))

map_last : (make : Text → Rule) (names : List (Bor Text)) (name : Bor Text) → map make (texts (names ++ name ∷ [])) ≡ map make (texts names) ++ make name.now ∷ []
map_last make [] name = refl
map_last make (n ∷ names) name = ap (λ rules. make n.now ∷ rules) (map_last make names name)

numbered_last : (make : ℕ → Text → Rule) (k j : ℕ) (names : List (Bor Text)) (name : Bor Text) → j ≡ k + length names
    → numbered make k (texts (names ++ name ∷ [])) ≡ numbered make k (texts names) ++ make j name.now ∷ []
numbered_last make k j [] name e = ap (λ i. make i name.now ∷ []) (omega arith)
numbered_last make k j (n ∷ names) name e = ap (λ rules. make k n.now ∷ rules) (numbered_last make (suc k) j names name (omega arith))

-- the rules of the names so far, and that of the next
pub next_rule : (make : Text → Rule) (names : List (Bor Text)) (i : ℕ) (d : Bor Text) → i < length names
    → map make (texts (take i names)) ++ make (get_or names i d).now ∷ [] ≡ map make (texts (take (i + 1) names))
next_rule make names i d lt = sym (ap (λ front. map make (texts front)) (take_more names i d lt) ∙ map_last make (take i names) (get_or names i d))

pub next_numbered : (make : ℕ → Text → Rule) (names : List (Bor Text)) (i : ℕ) (d : Bor Text) → i < length names
    → numbered make 1 (texts (take i names)) ++ make (i + 1) (get_or names i d).now ∷ [] ≡ numbered make 1 (texts (take (i + 1) names))
next_numbered make names i d lt =
    let many : i + 1 ≡ 1 + length (take i names) = omega (arith, length-take i names) in
    sym (ap (λ front. numbered make 1 (texts front)) (take_more names i d lt) ∙ numbered_last make 1 (i + 1) (take i names) (get_or names i d) many)

-- places, flags and options are the whole command
pub whole_command : (shape : Shape) (E : Type 0) (result : Result Command E) (first second third : Command) → app_of first ≡ bare
    → app_of second ≡ with_rules (app_of first) (numbered place_rule 1 shape.places) → app_of third ≡ with_rules (app_of second) (map flag_rule shape.flags)
    → IfOk result (λ made. app_of made ≡ with_rules (app_of third) (map option_rule shape.options)) → IfOk result (λ made. app_of made ≡ app_for shape)
whole_command shape E (Err e) first second third p q r h = h
whole_command shape E (Ok made) first second third p q r h =
    let places : List Rule = numbered place_rule 1 shape.places in
    let flags : List Rule = map flag_rule shape.flags in
    let options : List Rule = map option_rule shape.options in
    h ∙ ap (λ app. with_rules app options) (r ∙ ap (λ app. with_rules app flags) (q ∙ ap (λ app. with_rules app places) p))
    ∙ ap (λ rules. on_top (λ top. record top { rules = rules }) bare) (append_assoc places flags options)
