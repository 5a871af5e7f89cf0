-- Of the lines of a state, those that begin `outcome:` or `legal `.
use Rattle.std.proofs.Common.{◌≡◌, ℕ, true, false, List, [], ◌∷◌, ◌++◌, map, length, refl, ap, ap₂, sym, ◌∙◌}
use Rattle.std.specs.Prelude.{flat_map, cond, Bool}
use Rattle.std.specs.List.{filter}
use Rattle.std.proofs.lemmas.List.Elements.{filter-append}
use Rattle.std.proofs.lemmas.List.{append-nil}
use Rattle.spiel_api.specs.Rules.{Rules}
use Rattle.spiel_api.specs.declared.place.Place.{Place}
use Rattle.spiel_api.specs.declared.place.Place.TheVariants.{End, Chance, Move, Joint}
use Rattle.spiel_play.specs.Block.{action_line, action_lines, below, choice_lines, chosen_lines, info_line, info_lines, is_choice, legal_text, lines_text, outcome_line, return_lines}

-- lines that all pass a test
all_kept : (test : List ℕ → Bool) (line : ℕ → List ℕ) → ((n : ℕ) → test (line n) ≡ true) → (ns : List ℕ) → filter test (map line ns) ≡ map line ns
all_kept test line passes [] = refl
all_kept test line passes (n ∷ ns) =
    let rest : List (List ℕ) = filter test (map line ns) in
    ap (λ here. cond here (line n ∷ rest) rest) (passes n) ∙ ap (λ more. line n ∷ more) (all_kept test line passes ns)

-- lines of which none passes
none_kept : (test : List ℕ → Bool) (line : ℕ → List ℕ) → ((n : ℕ) → test (line n) ≡ false) → (ns : List ℕ) → filter test (map line ns) ≡ []
none_kept test line fails [] = refl
none_kept test line fails (n ∷ ns) =
    let rest : List (List ℕ) = filter test (map line ns) in
    ap (λ here. cond here (line n ∷ rest) rest) (fails n) ∙ none_kept test line fails ns

-- groups of lines that all pass
groups_kept : (test : List ℕ → Bool) (group : ℕ → List (List ℕ)) → ((n : ℕ) → filter test (group n) ≡ group n) → (ns : List ℕ) → filter test (flat_map group ns) ≡ flat_map group ns
groups_kept test group passes [] = refl
groups_kept test group passes (n ∷ ns) = filter-append test (group n) (flat_map group ns) ∙ ap₂ (λ first rest. first ++ rest) (passes n) (groups_kept test group passes ns)

actions_kept : (rules : Rules) (h : List ℕ) (p : ℕ) → filter is_choice (action_lines rules h p) ≡ action_lines rules h p
actions_kept rules h p = all_kept is_choice (action_line rules h p) (λ i. refl) (below (length (rules.legal h p)))

choices_kept : (rules : Rules) (h : List ℕ) (place : Place) → filter is_choice (choice_lines rules h place) ≡ choice_lines rules h place
choices_kept rules h End = refl
choices_kept rules h Chance = all_kept is_choice (outcome_line rules h) (λ i. refl) (below (length (rules.legal h 0)))
choices_kept rules h (Move p) = actions_kept rules h p
choices_kept rules h (Joint q) = groups_kept is_choice (action_lines rules h) (actions_kept rules h) (below rules.players)

no_infos_kept : (rules : Rules) (h : List ℕ) (place : Place) → filter is_choice (info_lines rules h place) ≡ []
no_infos_kept rules h End = refl
no_infos_kept rules h Chance = refl
no_infos_kept rules h (Move p) = refl
no_infos_kept rules h (Joint q) = none_kept is_choice (info_line rules h) (λ p. refl) (below rules.players)

no_returns_kept : (rules : Rules) (h : List ℕ) (place : Place) → filter is_choice (return_lines rules h place) ≡ []
no_returns_kept rules h End = refl
no_returns_kept rules h Chance = refl
no_returns_kept rules h (Move p) = refl
no_returns_kept rules h (Joint q) = refl

-- what there is to choose from, in the middle of other lines
middle_kept : (infos choices returns : List (List ℕ)) → filter is_choice infos ≡ [] → filter is_choice choices ≡ choices → filter is_choice returns ≡ []
    → filter is_choice (infos ++ (choices ++ returns)) ≡ choices
middle_kept infos choices returns none kept no_more =
    filter-append is_choice infos (choices ++ returns) ∙ ap (λ first. first ++ filter is_choice (choices ++ returns)) none
    ∙ filter-append is_choice choices returns ∙ ap₂ (λ first rest. first ++ rest) kept no_more ∙ append-nil choices

pub chosen_are_choices : (rules : Rules) (h : List ℕ) → chosen_lines rules h ≡ choice_lines rules h (rules.place h)
chosen_are_choices rules h =
    let place : Place = rules.place h in
    middle_kept (info_lines rules h place) (choice_lines rules h place) (return_lines rules h place)
    (no_infos_kept rules h place) (choices_kept rules h place) (no_returns_kept rules h place)

-- the text of the lines that begin so
pub legal_text_is_chosen : (rules : Rules) (h : List ℕ) → legal_text rules h ≡ lines_text (chosen_lines rules h)
unfolding legal_text
legal_text_is_chosen rules h = ap lines_text (sym (chosen_are_choices rules h))
