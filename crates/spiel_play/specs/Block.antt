-- The lines that show a state of a game.
use Rattle.std.specs.Prelude.{ℕ, zero, suc, pos, Bool, nat_eq, ◌||◌, List, [], ◌∷◌, ◌++◌, length, map, flat_map, sum, codes, slice_index}
use Rattle.std.specs.List.{filter, starts_with}
use Rattle.std.specs.Fmt.{decimal}
use Rattle.spiel_frac.specs.Fraction.{frac_text, lowest_terms, ratio_text}
use Rattle.spiel_api.specs.declared.place.Place.{Place}
use Rattle.spiel_api.specs.declared.place.Place.TheVariants.{End, Chance, Move, Joint}
use Rattle.spiel_api.specs.Rules.{Rules}

-- a line with its line feed
abbrev pub ended : List ℕ → List ℕ
ended line = line ++ 10 ∷ []

-- lines, one after another
abbrev pub lines_text : List (List ℕ) → List ℕ
lines_text lines = flat_map ended lines

-- the numbers below n, in order
abbrev pub below : ℕ → List ℕ
below zero = []
below (suc n) = below n ++ n ∷ []

-- a number behind a space
abbrev pub spaced : ℕ → List ℕ
spaced n = 32 ∷ decimal n

-- who is next: a player, or -1 for chance, -2 for a joint step, -4 for the end
abbrev pub next_text : Place → List ℕ
next_text End = codes "-4"
next_text Chance = codes "-1"
next_text (Move p) = decimal p
next_text (Joint p) = codes "-2"

abbrev pub history_line : List ℕ → List ℕ
history_line h = codes "history:" ++ flat_map spaced h

abbrev pub player_line : Place → List ℕ
player_line place = codes "player: " ++ next_text place

-- a chance outcome: its number, its probability and its name
abbrev pub outcome_line : Rules → List ℕ → ℕ → List ℕ
outcome_line rules h i =
    let a = slice_index (rules.legal h 0) i in
    codes "outcome:" ++ spaced a ++ codes " " ++ ratio_text (slice_index (rules.weights h) i) (sum (rules.weights h)) ++ codes " " ++ rules.name h 0 a

abbrev pub outcome_lines : Rules → List ℕ → List (List ℕ)
outcome_lines rules h = map (outcome_line rules h) (below (length (rules.legal h 0)))

-- what a player knows
abbrev pub info_line : Rules → List ℕ → ℕ → List ℕ
info_line rules h p = codes "info " ++ decimal p ++ codes ": " ++ rules.info h p

-- what the players know who choose
abbrev pub info_lines : Rules → List ℕ → Place → List (List ℕ)
info_lines rules h End = []
info_lines rules h Chance = []
info_lines rules h (Move p) = info_line rules h p ∷ []
info_lines rules h (Joint q) = map (info_line rules h) (below rules.players)

-- a legal action: its number and its name
abbrev pub action_line : Rules → List ℕ → ℕ → ℕ → List ℕ
action_line rules h p i =
    let a = slice_index (rules.legal h p) i in
    codes "legal " ++ decimal p ++ codes ":" ++ spaced a ++ codes " " ++ rules.name h p a

abbrev pub action_lines : Rules → List ℕ → ℕ → List (List ℕ)
action_lines rules h p = map (action_line rules h p) (below (length (rules.legal h p)))

-- what there is to choose from
abbrev pub choice_lines : Rules → List ℕ → Place → List (List ℕ)
choice_lines rules h End = []
choice_lines rules h Chance = outcome_lines rules h
choice_lines rules h (Move p) = action_lines rules h p
choice_lines rules h (Joint q) = flat_map (action_lines rules h) (below rules.players)

-- a return: the parts over the unit
abbrev pub return_text : Rules → List ℕ → ℕ → List ℕ
return_text rules h p = 32 ∷ frac_text (lowest_terms (rules.pay h p) (pos rules.unit))

abbrev pub returns_line : Rules → List ℕ → List ℕ
returns_line rules h = codes "returns:" ++ flat_map (return_text rules h) (below rules.players)

-- what the players get, at the end
abbrev pub return_lines : Rules → List ℕ → Place → List (List ℕ)
return_lines rules h End = returns_line rules h ∷ []
return_lines rules h Chance = []
return_lines rules h (Move p) = []
return_lines rules h (Joint q) = []

-- the lines of the state that stands for a history
abbrev pub block_lines : Rules → List ℕ → List (List ℕ)
block_lines rules h =
    let place = rules.place h in
    history_line h ∷ player_line place ∷ (info_lines rules h place ++ (choice_lines rules h place ++ return_lines rules h place))

unfoldable pub block_text : Rules → List ℕ → List ℕ
block_text rules h = lines_text (block_lines rules h)

-- the lines of what there is to choose from alone
unfoldable pub legal_text : Rules → List ℕ → List ℕ
legal_text rules h = lines_text (choice_lines rules h (rules.place h))

-- whether a line begins `outcome:` or `legal `
abbrev pub is_choice : List ℕ → Bool
is_choice line = starts_with nat_eq line (codes "outcome:") || starts_with nat_eq line (codes "legal ")

-- the lines of the block that begin so
abbrev pub chosen_lines : Rules → List ℕ → List (List ℕ)
chosen_lines rules h = filter is_choice (block_lines rules h)
