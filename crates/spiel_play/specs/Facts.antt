-- The lines that tell what holds of a whole game.
use Rattle.std.specs.Prelude.{ℕ, Bool, true, false, List, [], ◌∷◌, ◌++◌, codes}
use Rattle.std.specs.Fmt.{decimal}
use Rattle.spiel_api.specs.Rules.{Rules}
use Rattle.spiel_string.specs.Canonical.{game_text}
use Rattle.spiel_string.specs.Game.{Game}
use Rattle.spiel_play.specs.Block.{lines_text}

-- the canonical text of the game's string
abbrev pub title_line : Game → List ℕ
title_line text = codes "game " ++ game_text text

abbrev pub players_line : Rules → List ℕ
players_line rules = codes "players " ++ decimal rules.players

-- a whole return has so many parts
abbrev pub unit_line : Rules → List ℕ
unit_line rules = codes "unit " ++ decimal rules.unit

-- no return has more parts, in size
abbrev pub cap_line : Rules → List ℕ
cap_line rules = codes "cap " ++ decimal rules.cap

abbrev pub answer_text : Bool → List ℕ
answer_text true = codes "yes"
answer_text false = codes "no"

-- whether the game is one joint step and no more
abbrev pub one_shot_line : Rules → List ℕ
one_shot_line rules = codes "one_shot " ++ answer_text rules.one_shot

abbrev pub fact_lines : Rules → Game → List (List ℕ)
fact_lines rules text = title_line text ∷ players_line rules ∷ unit_line rules ∷ cap_line rules ∷ one_shot_line rules ∷ []

-- the five lines of a game and its string
unfoldable pub facts_text : Rules → Game → List ℕ
facts_text rules text = lines_text (fact_lines rules text)
