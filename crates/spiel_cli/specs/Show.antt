-- What showing the facts of a game decides.
use Rattle.std.specs.Prelude.{ℕ, List}
use Rattle.spiel_io.specs.Plan.{Plan, Give}
use Rattle.spiel_play.specs.Facts.{facts_text}
use Rattle.spiel_cli.specs.Named.{NamedGame, with_game}
use Rattle.spiel_cli.specs.declared.refusal.Refusal.{Refusal}

-- the five lines of a game
abbrev pub facts_of : NamedGame → Plan (List ℕ) Refusal
facts_of game = Give (facts_text game.rules game.text)

-- `show GAME`
abbrev pub show_plan : List ℕ → Plan (List ℕ) Refusal
show_plan game = with_game game facts_of
