-- What restoring a saved play decides.
use Rattle.std.specs.Prelude.{ℕ, List, ◌++◌}
use Rattle.spiel_io.specs.Plan.{Plan, Give, ◌>>=◌, decide, unless}
use Rattle.spiel_api.specs.Walks.{walk_fault}
use Rattle.spiel_play.specs.Block.{block_text, ended}
use Rattle.spiel_play.specs.Facts.{title_line}
use Rattle.spiel_save.specs.Answer.{Played, reading_saved}
use Rattle.spiel_save.specs.declared.saved.Saved.{Saved}
use Rattle.spiel_string.specs.View.{view}
use Rattle.spiel_cli.specs.Files.{named_file}
use Rattle.spiel_cli.specs.Named.{NamedGame, with_rules}
use Rattle.spiel_cli.specs.declared.refusal.Refusal.{Refusal}
use Rattle.spiel_cli.specs.declared.refusal.Refusal.TheVariants.{SavedFile, Walk}

-- a saved play as plain data
abbrev pub played_of : Saved → Played
played_of saved = (view saved.game, saved.history)

-- a line with the name of the game, and the lines of the state for a history
abbrev pub state_text : NamedGame → List ℕ → List ℕ
state_text game h = ended (title_line game.text) ++ block_text game.rules h

-- the state for a history, where the history is a play
abbrev pub state_of : List ℕ → NamedGame → Plan (List ℕ) Refusal
state_of h game = unless Walk (walk_fault game.rules h) (Give (state_text game h))

-- the state of a saved play, whose game is that of its string
abbrev pub state_of_play : Played → Plan (List ℕ) Refusal
state_of_play played = with_rules played.0 (state_of played.1)

-- the state of the play in a saved file of these bytes
abbrev pub play_in_file : List ℕ → Plan (List ℕ) Refusal
play_in_file bytes = decide SavedFile (reading_saved bytes) >>= state_of_play

-- `restore FILE`
abbrev pub restore_plan : List ℕ → Plan (List ℕ) Refusal
restore_plan name = named_file name >>= play_in_file
