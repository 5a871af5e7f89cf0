-- What writing a file in its canonical form decides.
use Rattle.std.specs.Prelude.{ℕ, List}
use Rattle.spiel_io.specs.Plan.{Plan, Give, ◌>>=◌, decide}
use Rattle.spiel_efg.specs.Reading.{game_of_file}
use Rattle.spiel_efg.specs.Writing.{efg_text}
use Rattle.spiel_cli.specs.Files.{named_file}
use Rattle.spiel_cli.specs.declared.refusal.Refusal.{Refusal}
use Rattle.spiel_cli.specs.declared.refusal.Refusal.TheVariants.{Efg}

-- the canonical text of the game in a file of these bytes
abbrev pub tidied : List ℕ → Plan (List ℕ) Refusal
tidied bytes = decide Efg (game_of_file bytes) >>= λ parts. Give (efg_text parts)

-- `tidy FILE`
abbrev pub tidy_plan : List ℕ → Plan (List ℕ) Refusal
tidy_plan name = named_file name >>= tidied
