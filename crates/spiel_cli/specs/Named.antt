-- The game that a word names.
use Rattle.std.specs.Prelude.{List, ℕ}
use Rattle.spiel_io.specs.Plan.{Plan, ◌>>=◌, decide, refusing}
use Rattle.spiel_api.specs.Rules.{Rules}
use Rattle.spiel_string.specs.Answer.{reading}
use Rattle.spiel_string.specs.Game.{Game}
use Rattle.spiel_load.specs.Named.{named_game}
use Rattle.spiel_cli.specs.declared.refusal.Refusal.{Refusal}
use Rattle.spiel_cli.specs.declared.refusal.Refusal.TheVariants.{GameString, Loading}

-- a game with the string that names it
pub record NamedGame : Type 0 where
  pub text : Game
  pub rules : Rules

-- the game that a string names, and what is decided by it
abbrev pub with_rules : {A : Type 0} → Game → (NamedGame → Plan A Refusal) → Plan A Refusal
with_rules text next = refusing Loading (named_game text) >>= λ rules. next (record { text = text; rules = rules })

-- the game that a word names, and what is decided by it
abbrev pub with_game : {A : Type 0} → List ℕ → (NamedGame → Plan A Refusal) → Plan A Refusal
with_game word next = decide GameString (reading word) >>= λ text. with_rules text next
