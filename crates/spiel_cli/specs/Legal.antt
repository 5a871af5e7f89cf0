-- What showing what may be chosen decides.
use Rattle.std.specs.Prelude.{ℕ, List}
use Rattle.spiel_io.specs.Plan.{Plan, Give, unless}
use Rattle.spiel_api.specs.Walks.{walk_fault}
use Rattle.spiel_play.specs.Block.{legal_text}
use Rattle.spiel_cli.specs.Lists.{list_of}
use Rattle.spiel_cli.specs.Named.{NamedGame, with_game}
use Rattle.spiel_cli.specs.Save.{with_list}
use Rattle.spiel_cli.specs.declared.refusal.Refusal.{Refusal}
use Rattle.spiel_cli.specs.declared.refusal.Refusal.TheVariants.{Walk}

-- what may be chosen after a history, where the history is a play
abbrev pub choices_of : List ℕ → NamedGame → Plan (List ℕ) Refusal
choices_of h game = unless Walk (walk_fault game.rules h) (Give (legal_text game.rules h))

-- `legal GAME LIST`
abbrev pub legal_plan : List ℕ → List ℕ → Plan (List ℕ) Refusal
legal_plan game list = with_list (list_of list) (λ h. with_game game (choices_of h))
