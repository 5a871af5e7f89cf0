-- What saving a play decides.
use Rattle.std.specs.Prelude.{ℕ, List, Option, Some, None}
use Rattle.spiel_io.specs.Plan.{Plan, Give, Refuse, unless}
use Rattle.spiel_api.specs.Walks.{walk_fault}
use Rattle.spiel_save.specs.Saved.{saved_text}
use Rattle.spiel_cli.specs.Lists.{list_of}
use Rattle.spiel_cli.specs.Named.{NamedGame, with_game}
use Rattle.spiel_cli.specs.declared.refusal.Refusal.{Refusal}
use Rattle.spiel_cli.specs.declared.refusal.Refusal.TheVariants.{BadList, Walk}

-- the history that a word lists, and what is decided by it
abbrev pub with_list : {A : Type 0} → Option (List ℕ) → (List ℕ → Plan A Refusal) → Plan A Refusal
with_list None next = Refuse BadList
with_list (Some h) next = next h

-- the saved file of a history, where the history is a play
abbrev pub file_of_play : List ℕ → NamedGame → Plan (List ℕ) Refusal
file_of_play h game = unless Walk (walk_fault game.rules h) (Give (saved_text game.text h))

-- `save GAME LIST`
abbrev pub save_plan : List ℕ → List ℕ → Plan (List ℕ) Refusal
save_plan game list = with_list (list_of list) (λ h. with_game game (file_of_play h))
