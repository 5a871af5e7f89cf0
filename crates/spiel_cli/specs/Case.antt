-- A game and a policy for it, which commands judge.
use Rattle.std.specs.Prelude.{ℕ, List}
use Rattle.spiel_io.specs.Plan.{Plan, Give, ◌>>=◌, unless}
use Rattle.spiel_api.specs.Rules.{Rules}
use Rattle.spiel_string.specs.Game.{Game}
use Rattle.spiel_string.specs.View.{view}
use Rattle.spiel_tree.specs.Trees.{Whole, tree_fault, tree_of}
use Rattle.spiel_response.specs.Values.{Judged}
use Rattle.spiel_cli.specs.Named.{NamedGame, with_game}
use Rattle.spiel_cli.specs.Policies.{chosen}
use Rattle.spiel_cli.specs.declared.case.Case.{Case as CodeCase}
use Rattle.spiel_cli.specs.declared.refusal.Refusal.{Refusal}
use Rattle.spiel_cli.specs.declared.refusal.Refusal.TheVariants.{Tree}

-- how many histories a game may have that is judged
abbrev pub history_limit : ℕ
history_limit = 1048576

-- the game string, and the tree of the game with a profile for it
pub record Case : Type 0 where
  pub text : Game
  pub judged : Judged

-- the code's case as plain data
abbrev pub case_of : CodeCase → Case
case_of case = record { text = view case.text; judged = record { tree = case.tree; profile = case.policy } }

-- the tree of a game, where it can be judged
abbrev pub with_tree : {A : Type 0} → Rules → (Whole → Plan A Refusal) → Plan A Refusal
with_tree rules next = unless Tree (tree_fault rules history_limit) (next (tree_of rules))

-- a policy for a tree
abbrev pub policy_case : List ℕ → Game → Whole → Plan Case Refusal
policy_case policy text tree = chosen policy tree >>= λ profile. Give (record { text = text; judged = record { tree = tree; profile = profile } })

-- a policy in a game: it is looked at after the tree
abbrev pub game_case : List ℕ → NamedGame → Plan Case Refusal
game_case policy game = with_tree game.rules (policy_case policy game.text)

-- `GAME POLICY`
abbrev pub case_plan : List ℕ → List ℕ → Plan Case Refusal
case_plan game policy = with_game game (game_case policy)
