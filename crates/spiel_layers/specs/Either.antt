-- What one of two games means: what the game inside means. Each definition has one line for each side.
use Rattle.std.specs.Prelude.{ℕ, List, []}
use Rattle.spiel_api.specs.declared.game.Game.{Ghosts}
use Rattle.spiel_api.specs.Rules.{Rules}
use Rattle.spiel_layers.specs.declared.either.Either.{Either}
use Rattle.spiel_layers.specs.declared.either.Either.TheVariants.{Left, Right}
use Rattle.spiel_layers.specs.declared.either.EitherState.{EitherState}
use Rattle.spiel_layers.specs.declared.either.EitherState.TheVariants.{Left as LeftState, Right as RightState}

module _ {A S B T : Type 0} (left : Ghosts A S) (right : Ghosts B T) where
  -- the game can be played
  unfoldable pub IsEitherGame : Either A B → Type 0
  IsEitherGame (Left game) = left.is_game game
  IsEitherGame (Right game) = right.is_game game

  unfoldable pub either_rules : Either A B → Rules
  either_rules (Left game) = left.rules game
  either_rules (Right game) = right.rules game

  -- a state stands for a play of a game only where both are on one side
  unfoldable pub IsEitherAt : Either A B → EitherState A B S T → Type 0
  IsEitherAt (Left game) (LeftState state) = left.is_at game state
  IsEitherAt (Right game) (RightState state) = right.is_at game state
  IsEitherAt either state = ⊥

  -- the play for which the state stands
  unfoldable pub either_history : Either A B → EitherState A B S T → List ℕ
  either_history (Left game) (LeftState state) = left.history_of game state
  either_history (Right game) (RightState state) = right.history_of game state
  either_history either state = []
