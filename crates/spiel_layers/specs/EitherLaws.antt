-- One of two games keeps the laws where both do. Each law has one line for each side.
use Rattle.spiel_api.specs.declared.game.Game.{Ghosts}
use Rattle.spiel_api.specs.Plays.{IsPlay}
use Rattle.spiel_api.specs.Laws.{IsLawful}
use Rattle.spiel_layers.specs.declared.either.Either.{Either}
use Rattle.spiel_layers.specs.declared.either.Either.TheVariants.{Left, Right}
use Rattle.spiel_layers.specs.declared.either.EitherState.{EitherState}
use Rattle.spiel_layers.specs.declared.either.EitherState.TheVariants.{Left as LeftState, Right as RightState}
use Rattle.spiel_layers.specs.Either.{IsEitherGame, either_rules, IsEitherAt, either_history}

module _ {A S B T : Type 0} (left : Ghosts A S) (right : Ghosts B T) where
  -- a state stands for a play
  pub either_plays : ((g : A) (s : S) → left.is_at g s → IsPlay (left.rules g) (left.history_of g s))
      → ((g : B) (s : T) → right.is_at g s → IsPlay (right.rules g) (right.history_of g s))
      → (either : Either A B) (state : EitherState A B S T) → IsEitherAt left right either state → IsPlay (either_rules left right either) (either_history left right either state)
  unfolding IsEitherAt either_rules either_history
  either_plays here there (Left game) (LeftState state) at = here game state at
  either_plays here there (Right game) (RightState state) at = there game state at
  either_plays here there either state at = absurd at

  -- a game that can be played keeps the laws
  pub either_lawful : ((g : A) → left.is_game g → IsLawful (left.rules g)) → ((g : B) → right.is_game g → IsLawful (right.rules g))
      → (either : Either A B) → IsEitherGame left right either → IsLawful (either_rules left right either)
  unfolding IsEitherGame either_rules
  either_lawful here there (Left game) can = here game can
  either_lawful here there (Right game) can = there game can

  -- a state belongs to a game that can be played
  pub either_playable : ((g : A) (s : S) → left.is_at g s → left.is_game g) → ((g : B) (s : T) → right.is_at g s → right.is_game g)
      → (either : Either A B) (state : EitherState A B S T) → IsEitherAt left right either state → IsEitherGame left right either
  unfolding IsEitherAt IsEitherGame
  either_playable here there (Left game) (LeftState state) at = here game state at
  either_playable here there (Right game) (RightState state) at = there game state at
  either_playable here there either state at = absurd at
