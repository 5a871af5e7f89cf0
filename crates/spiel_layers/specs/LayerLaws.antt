-- A layer keeps the laws where the inner games do. Each law has one line for each variant.
use Rattle.spiel_api.specs.declared.game.Game.{Ghosts}
use Rattle.spiel_api.specs.Plays.{IsPlay}
use Rattle.spiel_api.specs.Laws.{IsLawful}
use Rattle.spiel_layers.specs.declared.layer.Layer.{Layer}
use Rattle.spiel_layers.specs.declared.layer.Layer.TheVariants.{Plain, TurnBased, Misere, Repeated, StartAt}
use Rattle.spiel_layers.specs.declared.layer.LayerState.{LayerState}
use Rattle.spiel_layers.specs.declared.layer.LayerState.TheVariants.{Plain as PlainState, TurnBased as TurnBasedState, Misere as MisereState, Repeated as RepeatedStates, StartAt as StartAtState}
use Rattle.spiel_layers.specs.Layer.{IsLayerGame, layer_rules, IsLayerAt, layer_history}
use Rattle.spiel_layers.specs.TurnBasedLaws.{turn_play, turn_lawful}
use Rattle.spiel_layers.specs.MisereLaws.{misere_play, misere_lawful}
use Rattle.spiel_layers.specs.RepeatedLaws.{can_repeat_lawful}
use Rattle.spiel_layers.specs.StartAtLaws.{started_play, started_lawful}

module _ {G S : Type 0} (inner : Ghosts G S) where
  -- a state stands for a play
  pub layer_plays : ((g : G) (s : S) → inner.is_at g s → IsPlay (inner.rules g) (inner.history_of g s))
      → (layer : Layer G) (state : LayerState G S) → IsLayerAt inner layer state → IsPlay (layer_rules inner layer) (layer_history inner layer state)
  unfolding IsLayerAt layer_rules layer_history
  layer_plays plays (Plain g) (PlainState s) at = plays g s at
  layer_plays plays (TurnBased g) (TurnBasedState s) at = turn_play (inner.rules g.inner) (inner.history_of g.inner s) (plays g.inner s at)
  layer_plays plays (Misere g) (MisereState s) at = misere_play (inner.rules g.inner) (inner.history_of g.inner s) (plays g.inner s at)
  layer_plays plays (Repeated g) (RepeatedStates s) at = at.play
  layer_plays plays (StartAt g) (StartAtState s) at = started_play inner g s at (plays g.inner s at.sound)
  layer_plays plays layer state at = absurd at

  pub layer_lawful : ((g : G) → inner.is_game g → IsLawful (inner.rules g))
      → (layer : Layer G) → IsLayerGame inner layer → IsLawful (layer_rules inner layer)
  unfolding IsLayerGame layer_rules
  layer_lawful lawful (Plain g) can = lawful g can
  layer_lawful lawful (TurnBased g) can = turn_lawful (inner.rules g.inner) (lawful g.inner can)
  layer_lawful lawful (Misere g) can = misere_lawful (inner.rules g.inner) (lawful g.inner can)
  layer_lawful lawful (Repeated g) can = can_repeat_lawful inner g.stage g.times can (lawful g.stage can.sound)
  layer_lawful lawful (StartAt g) can = started_lawful inner g can (lawful g.inner can.sound)

  -- a state belongs to a game that can be played
  pub layer_playable : ((g : G) (s : S) → inner.is_at g s → inner.is_game g)
      → (layer : Layer G) (state : LayerState G S) → IsLayerAt inner layer state → IsLayerGame inner layer
  unfolding IsLayerAt IsLayerGame
  layer_playable playable (Plain g) (PlainState s) at = playable g s at
  layer_playable playable (TurnBased g) (TurnBasedState s) at = playable g.inner s at
  layer_playable playable (Misere g) (MisereState s) at = playable g.inner s at
  layer_playable playable (Repeated g) (RepeatedStates s) at = at.can
  layer_playable playable (StartAt g) (StartAtState s) at = at.started
  layer_playable playable layer state at = absurd at
