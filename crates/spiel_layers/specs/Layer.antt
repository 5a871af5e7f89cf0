-- What a layer means: what the game of its variant means, made of the inner games. Each definition has one line for each variant.
use Rattle.std.specs.Prelude.{ℕ, List, []}
use Rattle.spiel_api.specs.declared.game.Game.{Ghosts}
use Rattle.spiel_api.specs.Rules.{Rules}
use Rattle.spiel_layers.specs.declared.layer.Layer.{Layer}
use Rattle.spiel_layers.specs.declared.layer.Layer.TheVariants.{Plain, TurnBased, Misere, Repeated, StartAt}
use Rattle.spiel_layers.specs.declared.layer.LayerState.{LayerState}
use Rattle.spiel_layers.specs.declared.layer.LayerState.TheVariants.{Plain as PlainState, TurnBased as TurnBasedState, Misere as MisereState, Repeated as RepeatedStates, StartAt as StartAtState}
use Rattle.spiel_layers.specs.TurnBased.{turn_based_rules}
use Rattle.spiel_layers.specs.Misere.{misere_rules}
use Rattle.spiel_layers.specs.Repeated.{CanRepeat, repeated_rules}
use Rattle.spiel_layers.specs.RepeatedState.{IsRepeatedAt}
use Rattle.spiel_layers.specs.StartAt.{IsStarted, IsStartedAt, start_at_history, start_at_rules}

module _ {G S : Type 0} (inner : Ghosts G S) where
  -- the game can be played
  unfoldable pub IsLayerGame : Layer G → Type 0
  IsLayerGame (Plain g) = inner.is_game g
  IsLayerGame (TurnBased g) = inner.is_game g.inner
  IsLayerGame (Misere g) = inner.is_game g.inner
  IsLayerGame (Repeated g) = CanRepeat inner g.stage g.times
  IsLayerGame (StartAt g) = IsStarted inner g

  unfoldable pub layer_rules : Layer G → Rules
  layer_rules (Plain g) = inner.rules g
  layer_rules (TurnBased g) = turn_based_rules (inner.rules g.inner)
  layer_rules (Misere g) = misere_rules (inner.rules g.inner)
  layer_rules (Repeated g) = repeated_rules g.times (inner.rules g.stage)
  layer_rules (StartAt g) = start_at_rules g.prefix (inner.rules g.inner)

  -- a state stands for a play of a layer only where both have the same variant
  unfoldable pub IsLayerAt : Layer G → LayerState G S → Type 0
  IsLayerAt (Plain g) (PlainState s) = inner.is_at g s
  IsLayerAt (TurnBased g) (TurnBasedState s) = inner.is_at g.inner s
  IsLayerAt (Misere g) (MisereState s) = inner.is_at g.inner s
  IsLayerAt (Repeated g) (RepeatedStates s) = IsRepeatedAt inner g s
  IsLayerAt (StartAt g) (StartAtState s) = IsStartedAt inner g s
  IsLayerAt layer state = ⊥

  -- the play for which the state stands
  unfoldable pub layer_history : Layer G → LayerState G S → List ℕ
  layer_history (Plain g) (PlainState s) = inner.history_of g s
  layer_history (TurnBased g) (TurnBasedState s) = inner.history_of g.inner s
  layer_history (Misere g) (MisereState s) = inner.history_of g.inner s
  layer_history (Repeated g) (RepeatedStates s) = s.history
  layer_history (StartAt g) (StartAtState s) = start_at_history inner g s
  layer_history layer state = []
