-- The state of a game of several rounds.
use Rattle.std.specs.Prelude.{◌≡◌, ℕ, ◌+◌, ◌*◌, ◌<◌, ◌≤◌, List, [], ◌∷◌, ◌++◌, length, take, drop, slice_index_or}
use Rattle.spiel_api.specs.declared.game.Game.{Ghosts}
use Rattle.spiel_api.specs.Plays.{IsPlay}
use Rattle.spiel_api.specs.States.{StandsFor}
use Rattle.spiel_layers.specs.Repeated.{CanRepeat, repeated_rules}
use Rattle.spiel_layers.specs.declared.repeated.Repeated.{Repeated}
use Rattle.spiel_layers.specs.declared.repeated.RepeatedState.{RepeatedState}

-- a state of the stage stands for the j-th piece of n numbers
pub record IsRoundAt {G S : Type 0} (inner : Ghosts G S) (stage : G) (n j : ℕ) (history : List ℕ) (state : S) : Type 0 where
  pub sound : inner.is_at stage state
  pub told : inner.history_of stage state ≡ take n (drop (j * n) history)

-- the history is a play, each round that is over stands for its piece, and the stage's state for the unfinished one
pub record IsRepeatedAt {G S : Type 0} (inner : Ghosts G S) (game : Repeated G) (state : RepeatedState S) : Type 0 where
  pub can : CanRepeat inner game.stage game.times
  pub play : IsPlay (repeated_rules game.times (inner.rules game.stage)) state.history
  pub count : length state.rounds ≤ game.times
  pub now : inner.is_at game.stage state.stage
  pub piece : inner.history_of game.stage state.stage ≡ drop (length state.rounds * (inner.rules game.stage).players) state.history
  pub long : length state.rounds * (inner.rules game.stage).players ≤ length state.history
  pub short : length state.history < length state.rounds * (inner.rules game.stage).players + (inner.rules game.stage).players
  pub done : (j : ℕ) (d : S) → j < length state.rounds → IsRoundAt inner game.stage (inner.rules game.stage).players j state.history (slice_index_or state.rounds j d)

-- the same, but the stage's state stands for the piece of the last number, which may be full
pub record IsInRound {G S : Type 0} (inner : Ghosts G S) (game : Repeated G) (state : RepeatedState S) : Type 0 where
  pub can : CanRepeat inner game.stage game.times
  pub play : IsPlay (repeated_rules game.times (inner.rules game.stage)) state.history
  pub count : length state.rounds < game.times
  pub now : inner.is_at game.stage state.stage
  pub piece : inner.history_of game.stage state.stage ≡ drop (length state.rounds * (inner.rules game.stage).players) state.history
  pub long : length state.rounds * (inner.rules game.stage).players < length state.history
  pub short : length state.history ≤ length state.rounds * (inner.rules game.stage).players + (inner.rules game.stage).players
  pub done : (j : ℕ) (d : S) → j < length state.rounds → IsRoundAt inner game.stage (inner.rules game.stage).players j state.history (slice_index_or state.rounds j d)

-- a number was added to the history and to the stage's state
pub record HasGrown {G S : Type 0} (inner : Ghosts G S) (game : Repeated G) (old : RepeatedState S) (a : ℕ) (new : RepeatedState S) : Type 0 where
  pub history : new.history ≡ old.history ++ a ∷ []
  pub rounds : new.rounds ≡ old.rounds
  pub stage : StandsFor (inner.is_at game.stage) (inner.history_of game.stage) new.stage (inner.history_of game.stage old.stage ++ a ∷ [])
