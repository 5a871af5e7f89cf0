use Rattle.std.proofs.Common.{◌≡◌, ◌<◌, ℕ, length}
use Rattle.std.specs.Prelude.{slice_index_or}
use Rattle.spiel_layers.specs.RepeatedState.{IsRoundAt}
use Rattle.spiel_layers.proofs.repeated.RepeatedGame.copy.Given as goal

-- the rounds so far stand for the same plays
abbrev pub invariant-loop-round : goal.invariant-loop-round
invariant-loop-round g l =
    let G = g.G.Game in record {
      history : l.history ≡ l.state.history;
      count : length l.rounds ≡ l.round-index;
      done : (j : ℕ) (d : g.row.G-State.Denot) → j < l.round-index → IsRoundAt G l.self.stage (G.rules l.self.stage).players j l.state.history (slice_index_or l.rounds j d);
    }
