use Rattle.std.proofs.Common.{◌≡◌, take}
use Rattle.spiel_api.specs.States.{StandsFor}
use Rattle.spiel_layers.proofs.start_at.follow.Given as goal

-- the state stands for the numbers so far
abbrev pub invariant-loop-action : goal.invariant-loop-action
invariant-loop-action g l = let G = g.G.Game in record {
  state : StandsFor (G.is_at l.game) (G.history_of l.game) l.state (take l.action-index l.play);
}
