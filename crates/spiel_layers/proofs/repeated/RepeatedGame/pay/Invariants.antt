use Rattle.std.proofs.Common.{◌≡◌}
use Rattle.spiel_layers.specs.Repeated.{rounds_pay}
use Rattle.spiel_layers.proofs.repeated.RepeatedGame.pay.Given as goal

-- the returns of the rounds so far
abbrev pub invariant-loop-round : goal.invariant-loop-round
invariant-loop-round g l =
    let stage = g.G.Game.rules l.self.stage in
    l.total ≡ rounds_pay stage.players (λ piece. stage.pay piece l.player) l.round-index l.state.history
