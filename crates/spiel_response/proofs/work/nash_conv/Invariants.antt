use Rattle.std.proofs.Common.{◌≡◌}
use Rattle.spiel_response.specs.BestResponses.{gains_below}
use Rattle.spiel_response.proofs.work.nash_conv.Given as goal

abbrev pub invariant-loop-player : goal.invariant-loop-player
invariant-loop-player l = l.gains ≡ gains_below l.work.judged l.player
