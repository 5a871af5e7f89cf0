use Rattle.std.proofs.Common.{◌≤◌}
use Rattle.spiel_response.specs.Answered.{HasRoom, IsPassed, OthersStay}
use Rattle.spiel_response.proofs.responding.pass_back.Given as goal

abbrev pub invariant-loop-state : goal.invariant-loop-state
invariant-loop-state l = record {
  least : l.low ≤ l.state;
  room : HasRoom l.table l.sums l.answers;
  passed : IsPassed l.table l.player l.state l.sums l.answers;
  others : OthersStay l.table l.player l.fn.answers l.answers;
}
