use Rattle.std.proofs.Common.{◌≡◌, ◌-◌, ◌≤◌, length, take}
use Rattle.std.specs.Io.KnownBytes.{append_known}
use Rattle.spiel_io.proofs.calls.send.Given as goal

abbrev pub invariant-loop-sent : goal.invariant-loop-sent
invariant-loop-sent g l =
    record {
      within : l.sent ≤ length l.bytes;
      taken : (g.O.Sink.state l.sink).taken ≡ append_known ((g.O.Sink.state l.fn.sink).taken) (take l.sent l.bytes);
      quiet : (g.O.Sink.state l.sink).faults ≡ (g.O.Sink.state l.fn.sink).faults;
    }

abbrev pub decreases-loop-sent : goal.decreases-loop-sent
decreases-loop-sent g l = length l.bytes - l.sent
