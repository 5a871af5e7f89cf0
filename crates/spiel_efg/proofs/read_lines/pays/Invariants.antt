use Rattle.std.proofs.Common.{◌≡◌, ◌-◌}
use Rattle.spiel_efg.specs.ReadingLines.{pays_at}
use Rattle.spiel_efg.proofs.ReadingLists.{ahead_of}
use Rattle.spiel_efg.proofs.read_lines.pays.Given as goal

abbrev pub invariant-loop : goal.invariant-loop
invariant-loop l = ahead_of l.pays (pays_at (l.players - l.counter) l.reader) ≡ pays_at l.players l.fn.reader
