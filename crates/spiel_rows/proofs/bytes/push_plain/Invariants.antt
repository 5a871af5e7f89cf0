use Rattle.std.proofs.Common.{length}
use Rattle.spiel_rows.proofs.bytes.push_plain.Given as goal

abbrev pub decreases-loop-plain : goal.decreases-loop-plain
decreases-loop-plain l = length l.rest
