use Rattle.std.proofs.Common.{length}
use Rattle.spiel_rows.proofs.paragraphs.is_heading.Given as goal

abbrev pub decreases-loop-line : goal.decreases-loop-line
decreases-loop-line l = length l.rest
