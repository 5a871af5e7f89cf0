use Rattle.std.proofs.Common.{◌≤◌, length}
use Rattle.spiel_rows.proofs.paragraphs.run_rows.Given as goal

abbrev pub invariant-loop-rest : goal.invariant-loop-rest
invariant-loop-rest g l = l.fn.tally.others ≤ l.tally.others

abbrev pub decreases-loop-rest : goal.decreases-loop-rest
decreases-loop-rest g l = length l.rest
