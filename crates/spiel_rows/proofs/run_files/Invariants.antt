use Rattle.std.proofs.Common.{◌≤◌}
use Rattle.spiel_rows.proofs.run_files.Given as goal

abbrev pub invariant-loop-name : goal.invariant-loop-name
invariant-loop-name g l = l.fn.tally.others ≤ l.tally.others
