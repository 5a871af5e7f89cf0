use Rattle.std.proofs.Common.{◌≡◌, length}
use Rattle.spiel_efg.proofs.ReadingLists.{ahead_of, chances_at}
use Rattle.spiel_efg.proofs.read_lines.chance_actions.Given as goal

abbrev pub invariant-loop-actions : goal.invariant-loop-actions
invariant-loop-actions l = ahead_of l.actions (chances_at l.reader) ≡ chances_at l.fn.reader

abbrev pub decreases-loop-actions : goal.decreases-loop-actions
decreases-loop-actions l = length l.reader.marks
