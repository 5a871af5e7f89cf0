use Rattle.std.proofs.Common.{◌≡◌, length}
use Rattle.spiel_efg.specs.ReadingLines.{items_at, unweighted}
use Rattle.spiel_efg.proofs.ReadingLists.{ahead}
use Rattle.spiel_efg.proofs.read_lines.plain_actions.Given as goal

abbrev pub invariant-loop-actions : goal.invariant-loop-actions
invariant-loop-actions l = ahead l.actions (items_at unweighted l.reader) ≡ items_at unweighted l.fn.reader

abbrev pub decreases-loop-actions : goal.decreases-loop-actions
decreases-loop-actions l = length l.reader.marks
