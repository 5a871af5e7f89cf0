use Rattle.std.proofs.Common.{◌≡◌, length}
use Rattle.spiel_efg.specs.ReadingLines.{texts_at}
use Rattle.spiel_efg.proofs.ReadingLists.{ahead}
use Rattle.spiel_efg.proofs.read_lines.texts.Given as goal

abbrev pub invariant-loop-texts : goal.invariant-loop-texts
invariant-loop-texts l = ahead l.texts (texts_at l.reader) ≡ texts_at l.fn.reader

abbrev pub decreases-loop-texts : goal.decreases-loop-texts
decreases-loop-texts l = length l.reader.marks
