use Rattle.spiel_string.specs.Stands.{Stands}
use Rattle.spiel_string.proofs.read.read_text.Given as goal

abbrev pub invariant-loop-at : goal.invariant-loop-at
invariant-loop-at l = Stands l.text l.at l.reader
