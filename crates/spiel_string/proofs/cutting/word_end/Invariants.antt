use Rattle.spiel_string.proofs.TokenSteps.{Reaches}
use Rattle.spiel_string.proofs.cutting.word_end.Given as goal

abbrev pub invariant-loop-to : goal.invariant-loop-to
invariant-loop-to l = Reaches l.bytes l.from l.to
