use Rattle.spiel_string.specs.Quoting.{Unescapes}
use Rattle.spiel_string.proofs.quoting.unescape.Given as goal

abbrev pub invariant-loop-byte : goal.invariant-loop-byte
invariant-loop-byte l = Unescapes l.bytes l.byte-index l.behind l.fn.out l.out
