use Rattle.std.proofs.Common.{◌≡◌, ◌++◌, take}
use Rattle.spiel_string.specs.Quoting.{escaped}
use Rattle.spiel_string.proofs.quoting.push_all_escaped.Given as goal

abbrev pub invariant-loop-byte : goal.invariant-loop-byte
invariant-loop-byte l = l.out ≡ l.fn.out ++ escaped (take l.byte-index l.text)
