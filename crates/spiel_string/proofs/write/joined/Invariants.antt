use Rattle.std.proofs.Common.{◌≡◌, take}
use Rattle.spiel_string.specs.Canonical.{joined}
use Rattle.spiel_string.proofs.write.joined.Given as goal

abbrev pub invariant-loop-at : goal.invariant-loop-at
invariant-loop-at l = l.out ≡ joined (take l.at l.entries)
