use Rattle.std.proofs.Common.{◌≡◌, map, nat_abs, take}
use Rattle.spiel_efg.proofs.sets.sizes.Given as goal

-- the sizes so far
abbrev pub invariant-loop-part : goal.invariant-loop-part
invariant-loop-part l = l.sizes ≡ map nat_abs (take l.part-index l.parts)
