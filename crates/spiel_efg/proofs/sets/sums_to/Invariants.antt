use Rattle.std.proofs.Common.{◌≡◌, ◌+◌, take}
use Rattle.std.specs.Prelude.{sum}
use Rattle.spiel_efg.proofs.sets.sums_to.Given as goal

-- what is left of the total
abbrev pub invariant-loop-number : goal.invariant-loop-number
invariant-loop-number l = l.left + sum (take l.number-index l.numbers) ≡ l.total
