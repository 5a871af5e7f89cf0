use Rattle.std.proofs.Common.{◌≡◌, ◌++◌, take}
use Rattle.spiel_frac.specs.Listed.{listed}
use Rattle.spiel_frac.proofs.listing.write_numbers.Given as goal

-- the numbers so far were added
abbrev pub invariant-loop-index : goal.invariant-loop-index
invariant-loop-index l = l.out ≡ l.fn.out ++ listed l.mark (take l.index l.numbers)
