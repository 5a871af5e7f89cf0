use Rattle.std.proofs.Common.{◌≡◌, ◌++◌, ℕ, zero, suc, List, [], length, Option, Some, None, Bor}
use Rattle.std.specs.Option.{option_map}
use Rattle.spiel_frac.specs.Listed.{numbers_between}
use Rattle.spiel_frac.proofs.listing.read_numbers.Given as goal

-- the numbers of what is left, if something is
abbrev pub numbers_left : ℕ → Option (Bor (List ℕ)) → Option (List ℕ)
numbers_left mark None = Some []
numbers_left mark (Some rest) = numbers_between mark rest.now

abbrev pub bytes_left : Option (Bor (List ℕ)) → ℕ
bytes_left None = zero
bytes_left (Some rest) = suc (length rest.now)

-- the numbers so far stand before those of what is left
abbrev pub invariant-loop-rest : goal.invariant-loop-rest
invariant-loop-rest l = numbers_between l.mark l.word ≡ option_map (λ more. l.numbers ++ more) (numbers_left l.mark l.rest)

abbrev pub decreases-loop-rest : goal.decreases-loop-rest
decreases-loop-rest l = bytes_left l.rest
