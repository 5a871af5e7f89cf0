use Rattle.std.proofs.Common.{◌≡◌, ℕ, zero, suc, List, length, Option, Some, None, Bor, Bool, true}
use Rattle.std.specs.Option.{is_some}
use Rattle.spiel_frac.specs.Listed.{numbers_between}
use Rattle.spiel_frac.proofs.listing.are_numbers.Given as goal

-- each part of what is left is a number, if something is left
abbrev pub are_left : ℕ → Option (Bor (List ℕ)) → Bool
are_left mark None = true
are_left mark (Some rest) = is_some (numbers_between mark rest.now)

abbrev pub bytes_left : Option (Bor (List ℕ)) → ℕ
bytes_left None = zero
bytes_left (Some rest) = suc (length rest.now)

-- all parts are numbers where those of what is left are
abbrev pub invariant-loop-rest : goal.invariant-loop-rest
invariant-loop-rest l = is_some (numbers_between l.mark l.word) ≡ are_left l.mark l.rest

abbrev pub decreases-loop-rest : goal.decreases-loop-rest
decreases-loop-rest l = bytes_left l.rest
