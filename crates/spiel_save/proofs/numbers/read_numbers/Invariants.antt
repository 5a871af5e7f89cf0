use Rattle.std.proofs.Common.{◌≡◌, ◌≤◌, ◌+◌, length}
use Rattle.spiel_save.specs.Lines.{kept_from}
use Rattle.spiel_save.specs.Numbers.{numbers_of}
use Rattle.spiel_save.proofs.Reading.{after}
use Rattle.spiel_save.proofs.numbers.read_numbers.Given as goal

-- the numbers so far stand before those of the lines that are left
abbrev pub invariant-loop-at : goal.invariant-loop-at
invariant-loop-at l = record {
  same : numbers_of (kept_from l.fn.above l.fn.bytes) ≡ after l.numbers (numbers_of (kept_from l.passed l.rest));
  within : l.passed + length l.rest ≤ l.fn.above + length l.fn.bytes;
}

abbrev pub decreases-loop-at : goal.decreases-loop-at
decreases-loop-at l = length l.rest
