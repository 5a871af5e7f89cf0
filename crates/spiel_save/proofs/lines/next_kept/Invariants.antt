use Rattle.std.proofs.Common.{◌≡◌, ◌≤◌, ◌+◌, length}
use Rattle.spiel_save.specs.Lines.{kept_from}
use Rattle.spiel_save.proofs.lines.next_kept.Given as goal

-- the kept lines are those of what is left
abbrev pub invariant-loop-line : goal.invariant-loop-line
invariant-loop-line l = record {
  same : kept_from l.fn.above l.fn.bytes ≡ kept_from l.number l.rest;
  within : l.number + length l.rest ≤ l.fn.above + length l.fn.bytes;
  shorter : length l.rest ≤ length l.fn.bytes;
}

abbrev pub decreases-loop-line : goal.decreases-loop-line
decreases-loop-line l = length l.rest
