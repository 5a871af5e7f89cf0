use Rattle.std.proofs.Common.{◌≡◌, ◌≤◌, ◌-◌, length, drop}
use Rattle.spiel_string.specs.Tokens.{tokens_from}
use Rattle.spiel_string.specs.Cutting.{after}
use Rattle.spiel_string.proofs.cutting.tokens.Given as goal

abbrev pub invariant-loop-at : goal.invariant-loop-at
invariant-loop-at l = record {
  within : l.at ≤ length l.bytes;
  same : tokens_from 0 l.bytes ≡ after l.found (tokens_from l.at (drop l.at l.bytes));
}

abbrev pub decreases-loop-at : goal.decreases-loop-at
decreases-loop-at l = length l.bytes - l.at
