use Rattle.std.proofs.Common.{◌≡◌, drop}
use Rattle.spiel_string.specs.Tokens.{tokens_from}
use Rattle.spiel_string.proofs.cutting.past_space.Given as goal

abbrev pub invariant-loop-at : goal.invariant-loop-at
invariant-loop-at l = tokens_from 0 l.bytes ≡ tokens_from l.at (drop l.at l.bytes)
