use Rattle.std.proofs.Common.{◌≡◌, ◌+◌, drop}
use Rattle.spiel_string.specs.Tokens.{text_from}
use Rattle.spiel_string.specs.Cutting.{inside}
use Rattle.spiel_string.proofs.cutting.text_end.Given as goal

abbrev pub invariant-loop-at : goal.invariant-loop-at
invariant-loop-at l = text_from l.opened (l.opened + 1) (drop (l.opened + 1) l.bytes) ≡ inside l.behind l.opened l.at (drop l.at l.bytes)
