use Rattle.std.proofs.Common.{◌≡◌, length, None}
use Rattle.spiel_frac.specs.Cuts.{cut}
use Rattle.spiel_rows.proofs.bytes.push_bytes.Given as goal

-- a text without a backslash is still to be added
abbrev pub invariant-loop-plain : goal.invariant-loop-plain
invariant-loop-plain l = cut 92 l.text ≡ None → (l.rest ≡ l.text) × (l.out ≡ l.fn.out)

abbrev pub decreases-loop-plain : goal.decreases-loop-plain
decreases-loop-plain l = length l.rest
