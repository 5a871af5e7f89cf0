use Rattle.std.proofs.Common.{◌≡◌, ◌≤◌, length}
use Rattle.spiel_goof.specs.Cards.{held}
use Rattle.spiel_goof.proofs.cards.Cards.at.Given as goal

-- so many of the cards so far are left, and the one at the index isn't among them
abbrev pub invariant-loop-card : goal.invariant-loop-card
invariant-loop-card l = (l.before ≡ length (held l.self l.card)) × (l.before ≤ l.index)
