use Rattle.std.proofs.Common.{◌≡◌, length}
use Rattle.spiel_goof.specs.Cards.{held}
use Rattle.spiel_goof.proofs.cards.Cards.count.Given as goal

-- so many of the cards so far are left
abbrev pub invariant-loop-card : goal.invariant-loop-card
invariant-loop-card l = l.count ≡ length (held l.self l.card)
