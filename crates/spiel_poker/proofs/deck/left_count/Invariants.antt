use Rattle.std.proofs.Common.{◌≡◌, length}
use Rattle.spiel_api.specs.Deck.{cards_left}
use Rattle.spiel_poker.proofs.deck.left_count.Given as goal

-- so many of the cards so far are left
abbrev pub invariant-loop-card : goal.invariant-loop-card
invariant-loop-card l = l.left ≡ length (cards_left l.card-counter l.dealt)
