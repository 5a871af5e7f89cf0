use Rattle.std.proofs.Common.{length, ap, sym, ◌∙◌}
use Rattle.spiel_goof.specs.declared.table.Seat.{Seat}
use Rattle.spiel_goof.specs.Cards.{held}
use Rattle.spiel_goof.proofs.Numbers.{deck_has, hand_has}
use Rattle.spiel_goof.proofs.goofspiel.GoofspielGame.legal_count.Goals as goal

-- the point cards that are left
pub returns-in-Chance : goal.returns-in-Chance
returns-in-Chance c = c.count.ensures ∙ ap length (deck_has c.args.self.now c.args.state.now c.args.player c.requires.at (sym c.place.ensures ∙ c.in-Chance.is))

-- the player's hand
pub returns-in_default : goal.returns-in_default
returns-in_default c =
    let g = c.args.self.now in
    let cards = hand_has g c.args.state.now c.args.player c.requires.at c.requires.player (λ e. c.in_default.not-Chance (c.place.ensures ∙ e)) (λ e. c.in_default.not-End (c.place.ensures ∙ e)) in
    c.count-in_default.ensures ∙ ap (λ (holding : Seat). length (held holding.hand g.cards)) c.seat.ensures ∙ ap length cards
