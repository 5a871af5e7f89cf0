use Rattle.std.proofs.Common.{ℕ, ◌<◌, List, length, ap, sym, subst, ◌∙◌}
use Rattle.std.specs.Prelude.{slice_index}
use Rattle.spiel_goof.specs.declared.table.Seat.{Seat}
use Rattle.spiel_goof.specs.Cards.{held}
use Rattle.spiel_goof.proofs.Numbers.{deck_has, hand_has_some}
use Rattle.spiel_goof.proofs.goofspiel.GoofspielGame.legal_at.Goals as goal

-- one of the point cards that are left
pub at-requires-clause-index : goal.at-requires-clause-index
at-requires-clause-index c =
    let cards = deck_has c.args.self.now c.args.state.now c.args.player c.requires.at (sym c.place.ensures ∙ c.in-Chance.is) in
    subst (λ (xs : List ℕ). c.args.index < length xs) (sym cards) c.requires.index

pub returns-in-Chance : goal.returns-in-Chance
returns-in-Chance c =
    let cards = deck_has c.args.self.now c.args.state.now c.args.player c.requires.at (sym c.place.ensures ∙ c.in-Chance.is) in
    c.at.ensures ∙ ap (λ (xs : List ℕ). slice_index xs c.args.index) cards

-- one of the player's hand
pub at-requires-in_default : goal.at-requires-in_default
at-requires-in_default c =
    let g = c.args.self.now in
    let cards = hand_has_some g c.args.state.now c.args.player c.args.index c.requires.at c.requires.player (λ e. c.in_default.not-Chance (c.place.ensures ∙ e)) c.requires.index in
    record {
      few = c.requires.at.range.high;
      index = subst (λ (holding : Seat). c.args.index < length (held holding.hand g.cards)) (sym c.seat.ensures) (subst (λ (xs : List ℕ). c.args.index < length xs) (sym cards) c.requires.index);
    }

pub returns-in_default : goal.returns-in_default
returns-in_default c =
    let g = c.args.self.now in
    let cards = hand_has_some g c.args.state.now c.args.player c.args.index c.requires.at c.requires.player (λ e. c.in_default.not-Chance (c.place.ensures ∙ e)) c.requires.index in
    c.at-in_default.ensures ∙ ap (λ (holding : Seat). slice_index (held holding.hand g.cards) c.args.index) c.seat.ensures ∙ ap (λ (xs : List ℕ). slice_index xs c.args.index) cards
