use Rattle.std.proofs.Common.{◌≡◌, ℕ, List, ◌++◌, codes, ap, sym, subst, ◌∙◌, append_assoc}
use Rattle.spiel_frac.specs.Adding.{Adds, AddsPart}
use Rattle.spiel_goof.specs.Goofspiel.{bid_of, other_text, turn_text}
use Rattle.spiel_frac.proofs.AddedTexts.{adds_behind, adds_failed, part_front, part_behind}
use Rattle.spiel_goof.proofs.Texts.{turn_pieces, card_piece, other_piece}
use Rattle.spiel_goof.proofs.goofspiel.Goofspiel.push_turn.Goals as goal

-- a front of the point card
pub returns-in_err-push_card : goal.returns-in_err-push_card
returns-in_err-push_card c =
    let hidden = c.args.self.now.hidden in
    let turn = c.args.turn.now in
    let p = c.args.player in
    let old = c.args.out.now in
    let new = c.push_card.new.out in
    let point = card_piece turn.point in
    let own = card_piece (bid_of p turn) in
    let part = part_front old new (point ++ own) (other_piece hidden p turn) (part_front old new point own c.in_err-push_card.ensures) in
    adds_failed c.from_residual.result old new (turn_text hidden p turn) c.from_residual.ensures.0 (subst (AddsPart old new) (sym (turn_pieces hidden p turn)) part)

-- a front of the own bid behind it
pub returns-in_err-push_card-2 : goal.returns-in_err-push_card-2
returns-in_err-push_card-2 c =
    let hidden = c.args.self.now.hidden in
    let turn = c.args.turn.now in
    let p = c.args.player in
    let old = c.args.out.now in
    let mid = c.push_card.new.out in
    let new = c.push_card-2.new.out in
    let point = card_piece turn.point in
    let own = card_piece (bid_of p turn) in
    let second = subst (λ (card : ℕ). AddsPart mid new (card_piece card)) c.bid-own.ensures c.in_err-push_card-2.ensures in
    let part = part_front old new (point ++ own) (other_piece hidden p turn) (part_behind old mid new point own c.in_ok-push_card.ensures second) in
    adds_failed c.from_residual-in_err-push_card-2.result old new (turn_text hidden p turn) c.from_residual-in_err-push_card-2.ensures.0 (subst (AddsPart old new) (sym (turn_pieces hidden p turn)) part)

-- the other's bid behind both
pub returns : goal.returns
returns c =
    let hidden = c.args.self.now.hidden in
    let turn = c.args.turn.now in
    let p = c.args.player in
    let old = c.args.out.now in
    let first = c.push_card.new.out in
    let mid = c.push_card-2.new.out in
    let new = c.push_other.new.out in
    let point = card_piece turn.point in
    let own = card_piece (bid_of p turn) in
    let before : mid ≡ old ++ (point ++ own) =
    c.in_ok-push_card-2.ensures ∙ ap (λ (card : ℕ). first ++ card_piece card) c.bid-own.ensures ∙ ap (λ (text : List ℕ). text ++ own) c.in_ok-push_card.ensures ∙ append_assoc old point own in
    let by_own = subst (λ (card : ℕ). Adds c.push_other.result mid new (other_text hidden card c.bid-other.result ++ codes " ")) c.bid-own.ensures c.push_other.ensures in
    let last = subst (λ (card : ℕ). Adds c.push_other.result mid new (other_text hidden (bid_of p turn) card ++ codes " ")) c.bid-other.ensures by_own in
    subst (Adds c.push_other.result old new) (sym (turn_pieces hidden p turn)) (adds_behind c.push_other.result old mid new (point ++ own) (other_piece hidden p turn) before last)
