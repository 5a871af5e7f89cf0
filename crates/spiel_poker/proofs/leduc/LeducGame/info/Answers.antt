use Rattle.std.proofs.Common.{ℕ, List, ◌++◌, codes, ap, subst, ◌∙◌}
use Rattle.std.specs.Prelude.{slice_index}
use Rattle.std.specs.Fmt.{decimal}
use Rattle.spiel_frac.specs.Adding.{AddsPart}
use Rattle.spiel_poker.specs.Leduc.{parts, round_texts}
use Rattle.spiel_frac.proofs.AddedTexts.{adds_failed, part_front, adds_behind}
use Rattle.spiel_poker.proofs.leduc.LeducGame.info.Goals as goal

-- the card, or a front of it
pub returns-in_err-write_card : goal.returns-in_err-write_card
returns-in_err-write_card c =
    let h = c.args.state.now.history in
    let card = decimal (slice_index h c.args.player) ++ codes ":" in
    let rounds = round_texts (parts 2 h).round (parts 2 h) in
    let part = subst (λ (xs : List ℕ). AddsPart c.args.out.now c.write_card.new.out (decimal (slice_index xs c.args.player) ++ codes ":")) c.items.ensures c.in_err-write_card.ensures in
    adds_failed c.from_residual.result c.args.out.now c.write_card.new.out (card ++ rounds) c.from_residual.ensures.0 (part_front c.args.out.now c.write_card.new.out card rounds part)

-- the card and the words
pub returns : goal.returns
returns c =
    let h = c.args.state.now.history in
    let card = decimal (slice_index h c.args.player) ++ codes ":" in
    let rounds = round_texts (parts 2 h).round (parts 2 h) in
    let before = c.in_ok-write_card.ensures ∙ ap (λ (xs : List ℕ). c.args.out.now ++ (decimal (slice_index xs c.args.player) ++ codes ":")) c.items.ensures in
    adds_behind c.write_rounds.result c.args.out.now c.write_card.new.out c.write_rounds.new.out card rounds before c.write_rounds.ensures
