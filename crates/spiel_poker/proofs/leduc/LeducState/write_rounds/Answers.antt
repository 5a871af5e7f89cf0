use Rattle.std.proofs.Common.{ℕ, List, ◌-◌, length, map, drop, ap, subst, ◌∙◌, arith}
use Rattle.std.proofs.lemmas.List.{take_all, length-drop}
use Rattle.spiel_frac.specs.Adding.{Adds}
use Rattle.spiel_poker.specs.Betting.{word_letter}
use Rattle.spiel_poker.proofs.Said.{early_texts}
use Rattle.spiel_poker.proofs.leduc.LeducState.write_rounds.Goals as goal

-- the words of the first round
pub returns-in_default : goal.returns-in_default
returns-in_default c =
    let s = c.args.self.now in
    let xs = c.items.result.now in
    let text = ap (λ (ys : List ℕ). map word_letter ys) (take_all (length xs - 2) (drop 2 xs) (omega (arith, length-drop 2 xs)) ∙ ap (λ (ys : List ℕ). drop 2 ys) c.items.ensures)
    ∙ early_texts s c.requires.at c.in_default.not-Second c.requires.cards in
    subst (λ (ys : List ℕ). Adds c.write_letters.result c.args.out.now c.write_letters.new.out ys) text c.write_letters.ensures
