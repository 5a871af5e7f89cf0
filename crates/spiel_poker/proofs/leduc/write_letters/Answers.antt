use Rattle.std.proofs.Common.{List, ℕ, map, take, drop, ap, sym, subst, ◌∙◌, take-append-drop}
use Rattle.std.proofs.lemmas.List.{map-append}
use Rattle.spiel_frac.specs.Adding.{AddsPart}
use Rattle.spiel_poker.specs.Betting.{word_letter}
use Rattle.spiel_frac.proofs.AddedTexts.{adds_failed, part_front, part_whole}
use Rattle.spiel_poker.proofs.leduc.write_letters.Goals as goal

-- the letters so far
pub returns-in_err-push : goal.returns-in_err-push
returns-in_err-push c =
    let words = c.args.words.now in
    let i = c.loop-word.word-index in
    let whole = sym (map-append word_letter (take i words) (drop i words)) ∙ ap (λ (xs : List ℕ). map word_letter xs) (take-append-drop i words) in
    adds_failed c.from_residual.result c.args.out.now c.push.new.self (map word_letter words) c.from_residual.ensures.0
    (subst (λ (text : List ℕ). AddsPart c.args.out.now c.push.new.self text) whole
    (part_front c.args.out.now c.push.new.self (map word_letter (take i words)) (map word_letter (drop i words))
    (part_whole c.args.out.now c.push.new.self (map word_letter (take i words)) (c.in_err-push.ensures.err ∙ c.loop-word.invariant))))
