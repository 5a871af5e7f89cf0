use Rattle.std.proofs.Common.{◌≡◌, ℕ, List, ◌++◌, map, codes, ap, sym, subst, ◌∙◌, append_assoc}
use Rattle.std.specs.Fmt.{decimal}
use Rattle.spiel_frac.specs.Adding.{Adds, AddsPart}
use Rattle.spiel_poker.specs.Betting.{word_letter}
use Rattle.spiel_poker.specs.Leduc.{parts, letters, round_texts}
use Rattle.spiel_frac.proofs.AddedTexts.{adds_failed, part_front, part_whole, part_behind, adds_behind}
use Rattle.spiel_poker.proofs.leduc.LeducState.write_both.Goals as goal

-- a front of the first round's letters
pub returns-in_err-write_letters : goal.returns-in_err-write_letters
returns-in_err-write_letters c =
    let x = parts 2 c.args.self.now.history in
    let old = c.args.out.now in
    let new = c.write_letters.new.out in
    let part = subst (λ (xs : List ℕ). AddsPart old new (map word_letter xs)) c.first_words.ensures c.in_err-write_letters.ensures in
    adds_failed c.from_residual.result old new (round_texts 2 x) c.from_residual.ensures.0
    (part_front old new (letters x.first ++ codes "/" ++ decimal x.public ++ codes ":") (letters x.words)
    (part_front old new (letters x.first ++ codes "/" ++ decimal x.public) (codes ":")
    (part_front old new (letters x.first ++ codes "/") (decimal x.public)
    (part_front old new (letters x.first) (codes "/") part))))

-- the first round's letters
pub returns-in_err-push : goal.returns-in_err-push
returns-in_err-push c =
    let x = parts 2 c.args.self.now.history in
    let old = c.args.out.now in
    let new = c.push.new.self in
    let first = c.in_ok-write_letters.ensures ∙ ap (λ (xs : List ℕ). old ++ map word_letter xs) c.first_words.ensures in
    adds_failed c.from_residual-in_err-push.result old new (round_texts 2 x) c.from_residual-in_err-push.ensures.0
    (part_front old new (letters x.first ++ codes "/" ++ decimal x.public ++ codes ":") (letters x.words)
    (part_front old new (letters x.first ++ codes "/" ++ decimal x.public) (codes ":")
    (part_front old new (letters x.first ++ codes "/") (decimal x.public)
    (part_front old new (letters x.first) (codes "/")
    (part_whole old new (letters x.first) (c.in_err-push.ensures.err ∙ first))))))

-- a front of the public card behind the first round
pub returns-in_err-write_card : goal.returns-in_err-write_card
returns-in_err-write_card c =
    let x = parts 2 c.args.self.now.history in
    let old = c.args.out.now in
    let new = c.write_card.new.out in
    let first = c.in_ok-write_letters.ensures ∙ ap (λ (xs : List ℕ). old ++ map word_letter xs) c.first_words.ensures in
    let slash = c.in_ok-push.ensures.ok ∙ ap (λ (xs : List ℕ). xs ++ codes "/") first ∙ append_assoc old (letters x.first) (codes "/") in
    let card = subst (λ (n : ℕ). AddsPart c.push.new.self new (decimal n ++ codes ":")) (sym c.requires.at.shows.public) c.in_err-write_card.ensures in
    let part = part_behind old c.push.new.self new (letters x.first ++ codes "/") (decimal x.public ++ codes ":") slash card in
    adds_failed c.from_residual-in_err-write_card.result old new (round_texts 2 x) c.from_residual-in_err-write_card.ensures.0
    (part_front old new (letters x.first ++ codes "/" ++ decimal x.public ++ codes ":") (letters x.words)
    (subst (λ (text : List ℕ). AddsPart old new text) (sym (append_assoc (letters x.first ++ codes "/") (decimal x.public) (codes ":"))) part))

-- the second round's letters behind the rest
pub returns : goal.returns
returns c =
    let x = parts 2 c.args.self.now.history in
    let old = c.args.out.now in
    let first = c.in_ok-write_letters.ensures ∙ ap (λ (xs : List ℕ). old ++ map word_letter xs) c.first_words.ensures in
    let slash = c.in_ok-push.ensures.ok ∙ ap (λ (xs : List ℕ). xs ++ codes "/") first ∙ append_assoc old (letters x.first) (codes "/") in
    let before = letters x.first ++ codes "/" ++ decimal x.public ++ codes ":" in
    let card : c.write_card.new.out ≡ old ++ before =
    c.in_ok-write_card.ensures
    ∙ ap (λ (n : ℕ). c.push.new.self ++ (decimal n ++ codes ":")) (sym c.requires.at.shows.public)
    ∙ ap (λ (xs : List ℕ). xs ++ (decimal x.public ++ codes ":")) slash
    ∙ append_assoc old (letters x.first ++ codes "/") (decimal x.public ++ codes ":")
    ∙ ap (λ (xs : List ℕ). old ++ xs) (sym (append_assoc (letters x.first ++ codes "/") (decimal x.public) (codes ":"))) in
    let last = subst (λ (xs : List ℕ). Adds c.write_letters-2.result c.write_card.new.out c.write_letters-2.new.out (map word_letter xs)) c.second_words.ensures c.write_letters-2.ensures in
    adds_behind c.write_letters-2.result old c.write_card.new.out c.write_letters-2.new.out before (letters x.words) card last
