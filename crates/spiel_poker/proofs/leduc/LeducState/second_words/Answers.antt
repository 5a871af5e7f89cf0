use Rattle.std.proofs.Common.{ℕ, List, ◌+◌, ◌-◌, length, drop, ap, ◌∙◌, arith}
use Rattle.std.proofs.lemmas.List.{take_all, length-drop}
use Rattle.spiel_poker.proofs.Said.{second_words}
use Rattle.spiel_poker.proofs.leduc.LeducState.second_words.Goals as goal

-- all that stands behind the public card
pub returns : goal.returns
returns c =
    let s = c.args.self.now in
    let xs = c.items.result.now in
    take_all (length xs - (s.public_at + 1)) (drop (s.public_at + 1) xs) (omega (arith, length-drop (s.public_at + 1) xs))
    ∙ ap (λ (h : List ℕ). drop (s.public_at + 1) h) c.items.ensures
    ∙ second_words s c.requires.at c.requires.second
