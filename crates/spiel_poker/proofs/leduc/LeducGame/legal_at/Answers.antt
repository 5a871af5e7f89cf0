use Rattle.std.proofs.Common.{List, ℕ, ap, sym, ◌∙◌}
use Rattle.std.specs.Prelude.{slice_index}
use Rattle.spiel_poker.proofs.Moves.{legal_at_other}
use Rattle.spiel_poker.proofs.leduc.LeducGame.legal_at.Goals as goal

-- where it is no card, it is a word of the speaker
pub returns-in_default : goal.returns-in_default
returns-in_default c =
    let legal = legal_at_other c.args.state.now c.args._player c.args.index c.requires.at (λ card. c.in_default.not-Chance (c.place.ensures ∙ card)) c.requires.index in
    c.word_at.ensures ∙ ap (λ (xs : List ℕ). slice_index xs c.args.index) (sym legal)
