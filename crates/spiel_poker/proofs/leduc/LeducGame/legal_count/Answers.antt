use Rattle.std.proofs.Common.{◌≡◌, length, ap, sym, ◌∙◌, eq-eqb}
use Rattle.spiel_api.specs.declared.place.Place.TheVariants.{Move}
use Rattle.spiel_poker.specs.Leduc.{leduc_place}
use Rattle.spiel_poker.proofs.Moves.{legal_at_move}
use Rattle.spiel_poker.proofs.leduc.LeducGame.legal_count.Goals as goal

-- the mover has the speaker's words
pub returns-in-Move : goal.returns-in-Move
returns-in-Move c =
    let state = c.args.state.now in
    let here : leduc_place 2 state.history ≡ Move c.in-Move.mover = sym c.place.ensures ∙ c.in-Move.is in
    let legal = rw (eq-eqb c.args.player c.in-Move.mover (sym c.if-mover-player.true)) at (legal_at_move state c.args.player c.in-Move.mover c.requires.at here) in
    c.word_count.ensures ∙ ap length (sym legal)
