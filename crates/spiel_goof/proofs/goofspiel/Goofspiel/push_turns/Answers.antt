use Rattle.spiel_goof.specs.declared.turns.Turn.{Turn}
use Rattle.spiel_goof.specs.Goofspiel.{turn_text}
use Rattle.spiel_frac.proofs.AddedTexts.{adds_failed, part_of_next}
use Rattle.spiel_goof.proofs.goofspiel.Goofspiel.push_turns.Goals as goal

-- the turns so far, and a front of the next
pub returns-in_err-push_turn : goal.returns-in_err-push_turn
returns-in_err-push_turn c =
    let seen = turn_text c.args.self.now.hidden c.args.player in
    let none : Turn = record { point = 0; first = 0; second = 0 } in
    adds_failed c.from_residual.result _ _ _ c.from_residual.ensures.0
    (part_of_next seen c.args.turns.now c.loop-turn.turn-index none c.args.out.now c.loop-turn.out c.push_turn.new.out c.loop-turn-test.true c.loop-turn.invariant c.in_err-push_turn.ensures)
