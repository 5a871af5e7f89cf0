use Rattle.spiel_tree.proofs.StateReading.{player_texts, state_missed}
use Rattle.spiel_tree.proofs.states.find.Goals as goal

pub returns-in_err-number-clause-none : goal.returns-in_err-number-clause-none
returns-in_err-number-clause-none c =
    let are = player_texts c.args.rows.now c.args.player c.index.result.now c.requires.built c.requires.player c.index.ensures in
    rw c.from_residual.ensures (state_missed c.args.rows.now c.args.player c.index.result.now c.args.text.now are c.in_err-number.ensures.none)
