use Rattle.std.proofs.Common.{arith, sym, ap, subst, ◌<◌, ◌+◌, ◌≡◌, length, suc, ℕ}
use Rattle.spiel_tree.specs.Flat.{rows_of}
use Rattle.spiel_tree.specs.States.{InfoState, states_below}
use Rattle.spiel_tree.proofs.StateReading.{state_within}
use Rattle.spiel_tree.proofs.states.player_of.Goals as goal

pub returns : goal.returns
returns c =
    let p = c.loop-player.player in
    let next : p + 1 ≡ suc p = omega arith in
    let before : c.args.state < length (states_below (p + 1) (rows_of c.args.rows.now)) = omega (arith, c.loop-player-test.false, c.loop-player.invariant.low, c.requires.starts.each (p + 1)) in
    let l = subst (λ (n : ℕ). c.args.state < length (states_below n (rows_of c.args.rows.now))) next before in
    let here = state_within c.args.rows.now c.args.state p c.loop-player.invariant.low c.loop-player.invariant.begun l in
    sym (ap (λ (state : InfoState). state.player) here.is)
