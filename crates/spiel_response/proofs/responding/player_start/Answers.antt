use Rattle.std.proofs.Common.{arith}
use Rattle.spiel_response.proofs.StateOrder.{state_before, state_behind, states_rise}
use Rattle.spiel_response.proofs.responding.player_start.Goals as goal

pub returns-then-state_player-player : goal.returns-then-state_player-player
returns-then-state_player-player c =
    let t = c.args.tree.now in
    omega (arith, state_behind t.players t.rows c.args.player c.loop-state.state (omega (arith, c.loop-state-test.true, c.states-states.ensures.count)) (omega (arith, c.if-state_player-player.true, c.state_player.ensures)), c.loop-state.invariant)

pub loop-state-preserved : goal.loop-state-preserved
loop-state-preserved c =
    let t = c.args.tree.now in
    omega (arith, state_before t.players t.rows c.args.player c.loop-state.state (omega (arith, c.loop-state-test.true, c.states-states.ensures.count)) (omega (arith, c.if-state_player-player.false, c.state_player.ensures)))

pub returns : goal.returns
returns c =
    let t = c.args.tree.now in
    omega (arith, c.states-states.ensures.count, c.loop-state-test.false, c.loop-state.invariant, states_rise t.rows c.args.player t.players c.requires)
