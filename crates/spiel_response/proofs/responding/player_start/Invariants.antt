use Rattle.std.proofs.Common.{◌≤◌, length}
use Rattle.spiel_tree.specs.States.{states_below}
use Rattle.spiel_response.proofs.responding.player_start.Given as goal

abbrev pub invariant-loop-state : goal.invariant-loop-state
invariant-loop-state l = l.state ≤ length (states_below l.player l.tree.rows)
