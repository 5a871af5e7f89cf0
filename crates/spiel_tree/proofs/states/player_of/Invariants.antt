use Rattle.std.proofs.Common.{◌-◌, ◌<◌, ◌≤◌, length}
use Rattle.spiel_tree.specs.Flat.{rows_of}
use Rattle.spiel_tree.specs.States.{states_below}
use Rattle.spiel_tree.proofs.states.player_of.Given as goal

abbrev pub invariant-loop-player : goal.invariant-loop-player
invariant-loop-player l = record {
  low : l.player < length l.rows.texts.items;
  begun : length (states_below l.player (rows_of l.rows)) ≤ l.state;
}

abbrev pub decreases-loop-player : goal.decreases-loop-player
decreases-loop-player l = length l.rows.texts.items - l.player
