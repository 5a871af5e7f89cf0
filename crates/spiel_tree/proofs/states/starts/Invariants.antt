use Rattle.std.proofs.Common.{◌≡◌, ◌≤◌, ℕ, length, suc}
use Rattle.std.specs.Prelude.{slice_index}
use Rattle.spiel_tree.specs.Flat.{rows_of}
use Rattle.spiel_tree.specs.States.{states_below}
use Rattle.spiel_tree.proofs.states.starts.Given as goal

abbrev pub invariant-loop-player : goal.invariant-loop-player
invariant-loop-player l = record {
  long : length l.starts.items ≡ suc l.player;
  count : l.count ≡ length (states_below l.player (rows_of l.rows));
  each : (p : ℕ) → p ≤ l.player → slice_index l.starts.items p ≡ length (states_below p (rows_of l.rows));
}
