use Rattle.std.proofs.Common.{◌≡◌, ◌+◌, ◌<◌, ◌≤◌, ℕ, length, drop}
use Rattle.std.specs.Prelude.{slice_index}
use Rattle.spiel_tree.specs.Flat.{rows_of}
use Rattle.spiel_tree.specs.States.{first_row, state_at, states_below}
use Rattle.spiel_tree.proofs.states.first_rows.Given as goal

abbrev pub invariant-loop-row : goal.invariant-loop-row
invariant-loop-row l = record {
  long : length l.firsts.items ≡ length (states_below (length l.rows.texts.items) (rows_of l.rows));
  within : l.row ≤ length (rows_of l.rows);
  each : (s : ℕ) → s < length (states_below (length l.rows.texts.items) (rows_of l.rows))
      → slice_index l.firsts.items s ≡ l.row + first_row (state_at (length l.rows.texts.items) (rows_of l.rows) s).player (state_at (length l.rows.texts.items) (rows_of l.rows) s).text (drop l.row (rows_of l.rows));
}

abbrev pub decreases-loop-row : goal.decreases-loop-row
decreases-loop-row l = l.row
