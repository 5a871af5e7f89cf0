use Rattle.std.proofs.Common.{◌≡◌, ◌<◌, ℕ, None}
use Rattle.spiel_tree.specs.Faults.{fault_at}
use Rattle.spiel_tree.specs.Flat.{rows_of}
use Rattle.spiel_tree.proofs.faults.first_fault.Given as goal

abbrev pub invariant-loop-row : goal.invariant-loop-row
invariant-loop-row l = (k : ℕ) → k < l.row → fault_at (rows_of l.rows) k ≡ None
