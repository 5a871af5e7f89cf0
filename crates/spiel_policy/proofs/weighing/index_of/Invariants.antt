use Rattle.std.proofs.Common.{◌≡◌, ◌<◌, ℕ}
use Rattle.std.specs.Prelude.{slice_index}
use Rattle.spiel_tree.specs.States.{numbers_of}
use Rattle.spiel_policy.proofs.weighing.index_of.Given as goal

abbrev pub invariant-loop-index : goal.invariant-loop-index
invariant-loop-index l = (k : ℕ) → k < l.index → slice_index (numbers_of l.tree.players l.tree.rows l.state) k ≡ l.number → ⊥
