use Rattle.std.proofs.Common.{◌≡◌, take}
use Rattle.std.specs.Prelude.{sum}
use Rattle.spiel_tree.specs.Flat.{row_at}
use Rattle.spiel_response.proofs.factors.chance_total.Given as goal

abbrev pub invariant-loop-index : goal.invariant-loop-index
invariant-loop-index l = l.total ≡ sum (take l.index (row_at l.tree.rows l.row).here.weights)
