use Rattle.std.proofs.Common.{◌≡◌, ◌-◌, length}
use Rattle.spiel_tree.specs.Subtrees.{child_at}
use Rattle.spiel_response.specs.Summed.{AreSums}
use Rattle.spiel_response.proofs.sums.+sums_from.Given as goal

-- what goes on from a row stands behind it
abbrev pub decreases-sums_from : goal.decreases-sums_from
decreases-sums_from l = length l.weighed.now.tree.rows - l.row

-- the rows behind the numbers so far are passed
abbrev pub invariant-loop-index : goal.invariant-loop-index
invariant-loop-index l = record {
  next_is : l.next ≡ child_at l.weighed.tree.rows l.row l.index;
  sums_are : AreSums l.weighed l.player l.next l.size l.sums;
}
