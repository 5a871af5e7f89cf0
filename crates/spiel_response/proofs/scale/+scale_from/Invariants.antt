use Rattle.std.proofs.Common.{◌≡◌, ◌-◌, ◌≤◌, length}
use Rattle.spiel_frac.specs.Fraction.{most}
use Rattle.spiel_tree.specs.Subtrees.{child_at}
use Rattle.spiel_response.specs.Weighed.{scale_before}
use Rattle.spiel_response.proofs.scale.+scale_from.Given as goal

-- what goes on from a row stands behind it
abbrev pub decreases-scale_from : goal.decreases-scale_from
decreases-scale_from l = length l.weighed.now.tree.rows - l.row

-- the rows behind the numbers so far are passed
abbrev pub invariant-loop-index : goal.invariant-loop-index
invariant-loop-index l = record {
  next_is : l.next ≡ child_at l.weighed.tree.rows l.row l.index;
  scale_is : l.scale ≡ scale_before l.weighed l.next;
  small : l.scale ≤ most;
}
