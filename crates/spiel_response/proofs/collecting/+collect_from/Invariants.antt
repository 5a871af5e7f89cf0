use Rattle.std.proofs.Common.{◌≡◌, ◌-◌, length}
use Rattle.spiel_tree.specs.Subtrees.{child_at}
use Rattle.spiel_response.specs.SlotTable.{AreCollectedBefore, AreParentSlotsBefore, slot_count}
use Rattle.spiel_response.proofs.collecting.+collect_from.Given as goal

-- what goes on from a row stands behind it
abbrev pub decreases-collect_from : goal.decreases-collect_from
decreases-collect_from l = length l.weighed.now.tree.rows - l.row

-- the rows behind the numbers so far are passed
abbrev pub invariant-loop-index : goal.invariant-loop-index
invariant-loop-index l = record {
  next_is : l.next ≡ child_at l.weighed.tree.rows l.row l.index;
  count : length l.sums ≡ slot_count l.weighed;
  sums_are : AreCollectedBefore l.weighed l.player l.next l.sums;
  parents_are : AreParentSlotsBefore l.weighed l.player l.next l.parents;
}
