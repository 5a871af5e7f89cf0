use Rattle.spiel_response.specs.SlotTable.{AreSlotSums}
use Rattle.spiel_response.proofs.gathering.gather.Given as goal

abbrev pub invariant-loop-player : goal.invariant-loop-player
invariant-loop-player l = record { gathered : AreSlotSums l.weighed l.player l.gathered.starts l.gathered.sums.items l.gathered.parents.items }
