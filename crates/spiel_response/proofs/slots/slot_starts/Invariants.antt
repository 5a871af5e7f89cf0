use Rattle.std.proofs.Common.{◌≡◌, ◌+◌, ◌*◌, ◌^◌, ◌≤◌, ℕ, suc, length}
use Rattle.std.specs.Prelude.{slice_index}
use Rattle.spiel_response.specs.SlotTable.{slot_start}
use Rattle.spiel_response.proofs.slots.slot_starts.Given as goal

abbrev pub invariant-loop-state : goal.invariant-loop-state
invariant-loop-state l = record {
  next_is : l.next ≡ slot_start l.weighed l.state;
  small : l.next ≤ l.weighed.tree.players + l.state * 2 ^ 32;
  count : length l.starts ≡ suc l.state;
  each : (i : ℕ) → i ≤ l.state → slice_index l.starts i ≡ slot_start l.weighed i;
}
