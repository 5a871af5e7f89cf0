-- When what came of a run is what is wanted of it.
use Rattle.std.specs.Prelude.{◌≡◌, ℕ, ◌==◌, IsTrue, Some, length}
use Rattle.std.specs.List.{list_all}
use Rattle.spiel_io.specs.declared.outside.Slot.TheVariants.{Main, Side}
use Rattle.spiel_io.specs.MemShelf.{shelf_state}
use Rattle.spiel_io.specs.MemSink.{sink_state}
use Rattle.spiel_rows.specs.declared.comparing.Wanted.{Wanted}
use Rattle.spiel_rows.specs.declared.row.Count.{Count}
use Rattle.spiel_rows.specs.declared.row.Count.TheVariants.{ShelfFaults, OutputFaults, MessageFaults, MainBegins, SideBegins, MainLeft, SideLeft}
use Rattle.spiel_rows.specs.declared.running.Outcome.{Outcome}

-- what was counted in a run
abbrev pub count_of : Outcome → Count → ℕ
count_of outcome ShelfFaults = (shelf_state outcome.shelf).faults
count_of outcome OutputFaults = (sink_state outcome.out).faults
count_of outcome MessageFaults = (sink_state outcome.err).faults
count_of outcome MainBegins = ((shelf_state outcome.shelf).reading Main).begins
count_of outcome SideBegins = ((shelf_state outcome.shelf).reading Side).begins
count_of outcome MainLeft = length ((shelf_state outcome.shelf).reading Main).left
count_of outcome SideLeft = length ((shelf_state outcome.shelf).reading Side).left

-- the status, all bytes that were written and said, and each count that is named
pub record Agrees (wanted : Wanted) (outcome : Outcome) : Type 0 where
  pub status : outcome.status ≡ wanted.status
  pub out : (sink_state outcome.out).taken ≡ Some wanted.out.now
  pub err : (sink_state outcome.err).taken ≡ Some wanted.err.now
  pub counts : IsTrue (list_all (λ wish. count_of outcome wish.0 == wish.1) wanted.counts.now)
