-- Which calls of a run failed, and what is wanted of it.
use Rattle.std.specs.Prelude.{◌≡◌}
use Rattle.spiel_rows.specs.declared.comparing.Wanted.{Wanted}
use Rattle.spiel_rows.specs.declared.row.Count.{Count}
use Rattle.spiel_rows.specs.declared.row.Count.TheVariants.{ShelfFaults, OutputFaults, MessageFaults}
use Rattle.spiel_rows.specs.declared.row.Device.{Device}
use Rattle.spiel_rows.specs.declared.row.Device.TheVariants.{Shelf, Sink}
use Rattle.spiel_rows.specs.declared.row.Stream.TheVariants.{Output, Message}
use Rattle.spiel_rows.specs.declared.row.Wants.{Wants}

-- the count of the failed calls of a device
abbrev pub faults_of : Device → Count
faults_of Shelf = ShelfFaults
faults_of (Sink Output) = OutputFaults
faults_of (Sink Message) = MessageFaults

-- what is wanted is what the row itself says
pub record IsOwn (wants : Wants) (wanted : Wanted) : Type 0 where
  pub status : wanted.status ≡ wants.status
  pub out : wanted.out.now ≡ wants.out
  pub err : wanted.err.now ≡ wants.err
  pub counts : wanted.counts.now ≡ wants.counts
