-- What real files are as a shelf, and what a standard stream is as a sink.
use Rattle.std.specs.Prelude.{false, [], None, is_some}
use Rattle.spiel_io.specs.Outside.{ShelfState, SinkState, pick}
use Rattle.spiel_io.specs.declared.host.HostShelf.{HostShelf}
use Rattle.spiel_io.specs.declared.host.HostSink.{HostSink}

-- it tells no bytes, and a call may always fail
abbrev pub shelf_state : {R A B C : Type 0} → HostShelf R A B C → ShelfState
shelf_state s = record {
  files = None;
  reading = λ slot. record {
    left = [];
    begun = pick slot (is_some s.main) (is_some s.side);
    begins = pick slot s.main_begins s.side_begins;
  };
  faults = s.faults;
  steady = false;
}

abbrev pub sink_state : HostSink → SinkState
sink_state s = record { taken = None; faults = s.faults }
