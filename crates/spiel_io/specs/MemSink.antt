-- What a sink in memory is, when it refuses a piece, and how much it takes.
use Rattle.std.specs.Prelude.{◌≡◌, ℕ, ◌-◌, ◌==◌, Bool, ◌||◌, ◌&&◌, not, min, List, length, Some}
use Rattle.std.specs.List.{list_any}
use Rattle.spiel_io.specs.Outside.{SinkState, counted}
use Rattle.spiel_io.specs.declared.mem_sink.MemSink.{MemSink}

abbrev pub sink_state : MemSink → SinkState
sink_state s = record { taken = Some s.taken.items; faults = s.faults }

abbrev pub room_left : MemSink → ℕ
room_left s = s.room - length s.taken.items

-- whether the next call fails by its number, or has no room for a piece that isn't empty
abbrev pub refuses : MemSink → List ℕ → Bool
refuses s piece = list_any (λ n. n == s.calls) s.failing || ((room_left s == 0) && not (length piece == 0))

-- how much of a piece is taken: as much as one call takes at most, and as there is room for
abbrev pub amount : MemSink → List ℕ → ℕ
amount s piece = min (length piece) (min s.most (room_left s))

-- no call was made yet: the first one has the number 0, the calls with these numbers fail, and
-- the others take at most so many bytes each, and so many in all
pub record IsScript (piece all : ℕ) (numbers : List ℕ) (s : MemSink) : Type 0 where
  pub calls : s.calls ≡ 0
  pub failing : s.failing ≡ numbers
  pub most : s.most ≡ piece
  pub room : s.room ≡ all

-- a call was counted, and the rest of the script is the same
pub record CountsPut (old new : MemSink) : Type 0 where
  pub calls : new.calls ≡ counted old.calls
  pub failing : new.failing ≡ old.failing
  pub most : new.most ≡ old.most
  pub room : new.room ≡ old.room
