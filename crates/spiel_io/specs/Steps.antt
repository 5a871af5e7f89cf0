-- What one call on a shelf or on a sink does.
use Rattle.std.specs.Prelude.{◌≡◌, ℕ, ◌<◌, ◌≤◌, ◌++◌, IsTrue, List, [], length, take, Some, IsSome, IfSome, Result, OnOk, OnErr, IfOk, MatchResult, is_ok}
use Rattle.std.specs.Io.KnownBytes.{append_known}
use Rattle.spiel_io.specs.declared.outside.Slot.{Slot}
use Rattle.spiel_io.specs.declared.outside.Failed.{Failed}
use Rattle.spiel_io.specs.Causes.{HasCause}
use Rattle.spiel_io.specs.Outside.{ShelfState, SinkState, held, other, counted}

-- the file of a name is begun in a slot
pub record Begins (slot : Slot) (name : List ℕ) (old new : ShelfState) (result : Result (Unit {0}) Failed) : Type 0 where
  -- no call changes what the names hold, or whether the shelf tells it
  pub same_files : new.files ≡ old.files
  -- all bytes of the name are left
  pub bytes : IfSome old.files (λ files. OnOk result (held files name ≡ Some (new.reading slot).left))
  pub begun : (new.reading slot).begun ≡ is_ok result
  -- a begin is counted, also one that fails
  pub begins : (new.reading slot).begins ≡ counted (old.reading slot).begins
  pub other_slot : new.reading (other slot) ≡ old.reading (other slot)
  pub cause : HasCause old.faults new.faults result
  -- a fault is counted once
  pub one_fault : OnErr result (new.faults ≡ counted old.faults)
  -- a steady shelf stays steady, and has no fault at a name that it holds
  pub stays_steady : IsTrue old.steady → IsTrue new.steady
  pub no_fault : IsTrue old.steady → IfSome old.files (λ files. IsSome (held files name) → new.faults ≡ old.faults)

-- bytes are moved from the front of what is left in a slot to the front of a buffer
pub record Reads (slot : Slot) (old new : ShelfState) (buffer : List ℕ) (result : Result ℕ Failed) : Type 0 where
  pub same_files : new.files ≡ old.files
  pub within : IfOk result (λ n. n ≤ length buffer)
  pub bytes : IfSome old.files (λ files. MatchResult result
      (λ n. (old.reading slot).left ≡ take n buffer ++ (new.reading slot).left)
      (λ fault. (new.reading slot).left ≡ (old.reading slot).left))
  -- none are moved only where none are left, or where the buffer is empty
  pub end : IfSome old.files (λ files. IfOk result (λ n. n ≡ 0 → 0 < length buffer → (new.reading slot).left ≡ []))
  pub begun : (new.reading slot).begun ≡ (old.reading slot).begun
  pub begins : (new.reading slot).begins ≡ (old.reading slot).begins
  pub other_slot : new.reading (other slot) ≡ old.reading (other slot)
  pub cause : HasCause old.faults new.faults result
  pub one_fault : OnErr result (new.faults ≡ counted old.faults)
  pub stays_steady : IsTrue old.steady → IsTrue new.steady
  pub no_fault : IsTrue old.steady → new.faults ≡ old.faults

-- a sink takes a front of a piece, and some of it where the piece isn't empty
pub record Takes (piece : List ℕ) (old new : SinkState) (result : Result ℕ Failed) : Type 0 where
  pub within : IfOk result (λ n. n ≤ length piece)
  pub some : IfOk result (λ n. 0 < length piece → 0 < n)
  pub bytes : MatchResult result (λ n. new.taken ≡ append_known old.taken (take n piece)) (λ fault. new.taken ≡ old.taken)
  pub cause : HasCause old.faults new.faults result
  pub one_fault : OnErr result (new.faults ≡ counted old.faults)
