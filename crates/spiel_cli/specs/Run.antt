-- What a whole run leaves.
use Rattle.std.specs.Prelude.{◌≡◌, ℕ, ◌≤◌, ◌⊎◌, List, [], take, Option, Some, Result, Ok, Err, codes}
use Rattle.std.specs.Io.KnownBytes.{append_known}
use Rattle.spiel_io.specs.Causes.{Rose}
use Rattle.spiel_io.specs.Outside.{Files, SinkState}
use Rattle.spiel_io.specs.Plan.{Plan, AsksNothing}
use Rattle.spiel_io.specs.declared.calls.FetchFault.TheVariants.{Read}
use Rattle.spiel_words.specs.declared.fault.WordsFault.TheVariants.{Usage}
use Rattle.spiel_cli.specs.Refusal.{line, message_of, status_of}
use Rattle.spiel_cli.specs.Outcome.{Outcome}
use Rattle.spiel_cli.specs.declared.refusal.Refusal.{Refusal}
use Rattle.spiel_cli.specs.declared.refusal.Refusal.TheVariants.{Words, File}

-- the files that are known: those that the shelf tells, or none where no name is asked for
abbrev pub Knows : {A E : Type 0} → Option Files → Plan A E → Files → Type 0
Knows told plan files = (told ≡ Some files) ⊎ (AsksNothing plan × (files ≡ []))

-- nothing was written
abbrev pub IsUntouched : SinkState → SinkState → Type 0
IsUntouched old new = (new.taken ≡ old.taken) × (new.faults ≡ old.faults)

-- a front of the bytes was taken
abbrev pub TakesFront : List ℕ → SinkState → SinkState → Type 0
TakesFront bytes old new = (n : ℕ) × (new.taken ≡ append_known old.taken (take n bytes))

-- all bytes were taken, or a front of them where the sink's count of faults rose
pub record Says (bytes : List ℕ) (old new : SinkState) : Type 0 where
  pub later : old.faults ≤ new.faults
  pub front : TakesFront bytes old new
  pub whole : (Rose old.faults new.faults → ⊥) → new.taken ≡ append_known old.taken bytes

-- the messages of the faults that no refusal has
abbrev pub write_fault : List ℕ
write_fault = line (codes "write fault")

abbrev pub no_memory : List ℕ
no_memory = line (codes "no memory")

-- what a command gives was written, with this status: all of it, and nothing to the messages, or a front, and a write fault
abbrev pub IsWrittenText : List ℕ → ℕ → SinkState → SinkState → SinkState → SinkState → Type 0
IsWrittenText text status out out' err err' =
    ((status ≡ 0) × (out'.taken ≡ append_known out.taken text) × (out'.faults ≡ out.faults) × IsUntouched err err')
    ⊎ ((status ≡ 7) × TakesFront text out out' × (out.faults ≤ out'.faults) × Rose out.faults out'.faults × Says write_fault err err')

-- a refusal's message was said, with its status, or want of memory
abbrev pub IsSaid : Refusal → ℕ → SinkState → SinkState → Type 0
IsSaid refusal status err err' = ((status ≡ status_of refusal) × Says (message_of refusal) err err') ⊎ ((status ≡ 8) × Says no_memory err err')

-- an answer was written, with this status; after a refusal nothing but its message was
abbrev pub IsWritten : Result (List ℕ) Refusal → ℕ → SinkState → SinkState → SinkState → SinkState → Type 0
IsWritten (Ok text) status out out' err err' = IsWrittenText text status out out' err err'
IsWritten (Err refusal) status out out' err err' = IsUntouched out out' × IsSaid refusal status err err'

-- the status, and what the sinks took, are the outcome's
pub record Completes (outcome : Outcome) (status : ℕ) (out out' err err' : SinkState) : Type 0 where
  pub status_is : status ≡ outcome.status
  pub out_is : out'.taken ≡ append_known out.taken outcome.out
  pub err_is : Says outcome.err err err'

-- the messages of the statuses that have one each
pub record SaysStatus (status : ℕ) (err err' : SinkState) : Type 0 where
  pub usage : status ≡ 2 → Says (message_of (Words Usage)) err err'
  pub read : status ≡ 3 → Says (message_of (File Read)) err err'
  pub write : status ≡ 7 → Says write_fault err err'
  pub memory : status ≡ 8 → Says no_memory err err'
