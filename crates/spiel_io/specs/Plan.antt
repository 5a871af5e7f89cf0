-- Decisions that may ask for files. A plan says what is asked for, and what is decided by the bytes.
use Rattle.std.specs.Prelude.{◌≡◌, ℕ, ◌+◌, ◌≤◌, IsTrue, List, length, nat_lt, Option, Some, None, Result, Ok, Err, IfSome, MatchOption, if◌then◌else◌}
use Rattle.std.specs.Option.{option_and_then}
use Rattle.spiel_io.specs.Causes.{Rose}
use Rattle.spiel_io.specs.Outside.{Files, ShelfState, held}
use Rattle.spiel_io.specs.declared.outside.Slot.{Slot}
use Rattle.spiel_io.specs.declared.outside.Slot.TheVariants.{Main, Side}

-- gives a value, refuses, or asks for the file of a name in a slot and goes on by its bytes
pub data Plan (A E : Type 0) : Type 0 where
  Give : A → Plan A E
  Refuse : E → Plan A E
  Ask : Slot → List ℕ → (List ℕ → Plan A E) → Plan A E

infixl 10 ◌>>=◌
abbrev pub ◌>>=◌ : {A B E : Type 0} → Plan A E → (A → Plan B E) → Plan B E
(Give a) >>= next = next a
(Refuse e) >>= next = Refuse e
(Ask slot name rest) >>= next = Ask slot name (λ bytes. rest bytes >>= next)

-- the plan with its refusals renamed
abbrev pub refusing : {A E R : Type 0} → (E → R) → Plan A E → Plan A R
refusing rename (Give a) = Give a
refusing rename (Refuse e) = Refuse (rename e)
refusing rename (Ask slot name rest) = Ask slot name (λ bytes. refusing rename (rest bytes))

-- the answer with its error renamed
abbrev pub faulting : {A E R : Type 0} → (E → R) → Result A E → Result A R
faulting rename (Ok a) = Ok a
faulting rename (Err e) = Err (rename e)

-- an answer as definitions see it
abbrev pub seeing : {A B E : Type 0} → (A → B) → Result A E → Result B E
seeing seen (Ok a) = Ok (seen a)
seeing seen (Err e) = Err e

-- a plan of what is decided without a file, where faults become refusals
abbrev pub decide : {A F E : Type 0} → (F → E) → Result A F → Plan A E
decide refusal (Ok a) = Give a
decide refusal (Err fault) = Refuse (refusal fault)

-- goes on unless there is a fault
abbrev pub unless : {A F E : Type 0} → (F → E) → Option F → Plan A E → Plan A E
unless refusal None plan = plan
unless refusal (Some fault) plan = Refuse (refusal fault)

-- all bytes of a file, where there are at most so many
abbrev pub whole_file : {E : Type 0} → Slot → List ℕ → ℕ → E → Plan (List ℕ) E
whole_file slot name limit too_long = Ask slot name (λ bytes. if nat_lt limit (length bytes) then Refuse too_long else Give bytes)

-- what is decided over these files, or nothing where a name that is asked for isn't there
abbrev pub decided : {A E : Type 0} → Plan A E → Files → Option (Result A E)
decided (Give a) files = Some (Ok a)
decided (Refuse e) files = Some (Err e)
decided (Ask slot name rest) files = option_and_then (λ bytes. decided (rest bytes) files) (held files name)

-- no name is asked for
abbrev pub AsksNothing : {A E : Type 0} → Plan A E → Type 0
AsksNothing (Give a) = Unit {0}
AsksNothing (Refuse e) = Unit {0}
AsksNothing (Ask slot name rest) = ⊥

-- each name that is asked for is there
abbrev pub HoldsAsked : {A E : Type 0} → Plan A E → Files → Type 0
HoldsAsked (Give a) files = Unit {0}
HoldsAsked (Refuse e) files = Unit {0}
HoldsAsked (Ask slot name rest) files = MatchOption (held files name) ⊥ (λ bytes. HoldsAsked (rest bytes) files)

abbrev pub count_if : Option (List ℕ) → (List ℕ → ℕ) → ℕ
count_if None count = 0
count_if (Some bytes) count = count bytes

-- how often the side slot is asked for
abbrev pub side_asks : {A E : Type 0} → Plan A E → Files → ℕ
side_asks (Give a) files = 0
side_asks (Refuse e) files = 0
side_asks (Ask Main name rest) files = count_if (held files name) (λ bytes. side_asks (rest bytes) files)
side_asks (Ask Side name rest) files = 1 + count_if (held files name) (λ bytes. side_asks (rest bytes) files)

-- what an error is: a read fault, want of memory, or a refusal
pub data Kind : Type 0 where
  IsRead : Kind
  IsMemory : Kind
  IsRefusal : Kind

-- the plan comes to this answer, over the files that are told
abbrev pub Reaches : {A E : Type 0} → Plan A E → Option Files → Result A E → Type 0
Reaches (Give a) told result = result ≡ Ok a
Reaches (Refuse e) told result = result ≡ Err e
Reaches (Ask slot name rest) None result = Unit {0}
Reaches (Ask slot name rest) (Some files) result = MatchOption (held files name) ⊥ (λ bytes. Reaches (rest bytes) (Some files) result)

abbrev pub Asks : {A E : Type 0} → Plan A E → Type 0
Asks (Give a) = ⊥
Asks (Refuse e) = ⊥
Asks (Ask slot name rest) = Unit {0}

-- Want of memory may always come. A read fault comes only where something is asked for.
abbrev pub AgreesAt : {A E : Type 0} → Kind → Plan A E → Option Files → Result A E → Type 0
AgreesAt IsRead plan told result = Asks plan
AgreesAt IsMemory plan told result = Unit {0}
AgreesAt IsRefusal plan told result = Reaches plan told result

abbrev pub Agrees : {A E : Type 0} → (E → Kind) → Plan A E → Option Files → Result A E → Type 0
Agrees kind plan told (Ok a) = Reaches plan told (Ok a)
Agrees kind plan told (Err e) = AgreesAt (kind e) plan told (Err e)

abbrev pub CausedAt : Kind → ℕ → ℕ → Type 0
CausedAt IsRead before now = Rose before now
CausedAt IsMemory before now = Unit {0}
CausedAt IsRefusal before now = now ≡ before

-- a read fault comes only where the count rose, and after every other answer but want of memory the count is as it was
abbrev pub Caused : {A E : Type 0} → (E → Kind) → ℕ → ℕ → Result A E → Type 0
Caused kind before now (Ok a) = now ≡ before
Caused kind before now (Err e) = CausedAt (kind e) before now

-- A call on a shelf follows the plan: its answer is what the plan comes to, a fault is counted only
-- where one was met, none is met on a steady shelf that holds what is asked for, or where nothing is
-- asked for, and the side slot is begun no more often than it is asked for.
pub record Follows {A E : Type 0} (kind : E → Kind) (plan : Plan A E) (old new : ShelfState) (result : Result A E) : Type 0 where
  pub same_files : new.files ≡ old.files
  pub agrees : Agrees kind plan old.files result
  pub later : old.faults ≤ new.faults
  pub cause : Caused kind old.faults new.faults result
  pub stays_steady : IsTrue old.steady → IsTrue new.steady
  pub no_fault : IsTrue old.steady → IfSome old.files (λ files. HoldsAsked plan files → new.faults ≡ old.faults)
  pub quiet : AsksNothing plan → new.faults ≡ old.faults
  pub side_asked : IfSome old.files (λ files. (new.reading Side).begins ≤ (old.reading Side).begins + side_asks plan files)

-- how much more often, at the most, the main slot and the side slot were begun
pub record BeginsAtMost (main side : ℕ) (old new : ShelfState) : Type 0 where
  pub main_begins : (new.reading Main).begins ≤ (old.reading Main).begins + main
  pub side_begins : (new.reading Side).begins ≤ (old.reading Side).begins + side
