-- What the reading of a whole file answers.
use Rattle.std.specs.Prelude.{◌≡◌, ℕ, ◌<◌, ◌≤◌, List, length, Option, Some, Result, Ok, Err}
use Rattle.spiel_io.specs.declared.calls.FetchFault.{FetchFault}
use Rattle.spiel_io.specs.declared.calls.FetchFault.TheVariants.{Read, TooLong, NoMemory}
use Rattle.spiel_io.specs.Causes.{Rose}

-- all bytes of the file, or that there are too many
abbrev pub IsFetched : Option (List ℕ) → ℕ → Result (List ℕ) FetchFault → Type 0
IsFetched file limit (Ok text) = (file ≡ Some text) × (length text ≤ limit)
IsFetched file limit (Err TooLong) = (bytes : List ℕ) × (file ≡ Some bytes) × (limit < length bytes)
IsFetched file limit (Err Read) = Unit {0}
IsFetched file limit (Err NoMemory) = Unit {0}

-- a read fault comes only where the count rose, and after every other answer the count is as it was
abbrev pub HasFetchCause : ℕ → ℕ → Result (List ℕ) FetchFault → Type 0
HasFetchCause before now (Ok text) = now ≡ before
HasFetchCause before now (Err Read) = (before ≤ now) × Rose before now
HasFetchCause before now (Err TooLong) = now ≡ before
HasFetchCause before now (Err NoMemory) = now ≡ before
