-- What a shelf and a sink are to a contract.
use Rattle.std.specs.Prelude.{ℕ, ◌+◌, ◌-◌, ◌^◌, min, Bool, List, [], ◌∷◌, Option, Some, None, if◌then◌else◌}
use Rattle.std.specs.Str.{bytes_eq}
use Rattle.spiel_io.specs.declared.outside.Slot.{Slot}
use Rattle.spiel_io.specs.declared.outside.Slot.TheVariants.{Main, Side}

-- names with the bytes that they hold
abbrev pub Files : Type 0
Files = List (List ℕ × List ℕ)

-- the bytes that a name holds: those of the first file of that name
abbrev pub held : Files → List ℕ → Option (List ℕ)
held [] name = None
held (file ∷ files) name = if bytes_eq file.0 name then Some file.1 else held files name

-- a slot: the bytes that are left in it, whether it has a begun file, and how often one was begun
pub record Reading : Type 0 where
  pub left : List ℕ
  pub begun : Bool
  pub begins : ℕ

-- a shelf: what each name holds, where the shelf tells it; its slots, of which what is left is
-- claimed only where the shelf tells its bytes; its count of faults; and whether no call fails
-- any more, but for the begin of a name that isn't there
pub record ShelfState : Type 0 where
  pub files : Option Files
  pub reading : Slot → Reading
  pub faults : ℕ
  pub steady : Bool

-- a sink: what it has taken, where it tells that, and its count of faults
pub record SinkState : Type 0 where
  pub taken : Option (List ℕ)
  pub faults : ℕ

abbrev pub other : Slot → Slot
other Main = Side
other Side = Main

-- what belongs to the slot, of what belongs to the main one and to the side one
abbrev pub pick : {A : Type 0} → Slot → A → A → A
pick Main main side = main
pick Side main side = side

-- one more, up to the last value of a count
abbrev pub counted : ℕ → ℕ
counted n = min (n + 1) (2 ^ 64 - 1)
