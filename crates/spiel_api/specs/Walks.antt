-- What a walk along a list of numbers answers: first as facts about the list, then as a function that computes.
use Rattle.std.specs.Prelude.{◌≡◌, ℕ, zero, suc, ◌<◌, Bool, ◌==◌, if◌then◌else◌, List, [], ◌∷◌, ◌++◌, length, take, slice_index, Option, Some, None, ⊤}
use Rattle.std.specs.List.{Contains, list_any}
use Rattle.spiel_api.specs.declared.place.Place.{Place}
use Rattle.spiel_api.specs.declared.place.Place.TheVariants.{End, Chance, Move, Joint}
use Rattle.spiel_api.specs.declared.walking.WalkFault.{WalkFault}
use Rattle.spiel_api.specs.declared.walking.WalkFault.TheVariants.{Illegal, Unfinished, NoMemory}
use Rattle.spiel_api.specs.Rules.{Rules, next_of}
use Rattle.spiel_api.specs.Plays.{IsPlay}
use Rattle.spiel_api.specs.Place.{IsOutside}

-- a play that doesn't end inside a joint step
pub record IsFinished (rules : Rules) (h : List ℕ) : Type 0 where
  pub play : IsPlay rules h
  pub outside : IsOutside (rules.place h)

-- a play that ends inside a joint step
pub record IsUnfinished (rules : Rules) (h : List ℕ) : Type 0 where
  pub play : IsPlay rules h
  pub inside : IsOutside (rules.place h) → ⊥

-- each number before this one is legal where it stands, and this one is not
pub record IsFirstIllegal (rules : Rules) (h : List ℕ) (at : ℕ) : Type 0 where
  pub within : at < length h
  pub before : IsPlay rules (take at h)
  pub illegal : Contains (next_of rules (take at h)) (slice_index h at) → ⊥

-- what each fault says of the list
abbrev pub HasWalkFault : Rules → List ℕ → WalkFault → Type 0
HasWalkFault rules h (Illegal at) = IsFirstIllegal rules h at
HasWalkFault rules h (Unfinished at) = IsUnfinished rules h × (at ≡ length h)
HasWalkFault rules h NoMemory = ⊤

-- whether a number stands in a list
abbrev pub is_in : List ℕ → ℕ → Bool
is_in xs a = list_any (λ x. x == a) xs

-- how many numbers stand before the first one that isn't legal where it stands, after the history h
abbrev pub first_illegal : (List ℕ → List ℕ) → List ℕ → List ℕ → Option ℕ
first_illegal next h [] = None
first_illegal next h (a ∷ rest) = if is_in (next h) a then first_illegal next (h ++ a ∷ []) rest else Some (length h)

-- the fault of a play of so many numbers that ends at this place
abbrev pub fault_at_end : Place → ℕ → Option WalkFault
fault_at_end End count = None
fault_at_end Chance count = None
fault_at_end (Move p) count = None
fault_at_end (Joint zero) count = None
fault_at_end (Joint (suc p)) count = Some (Unfinished count)

-- an illegal number comes before all else
abbrev pub fault_by : Option ℕ → Option WalkFault → Option WalkFault
fault_by (Some at) ending = Some (Illegal at)
fault_by None ending = ending

-- why a list of numbers leads to no state, if it leads to none
unfoldable pub walk_fault : Rules → List ℕ → Option WalkFault
walk_fault rules h = fault_by (first_illegal (next_of rules) [] h) (fault_at_end (rules.place h) (length h))

-- the fault is the one that was computed, unless memory ran out
abbrev pub IsComputed : Option WalkFault → WalkFault → Type 0
IsComputed computed (Illegal at) = computed ≡ Some (Illegal at)
IsComputed computed (Unfinished at) = computed ≡ Some (Unfinished at)
IsComputed computed NoMemory = ⊤
