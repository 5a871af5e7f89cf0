-- What the code reads: what is to be read, or the fault, unless memory runs out.
use Rattle.std.specs.Prelude.{◌≡◌, map, Result, Ok, Err, MatchResult, ⊤}
use Rattle.spiel_string.specs.View.{pair_view}
use Rattle.spiel_load.specs.Given.{Asked, Read}
use Rattle.spiel_load.specs.declared.asked.Asked.{Asked as CodeAsked}
use Rattle.spiel_load.specs.declared.fault.LoadFault.{LoadFault}
use Rattle.spiel_load.specs.declared.fault.LoadFault.TheVariants.{File, NoMemory}

-- what the code is asked for
abbrev pub asked_view : CodeAsked → Asked
asked_view asked = record { name = asked.name.now; given = map pair_view asked.given.now }

-- A fault that is answered is the one that was computed, or want of memory. None is of a file.
abbrev pub IsComputed : {A : Type 0} → Read A → LoadFault → Type 0
IsComputed read NoMemory = ⊤
IsComputed read (File fault) = ⊥
IsComputed read fault = read ≡ Err fault

-- what the code reads means what is to be read
abbrev pub ReadsAs : {A B : Type 0} → (B → A) → Read A → Result B LoadFault → Type 0
ReadsAs meaning read result = MatchResult result (λ x. read ≡ Ok (meaning x)) (IsComputed read)

abbrev pub Reads : {A : Type 0} → Read A → Result A LoadFault → Type 0
Reads read result = ReadsAs (λ x. x) read result
