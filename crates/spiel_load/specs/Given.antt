-- What a game string asks for, and what is read of it: what is right, or else the first fault.
use Rattle.std.specs.Prelude.{ℕ, not, List, [], ◌∷◌, Option, Some, None, Result, Ok, Err}
use Rattle.std.specs.List.{find, list_any}
use Rattle.std.specs.Option.{option_map}
use Rattle.std.specs.Str.{bytes_eq}
use Rattle.spiel_io.specs.Plan.{Plan, decide}
use Rattle.spiel_string.specs.Game.{Game, game, Params, no_params, param, Value}
use Rattle.spiel_load.specs.declared.fault.LoadFault.{LoadFault}
use Rattle.spiel_load.specs.declared.fault.LoadFault.TheVariants.{UnknownParam, BadParam}

-- keys with their values; the keys of a well formed game rise in byte order
abbrev pub Given : Type 0
Given = List (List ℕ × Value)

-- the keys of a game string with their values
abbrev pub given_of : Params → Given
given_of no_params = []
given_of (param key value rest) = (key, value) ∷ given_of rest

-- the game of a name, with what is given to it
pub record Asked : Type 0 where
  pub name : List ℕ
  pub given : Given

-- what a game string asks for
abbrev pub asked_by : Game → Asked
asked_by (game name params) = record { name = name; given = given_of params }

abbrev pub Read : Type 0 → Type 0
Read A = Result A LoadFault

-- goes on with what was read, unless there is a fault
infixr 20 ◌>>=◌
abbrev pub ◌>>=◌ : {A B : Type 0} → Read A → (A → Read B) → Read B
◌>>=◌ (Ok x) next = next x
◌>>=◌ (Err fault) next = Err fault

-- what is read, as a plan that asks for no file
abbrev pub planned : {A : Type 0} → Read A → Plan A LoadFault
planned read = decide (λ fault. fault) read

-- the value that is given for the key
abbrev pub given_at : Given → List ℕ → Option Value
given_at given key = option_map (λ pair. pair.1) (find (λ pair. bytes_eq pair.0 key) given)

-- the first key that is none of these
abbrev pub other_key : List (List ℕ) → Given → Option (List ℕ)
other_key keys given = option_map (λ pair. pair.0) (find (λ pair. not (list_any (λ key. bytes_eq key pair.0) keys)) given)

abbrev pub unless_unknown : List ℕ → Option (List ℕ) → Read (Unit {0})
unless_unknown name None = Ok tt
unless_unknown name (Some key) = Err (UnknownParam name key)

-- a game that has parameters of these keys is given no others
unfoldable pub only_keys : Asked → List (List ℕ) → Read (Unit {0})
only_keys asked keys = unless_unknown asked.name (other_key keys asked.given)

-- what the parameter of this key has to have
abbrev pub required : {A : Type 0} → Asked → List ℕ → Option A → Read A
required asked key (Some x) = Ok x
required asked key None = Err (BadParam asked.name key)

-- what a given value means, if the parameter can have it
abbrev pub given_value : {A : Type 0} → (Value → Option A) → Asked → List ℕ → Option Value → Read (Option A)
given_value meaning asked key None = Ok None
given_value meaning asked key (Some value) = required asked key (meaning value) >>= λ x. Ok (Some x)

-- the parameter of this key, where it is given, by what its values mean
unfoldable pub optional : {A : Type 0} → (Value → Option A) → Asked → List ℕ → Read (Option A)
optional meaning asked key = given_value meaning asked key (given_at asked.given key)
