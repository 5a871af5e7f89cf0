-- What a reader keeps of what it has read: the open brackets with the parameters in them, the word
-- that is being read, and the game whose bracket was closed last.
use Rattle.std.specs.Prelude.{ℕ, List, [], ◌∷◌, ◌++◌, map, Option, Some, None, option_map}
use Rattle.spiel_string.specs.Game.{Game, game, no_params, Value, inner}
use Rattle.spiel_string.specs.View.{params_of, view, pair_view}
use Rattle.spiel_string.specs.Values.{word_value, value_of, game_of}
use Rattle.spiel_string.specs.Insertion.{insert_pair}
use Rattle.spiel_string.specs.Grammar.{Node, leaf, call}
use Rattle.spiel_string.specs.Partial.{Context, outermost, within, Finished, no_entry, with_entry, State, start, outer, open_at, key_at, value_due, value_at, done}
use Rattle.spiel_string.specs.declared.scan.Class.{Class}
use Rattle.spiel_string.specs.declared.scan.Class.TheVariants as class
use Rattle.spiel_string.specs.declared.scan.Mode.{Mode}
use Rattle.spiel_string.specs.declared.scan.Mode.TheVariants as mode
use Rattle.spiel_string.specs.declared.kept.Frame.{Frame}
use Rattle.spiel_string.specs.declared.kept.Kept.{Kept}

-- an open bracket: the name before it, the parameters that are whole, and the key whose value is
-- being read
pub record Open : Type 0 where
  pub name : List ℕ
  pub params : List (List ℕ × Value)
  pub key : List ℕ

pub record Read : Type 0 where
  pub opens : List Open
  pub part : List ℕ
  pub last : Option Game

abbrev pub open_view : Frame → Open
open_view frame = record { name = frame.name; params = map pair_view frame.params.items; key = frame.key }

abbrev pub kept_view : Kept → Read
kept_view kept = record { opens = map open_view kept.frames.items; part = kept.part; last = option_map view kept.last }

-- ---- one byte more

-- the last item, changed
abbrev pub on_last : {X : Type 0} → (X → X) → List X → List X
on_last f [] = []
on_last f (x ∷ []) = f x ∷ []
on_last f (x ∷ y ∷ ys) = x ∷ on_last f (y ∷ ys)

abbrev pub without_last : {X : Type 0} → List X → List X
without_last [] = []
without_last (x ∷ []) = []
without_last (x ∷ y ∷ ys) = x ∷ without_last (y ∷ ys)

abbrev pub last_of : {X : Type 0} → List X → Option X
last_of [] = None
last_of (x ∷ []) = Some x
last_of (x ∷ y ∷ ys) = last_of (y ∷ ys)

-- nothing was read
abbrev pub nothing : Read
nothing = record { opens = []; part = []; last = None }

-- one byte more of the word
abbrev pub with_byte : ℕ → Read → Read
with_byte byte r = record r { part = r.part ++ byte ∷ [] }

-- the word opens a bracket
abbrev pub opened : Read → Read
opened r = record r { opens = r.opens ++ record { name = r.part; params = []; key = [] } ∷ []; part = [] }

-- the word is a key
abbrev pub keyed : Read → Read
keyed r = record r { opens = on_last (λ o. record o { key = r.part }) r.opens; part = [] }

-- the value that was read: the game, if there is one, and else that of the word
abbrev pub value_read : Option Game → List ℕ → Value
value_read None part = word_value part
value_read (Some g) part = inner g

-- the value goes to its key
abbrev pub ended : Read → Read
ended r = record {
  opens = on_last (λ o. record o { params = insert_pair (o.key, value_read r.last r.part) o.params; key = [] }) r.opens;
  part = [];
  last = None;
}

abbrev pub game_in : Open → Game
game_in o = game o.name (params_of o.params)

-- the last bracket is closed
abbrev pub closed_up : Read → Read
closed_up r = record r { opens = without_last r.opens; last = option_map game_in (last_of r.opens) }

-- the last bracket is closed after a byte that was read in a mode
abbrev pub closed_with : Mode → Read → Read
closed_with mode.Opened r = closed_up r
closed_with m r = closed_up (ended r)

-- what is kept after a byte of a class
abbrev pub kept_after : Mode → Class → ℕ → Read → Read
kept_after m class.Space byte r = r
kept_after m class.Open byte r = opened r
kept_after m class.Close byte r = closed_with m r
kept_after m class.Comma byte r = ended r
kept_after m class.Equals byte r = keyed r
kept_after m class.Other byte r = r
kept_after m kind byte r = with_byte byte r

-- the game that was read, at the end of a text
abbrev pub game_read : Option Game → List ℕ → Game
game_read None part = game part no_params
game_read (Some g) part = g

-- ---- what is kept at a state

abbrev pub finished_params : Finished → List (List ℕ × Value)
finished_params no_entry = []
finished_params (with_entry finished head value) = insert_pair (head.key, value_of value) (finished_params finished)

abbrev pub name_in : Context → List ℕ
name_in (outermost lead name before) = name
name_in (within context finished head name before) = name

abbrev pub open_of : Context → Finished → List ℕ → Open
open_of context finished key = record { name = name_in context; params = finished_params finished; key = key }

abbrev pub opens_below : Context → List Open
opens_below (outermost lead name before) = []
opens_below (within context finished head name before) = opens_below context ++ open_of context finished head.key ∷ []

abbrev pub read_in : Context → Finished → List ℕ → List ℕ → Option Game → Read
read_in context finished key part last = record { opens = opens_below context ++ open_of context finished key ∷ []; part = part; last = last }

abbrev pub value_in : Context → Finished → List ℕ → Node → Read
value_in context finished key (leaf text after) = read_in context finished key text None
value_in context finished key (call name before brackets after) = read_in context finished key [] (Some (game_of (call name before brackets after)))

abbrev pub kept_of : State → Read
kept_of (start lead) = nothing
kept_of (outer lead name after) = record { opens = []; part = name; last = None }
kept_of (open_at context finished lead) = read_in context finished [] [] None
kept_of (key_at context finished lead key after) = read_in context finished [] key None
kept_of (value_due context finished head) = read_in context finished head.key [] None
kept_of (value_at context finished head value) = value_in context finished head.key value
kept_of (done lead name before brackets after) = record { opens = []; part = []; last = Some (game_of (call name before brackets after)) }
