-- The part of a tree that a front of a text has spelled, and how one byte more carries it on.
use Rattle.std.specs.Prelude.{◌≡◌, ℕ, zero, suc, true, List, [], ◌∷◌, ◌++◌, Option, Some, None, option_and_then, if◌then◌else◌}
use Rattle.spiel_string.specs.Alphabet.{is_name, spaces}
use Rattle.spiel_string.specs.Grammar.{Head, Node, leaf, call, Brackets, empty, filled, Entries, one, and, Whole, spell_head, spell, IsProper, AreBracketsProper}
use Rattle.spiel_string.specs.Scan.{class}
use Rattle.spiel_string.specs.declared.scan.Class.{Class}
use Rattle.spiel_string.specs.declared.scan.Class.TheVariants.{Space, Open, Close, Comma, Equals, Lower, NameRest, WordRest}

-- parameters of an open bracket that a comma follows, the newest outermost
pub data Finished : Type 0 where
  no_entry : Finished
  with_entry : Finished → Head → Node → Finished

-- what stands before an open bracket, up to and with it
pub data Context : Type 0 where
  outermost : ℕ → List ℕ → ℕ → Context
  within : Context → Finished → Head → List ℕ → ℕ → Context

-- where in a tree the front of the text ends
pub data State : Type 0 where
  -- after spaces
  start : ℕ → State
  -- in or after the outermost name
  outer : ℕ → List ℕ → ℕ → State
  -- where a key may begin
  open_at : Context → Finished → ℕ → State
  -- in or after a key
  key_at : Context → Finished → ℕ → List ℕ → ℕ → State
  -- where a value is due
  value_due : Context → Finished → Head → State
  -- in or after a value
  value_at : Context → Finished → Head → Node → State
  -- after the last closing bracket
  done : ℕ → List ℕ → ℕ → Brackets → ℕ → State

-- ---- the text that was spelled, and then the rest

abbrev pub shown_finished : Finished → List ℕ → List ℕ
shown_finished no_entry rest = rest
shown_finished (with_entry finished head value) rest = shown_finished finished (spell_head head (spell value (44 ∷ rest)))

abbrev pub front : Context → List ℕ → List ℕ
front (outermost lead name before) rest = spaces lead (name ++ spaces before (40 ∷ rest))
front (within context finished head name before) rest = front context (shown_finished finished (spell_head head (name ++ spaces before (40 ∷ rest))))

abbrev pub shown : State → List ℕ → List ℕ
shown (start lead) rest = spaces lead rest
shown (outer lead name after) rest = spaces lead (name ++ spaces after rest)
shown (open_at context finished lead) rest = front context (shown_finished finished (spaces lead rest))
shown (key_at context finished lead key after) rest = front context (shown_finished finished (spaces lead (key ++ spaces after rest)))
shown (value_due context finished head) rest = front context (shown_finished finished (spell_head head rest))
shown (value_at context finished head value) rest = front context (shown_finished finished (spell_head head (spell value rest)))
shown (done lead name before brackets after) rest = spaces lead (spell (call name before brackets after) rest)

-- ---- what stands as a name is a name, and what stands as a word is a word

abbrev pub AreFinishedProper : Finished → Type 0
AreFinishedProper no_entry = Unit {0}
AreFinishedProper (with_entry finished head value) = AreFinishedProper finished × (is_name head.key ≡ true) × IsProper value

abbrev pub IsContextProper : Context → Type 0
IsContextProper (outermost lead name before) = is_name name ≡ true
IsContextProper (within context finished head name before) = IsContextProper context × AreFinishedProper finished × (is_name head.key ≡ true) × (is_name name ≡ true)

abbrev pub IsStateProper : State → Type 0
IsStateProper (start lead) = Unit {0}
IsStateProper (outer lead name after) = is_name name ≡ true
IsStateProper (open_at context finished lead) = IsContextProper context × AreFinishedProper finished
IsStateProper (key_at context finished lead key after) = IsContextProper context × AreFinishedProper finished × (is_name key ≡ true)
IsStateProper (value_due context finished head) = IsContextProper context × AreFinishedProper finished × (is_name head.key ≡ true)
IsStateProper (value_at context finished head value) = IsContextProper context × AreFinishedProper finished × (is_name head.key ≡ true) × IsProper value
IsStateProper (done lead name before brackets after) = (is_name name ≡ true) × AreBracketsProper brackets

-- ---- one byte more

-- the parameters, with these at their end
abbrev pub wrap : Finished → Entries → Entries
wrap no_entry entries = entries
wrap (with_entry finished head value) entries = wrap finished (and head value entries)

-- the value with one space more after it
abbrev pub spaced : Node → Node
spaced (leaf text after) = leaf text (suc after)
spaced (call name before brackets after) = call name before brackets (suc after)

-- the head of a value, where so many spaces follow the `=`
abbrev pub with_gap : Head → ℕ → Head
with_gap head n = record head { after_equals = n }

-- a bracket is closed
abbrev pub closed : Context → Brackets → State
closed (outermost lead name before) brackets = done lead name before brackets zero
closed (within context finished head name before) brackets = value_at context finished head (call name before brackets zero)

abbrev pub outer_word : ℕ → List ℕ → ℕ → ℕ → Option State
outer_word lead name zero byte = Some (outer lead (name ++ byte ∷ []) zero)
outer_word lead name (suc after) byte = None

abbrev pub key_word : Context → Finished → ℕ → List ℕ → ℕ → ℕ → Option State
key_word context finished lead key zero byte = Some (key_at context finished lead (key ++ byte ∷ []) zero)
key_word context finished lead key (suc after) byte = None

-- brackets with nothing in them may be closed
abbrev pub close_empty : Context → Finished → ℕ → Option State
close_empty context no_entry lead = Some (closed context (empty lead))
close_empty context (with_entry finished head value) lead = None

abbrev pub value_word : Context → Finished → Head → Node → ℕ → Option State
value_word context finished head (leaf text zero) byte = Some (value_at context finished head (leaf (text ++ byte ∷ []) zero))
value_word context finished head value byte = None

-- a name opens a bracket
abbrev pub value_open : Context → Finished → Head → Node → Option State
value_open context finished head (leaf name after) = if is_name name then Some (open_at (within context finished head name after) no_entry zero) else None
value_open context finished head (call name before brackets after) = None

-- the state after a byte of a class, unless none can stand there
abbrev pub step_class : State → ℕ → Class → Option State
step_class (start lead) byte Space = Some (start (suc lead))
step_class (start lead) byte Lower = Some (outer lead (byte ∷ []) zero)
step_class (outer lead name after) byte Space = Some (outer lead name (suc after))
step_class (outer lead name after) byte Lower = outer_word lead name after byte
step_class (outer lead name after) byte NameRest = outer_word lead name after byte
step_class (outer lead name after) byte Open = Some (open_at (outermost lead name after) no_entry zero)
step_class (open_at context finished lead) byte Space = Some (open_at context finished (suc lead))
step_class (open_at context finished lead) byte Lower = Some (key_at context finished lead (byte ∷ []) zero)
step_class (open_at context finished lead) byte Close = close_empty context finished lead
step_class (key_at context finished lead key after) byte Space = Some (key_at context finished lead key (suc after))
step_class (key_at context finished lead key after) byte Lower = key_word context finished lead key after byte
step_class (key_at context finished lead key after) byte NameRest = key_word context finished lead key after byte
step_class (key_at context finished lead key after) byte Equals = Some (value_due context finished (record { before_key = lead; key = key; after_key = after; after_equals = zero }))
step_class (value_due context finished head) byte Space = Some (value_due context finished (with_gap head (suc head.after_equals)))
step_class (value_due context finished head) byte Lower = Some (value_at context finished head (leaf (byte ∷ []) zero))
step_class (value_due context finished head) byte NameRest = Some (value_at context finished head (leaf (byte ∷ []) zero))
step_class (value_due context finished head) byte WordRest = Some (value_at context finished head (leaf (byte ∷ []) zero))
step_class (value_at context finished head value) byte Space = Some (value_at context finished head (spaced value))
step_class (value_at context finished head value) byte Lower = value_word context finished head value byte
step_class (value_at context finished head value) byte NameRest = value_word context finished head value byte
step_class (value_at context finished head value) byte WordRest = value_word context finished head value byte
step_class (value_at context finished head value) byte Open = value_open context finished head value
step_class (value_at context finished head value) byte Comma = Some (open_at context (with_entry finished head value) zero)
step_class (value_at context finished head value) byte Close = Some (closed context (filled (wrap finished (one head value))))
step_class (done lead name before brackets after) byte Space = Some (done lead name before brackets (suc after))
step_class state byte kind = None

abbrev pub step : State → ℕ → Option State
step state byte = step_class state byte (class byte)

-- the state after a text
unfoldable pub run : State → List ℕ → Option State
run state [] = Some state
run state (byte ∷ bytes) = option_and_then (λ next. run next bytes) (step state byte)

-- the tree of a state at which a text may end
abbrev pub final : State → Option Whole
final (outer lead name after) = Some (record { lead = lead; top = leaf name after })
final (done lead name before brackets after) = Some (record { lead = lead; top = call name before brackets after })
final state = None

-- the state to which a whole text leads
abbrev pub end_at : ℕ → Node → State
end_at lead (leaf name after) = outer lead name after
end_at lead (call name before brackets after) = done lead name before brackets after
