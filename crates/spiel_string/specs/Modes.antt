-- How far the reading of a game string is, with nothing kept of what was read.
use Rattle.std.specs.Prelude.{ℕ, zero, suc, ◌-◌, ◌+◌, ◌==◌, Bool, true, false, Option, Some, None, if◌then◌else◌}
use Rattle.spiel_string.specs.declared.scan.Class.{Class}
use Rattle.spiel_string.specs.declared.scan.Class.TheVariants.{Space, Open, Close, Comma, Equals, Lower, NameRest, WordRest}
use Rattle.spiel_string.specs.declared.scan.Mode.{Mode}
use Rattle.spiel_string.specs.declared.scan.Mode.TheVariants as mode
use Rattle.spiel_string.specs.Alphabet.{is_name}
use Rattle.spiel_string.specs.Grammar.{Node, leaf, call}
use Rattle.spiel_string.specs.Partial.{Context, outermost, within, Finished, no_entry, with_entry, State, start, outer, open_at, key_at, value_due, value_at, done}

-- the mode and the depth of brackets after a closing bracket
abbrev pub after_close : ℕ → Option (Mode × ℕ)
after_close depth = if depth == 1 then Some (mode.Done, 0) else Some (mode.After, depth - 1)

-- the mode and the depth after a byte of a class
abbrev pub next_of : Mode → ℕ → Class → Option (Mode × ℕ)
next_of mode.Start d Space = Some (mode.Start, d)
next_of mode.Start d Lower = Some (mode.Outer, d)
next_of mode.Outer d Space = Some (mode.OuterAfter, d)
next_of mode.Outer d Lower = Some (mode.Outer, d)
next_of mode.Outer d NameRest = Some (mode.Outer, d)
next_of mode.Outer d Open = Some (mode.Opened, d + 1)
next_of mode.OuterAfter d Space = Some (mode.OuterAfter, d)
next_of mode.OuterAfter d Open = Some (mode.Opened, d + 1)
next_of mode.Opened d Space = Some (mode.Opened, d)
next_of mode.Opened d Lower = Some (mode.Key, d)
next_of mode.Opened d Close = after_close d
next_of mode.KeyDue d Space = Some (mode.KeyDue, d)
next_of mode.KeyDue d Lower = Some (mode.Key, d)
next_of mode.Key d Space = Some (mode.KeyAfter, d)
next_of mode.Key d Lower = Some (mode.Key, d)
next_of mode.Key d NameRest = Some (mode.Key, d)
next_of mode.Key d Equals = Some (mode.ValueDue, d)
next_of mode.KeyAfter d Space = Some (mode.KeyAfter, d)
next_of mode.KeyAfter d Equals = Some (mode.ValueDue, d)
next_of mode.ValueDue d Space = Some (mode.ValueDue, d)
next_of mode.ValueDue d Lower = Some (mode.Name, d)
next_of mode.ValueDue d NameRest = Some (mode.Word, d)
next_of mode.ValueDue d WordRest = Some (mode.Word, d)
next_of mode.Name d Space = Some (mode.NameAfter, d)
next_of mode.Name d Lower = Some (mode.Name, d)
next_of mode.Name d NameRest = Some (mode.Name, d)
next_of mode.Name d WordRest = Some (mode.Word, d)
next_of mode.Name d Open = Some (mode.Opened, d + 1)
next_of mode.Name d Comma = Some (mode.KeyDue, d)
next_of mode.Name d Close = after_close d
next_of mode.Word d Space = Some (mode.After, d)
next_of mode.Word d Lower = Some (mode.Word, d)
next_of mode.Word d NameRest = Some (mode.Word, d)
next_of mode.Word d WordRest = Some (mode.Word, d)
next_of mode.Word d Comma = Some (mode.KeyDue, d)
next_of mode.Word d Close = after_close d
next_of mode.NameAfter d Space = Some (mode.NameAfter, d)
next_of mode.NameAfter d Open = Some (mode.Opened, d + 1)
next_of mode.NameAfter d Comma = Some (mode.KeyDue, d)
next_of mode.NameAfter d Close = after_close d
next_of mode.After d Space = Some (mode.After, d)
next_of mode.After d Comma = Some (mode.KeyDue, d)
next_of mode.After d Close = after_close d
next_of mode.Done d Space = Some (mode.Done, d)
next_of m d k = None

-- ---- the mode and the depth of a state

-- how many brackets are open
abbrev pub depth_in : Context → ℕ
depth_in (outermost lead name before) = 1
depth_in (within context finished head name before) = depth_in context + 1

abbrev pub depth_of : State → ℕ
depth_of (start lead) = 0
depth_of (outer lead name after) = 0
depth_of (open_at context finished lead) = depth_in context
depth_of (key_at context finished lead key after) = depth_in context
depth_of (value_due context finished head) = depth_in context
depth_of (value_at context finished head value) = depth_in context
depth_of (done lead name before brackets after) = 0

-- the first mode in a word, and the second in the spaces after it
abbrev pub spaced_mode : Mode → Mode → ℕ → Mode
spaced_mode m k zero = m
spaced_mode m k (suc after) = k

abbrev pub word_mode : Bool → ℕ → Mode
word_mode true n = spaced_mode mode.Name mode.NameAfter n
word_mode false n = spaced_mode mode.Word mode.After n

abbrev pub value_mode : Node → Mode
value_mode (leaf name after) = word_mode (is_name name) after
value_mode (call name after brackets m) = mode.After

abbrev pub open_mode : Finished → Mode
open_mode no_entry = mode.Opened
open_mode (with_entry finished head value) = mode.KeyDue

abbrev pub mode_of : State → Mode
mode_of (start lead) = mode.Start
mode_of (outer lead name after) = spaced_mode mode.Outer mode.OuterAfter after
mode_of (open_at context finished lead) = open_mode finished
mode_of (key_at context finished lead key after) = spaced_mode mode.Key mode.KeyAfter after
mode_of (value_due context finished head) = mode.ValueDue
mode_of (value_at context finished head value) = value_mode value
mode_of (done lead name before brackets after) = mode.Done

-- a text may end in the mode
abbrev pub may_end : Mode → Bool
may_end mode.Outer = true
may_end mode.OuterAfter = true
may_end mode.Done = true
may_end m = false
