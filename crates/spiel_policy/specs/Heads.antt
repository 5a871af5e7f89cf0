-- From the bytes of a policy file to its entries.
use Rattle.std.specs.Prelude.{ℕ, ◌==◌, ◌&&◌, Bool, false, if◌then◌else◌, List, codes, Option, Some, None}
use Rattle.std.specs.Option.{option_and_then}
use Rattle.std.specs.Str.{is_utf8}
use Rattle.serde_json.specs.Data.{Data, Items}
use Rattle.serde_json.specs.Find.{get, as_array}
use Rattle.serde_json.specs.Read.{read}
use Rattle.spiel_policy.specs.Entries.{has_members, whole_of}

-- the JSON value (RFC 8259) that the bytes are, nested at most 127 deep
abbrev pub json_of : List ℕ → Option Data
json_of bytes = if is_utf8 bytes then read bytes else None

abbrev pub is_whole : ℕ → Option ℕ → Bool
is_whole n None = false
is_whole n (Some m) = m == n

-- the entries of a policy file of version 1: an object with these two members alone
abbrev pub entries_of : Data → Option Items
entries_of d = if has_members 2 d && is_whole 1 (option_and_then whole_of (get (codes "policy") d)) then option_and_then as_array (get (codes "states") d) else None
