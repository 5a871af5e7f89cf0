-- What an entry of a policy file says, before any tree is asked: whose information state it is, and
-- how likely the numbers are that it names.
use Rattle.std.specs.Prelude.{◌≡◌, ℕ, ◌+◌, ◌^◌, ◌==◌, Bool, false, nat_lt, if◌then◌else◌, List, [], ◌∷◌, codes, pos, Option, Some, None, Result, Ok, Err}
use Rattle.std.specs.Option.{option_and_then, option_map}
use Rattle.std.specs.Int.{is_negative}
use Rattle.serde_json.specs.Data.{Data, object, Items, no_items, item, Members, no_members, member}
use Rattle.serde_json.specs.Find.{get, as_array, as_number, as_str, as_u64}
use Rattle.spiel_frac.specs.Fraction.{Fraction, IsLowest}
use Rattle.spiel_frac.specs.Reading.{frac_of}
use Rattle.spiel_frac.specs.declared.fault.BadNumber.{BadNumber}
use Rattle.spiel_policy.specs.declared.entries.Entry.{Entry}
use Rattle.spiel_policy.specs.declared.entries.Pair.{Pair}

-- ---- members
abbrev pub member_count : Members → ℕ
member_count no_members = 0
member_count (member key d ms) = member_count ms + 1

-- is it an object with so many members? Each key stands in an object once, with the last of the
-- values that were written for it.
abbrev pub has_members : ℕ → Data → Bool
has_members n (object ms) = member_count ms == n
has_members n d = false

-- ---- whole numbers
-- a whole number from 0 up to 2^64 - 1, written without a point, an exponent and a sign
abbrev pub whole_of : Data → Option ℕ
whole_of d = option_and_then as_u64 (as_number d)

-- one of at most 32 bits
abbrev pub small_of : Data → Option ℕ
small_of d = option_and_then (λ n. if nat_lt n (2 ^ 32) then Some n else None) (whole_of d)

-- ---- pairs
-- a weight is a fraction in lowest terms that isn't negative
pub record IsFair (weight : Fraction) : Type 0 where
  pub lowest : IsLowest weight
  pub sign : is_negative weight.num ≡ false

-- the fraction that a text reads as, if it isn't negative
abbrev pub not_negative : Result Fraction BadNumber → Option Fraction
not_negative (Ok f) = if is_negative f.num then None else Some f
not_negative (Err e) = None

abbrev pub text_weight : Data → Option Fraction
text_weight d = option_and_then (λ text. not_negative (frac_of text)) (as_str d)

-- a weight is a whole number, or a text that reads as a number that isn't negative
abbrev pub whole_or_text : Option ℕ → Option Fraction → Option Fraction
whole_or_text (Some n) text = Some (record { num = pos n; den = 1 })
whole_or_text None text = text

abbrev pub weight_of : Data → Option Fraction
weight_of d = whole_or_text (whole_of d) (text_weight d)

abbrev pub pair_with : Option ℕ → Option Fraction → Option Pair
pair_with (Some n) (Some weight) = Some (record { number = n; weight = weight })
pair_with (Some n) None = None
pair_with None weight = None

-- a pair is an array of a number and its weight
abbrev pub pair_in : Items → Option Pair
pair_in no_items = None
pair_in (item n no_items) = None
pair_in (item n (item weight no_items)) = pair_with (small_of n) (weight_of weight)
pair_in (item n (item weight (item more ds))) = None

abbrev pub pair_of : Data → Option Pair
pair_of d = option_and_then pair_in (as_array d)

-- all pairs of an array, if each of its items is one
abbrev pub pairs_in : Items → Option (List Pair)
pairs_in no_items = Some []
pairs_in (item d ds) = option_and_then (λ pair. option_map (λ pairs. pair ∷ pairs) (pairs_in ds)) (pair_of d)

-- ---- entries
abbrev pub player_of : Data → Option ℕ
player_of d = option_and_then small_of (get (codes "player") d)

abbrev pub text_of : Data → Option (List ℕ)
text_of d = option_and_then as_str (get (codes "state") d)

abbrev pub pairs_of : Data → Option (List Pair)
pairs_of d = option_and_then pairs_in (option_and_then as_array (get (codes "actions") d))

abbrev pub entry_with : Option ℕ → Option (List ℕ) → Option (List Pair) → Option Entry
entry_with (Some player) (Some text) (Some pairs) = Some (record { player = player; text = text; pairs = pairs })
entry_with (Some player) (Some text) None = None
entry_with (Some player) None pairs = None
entry_with None text pairs = None

-- an entry is an object with exactly these three members
abbrev pub entry_of : Data → Option Entry
entry_of d = if has_members 3 d then entry_with (player_of d) (text_of d) (pairs_of d) else None
