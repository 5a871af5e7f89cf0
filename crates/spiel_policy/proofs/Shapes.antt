-- What the look-ups of a JSON value found, and the shapes of pairs and entries.
use Rattle.std.proofs.Common.{◌≡◌, ℕ, suc, ◌+◌, ◌/◌, ◌<◌, ◌≤◌, Bool, true, false, List, [], ◌∷◌, ◌++◌, length, map, drop, refl, sym, ap, ◌∙◌, Option, Some, None, arith, append_assoc, add-one, nat_lt, ltb-true}
use Rattle.std.specs.Prelude.{option_map, option_and_then, ◌==◌, String, pos, slice_index_or}
use Rattle.std.specs.Int.{IsGcd, is_negative}
use Rattle.std.specs.declared.alloc.Global.{Global}
use Rattle.std.proofs.lemmas.List.{length-map}
use Rattle.std.proofs.Math.Seq.{drop-cons}
use Rattle.std.proofs.Math.Nat.{one-dvd}
use Rattle.std.proofs.Math.Nat.{div-one}
use Rattle.serde_json.specs.Data.{Data, null, boolean, number, string, array, object, no_items, item, Members}
use Rattle.serde_json.specs.Find.{as_object}
use Rattle.serde_json.specs.View.{items_view, members_of, members_view, view}
use Rattle.serde_json.specs.declared.value.Value.{Value}
use Rattle.spiel_frac.specs.Fraction.{Fraction, greatest_common_divisor, lowest_terms, most}
use Rattle.spiel_frac.proofs.Divisors.{greatest_common_divisor-is}
use Rattle.spiel_policy.specs.Entries.{IsFair, has_members, member_count, pair_in, pair_of, pairs_in}
use Rattle.spiel_policy.specs.declared.entries.Pair.{Pair}

-- ---- members
count-members_of : (ms : List (String Global × Data)) → member_count (members_of ms) ≡ length ms
count-members_of [] = refl
count-members_of (m ∷ ms) = ap (λ n. n + 1) (count-members_of ms) ∙ add-one (length ms)

pub count-members_view : (ms : List (String Global × Value)) → member_count (members_view ms) ≡ length ms
count-members_view ms = count-members_of (map (λ (m : String Global × Value). (m.0, view m.1)) ms) ∙ length-map ms (λ (m : String Global × Value). (m.0, view m.1))

pub has_members-is : (n : ℕ) (d : Data) (ms : Members) → as_object d ≡ Some ms → has_members n d ≡ (member_count ms == n)
has_members-is n null ms e = cc
has_members-is n (boolean b) ms e = cc
has_members-is n (number m) ms e = cc
has_members-is n (string s) ms e = cc
has_members-is n (array ds) ms e = cc
has_members-is n (object found) ms e = let same : found ≡ ms = cc in ap (λ (is : Members). member_count is == n) same

-- ---- items
-- an array of two values
pub two_items : (vs : List Value) (d : Value) → length vs ≡ 2 → items_view vs ≡ item (view (slice_index_or vs 0 d)) (item (view (slice_index_or vs 1 d)) no_items)
two_items [] d e = absurd (omega arith)
two_items (v ∷ []) d e = absurd (omega arith)
two_items (v ∷ w ∷ []) d e = refl
two_items (v ∷ w ∷ x ∷ vs) d e = absurd (omega arith)

-- one of another length makes no pair
pub no_pair : (vs : List Value) → (length vs ≡ 2 → ⊥) → pair_in (items_view vs) ≡ None
no_pair [] h = refl
no_pair (v ∷ []) h = refl
no_pair (v ∷ w ∷ []) h = absurd (h refl)
no_pair (v ∷ w ∷ x ∷ vs) h = refl

-- the pairs of an array, item by item
first_pair : (ps : List Pair) (v : Value) (vs : List Value) (p : Pair) → pair_of (view v) ≡ Some p
    → option_map (λ more. ps ++ more) (pairs_in (items_view (v ∷ vs))) ≡ option_map (λ more. (ps ++ p ∷ []) ++ more) (pairs_in (items_view vs))
first_pair ps v vs p e =
    ap (λ (found : Option Pair). option_map (λ more. ps ++ more) (option_and_then (λ pair. option_map (λ pairs. pair ∷ pairs) (pairs_in (items_view vs))) found)) e
    ∙ by (pairs_in (items_view vs))
  where
    by : (rest : Option (List Pair)) → option_map (λ more. ps ++ more) (option_map (λ pairs. p ∷ pairs) rest) ≡ option_map (λ more. (ps ++ p ∷ []) ++ more) rest
    by None = refl
    by (Some more) = ap Some (sym (append_assoc ps (p ∷ []) more))

pub pairs_more : (ps : List Pair) (vs : List Value) (k : ℕ) (d : Value) (p : Pair) → k < length vs → pair_of (view (slice_index_or vs k d)) ≡ Some p
    → option_map (λ more. ps ++ more) (pairs_in (items_view (drop k vs))) ≡ option_map (λ more. (ps ++ p ∷ []) ++ more) (pairs_in (items_view (drop (k + 1) vs)))
pairs_more ps vs k d p l e = rw (drop-cons vs k d l, add-one k) (first_pair ps (slice_index_or vs k d) (drop (suc k) vs) p e)

pub pairs_stop : (vs : List Value) (k : ℕ) (d : Value) → k < length vs → pair_of (view (slice_index_or vs k d)) ≡ None → pairs_in (items_view (drop k vs)) ≡ None
pairs_stop vs k d l e =
    ap (λ (rest : List Value). pairs_in (items_view rest)) (drop-cons vs k d l)
    ∙ ap (λ (found : Option Pair). option_and_then (λ pair. option_map (λ pairs. pair ∷ pairs) (pairs_in (items_view (drop (suc k) vs)))) found) e

-- ---- whole numbers as fractions
one_divisor : (n : ℕ) → IsGcd n 1 1
one_divisor n = (one-dvd n, one-dvd 1, λ d a b. b)

pub whole_ratio : (n : ℕ) → lowest_terms (pos n) (pos 1) ≡ record { num = pos n; den = 1 }
unfolding lowest_terms
whole_ratio n =
    let one : greatest_common_divisor n 1 ≡ 1 = sym (greatest_common_divisor-is n 1 1 (one_divisor n)) in
    ap (λ (g : ℕ). let f : Fraction = record { num = pos (n / g); den = 1 / g } in f) one ∙ ap (λ (k : ℕ). let f : Fraction = record { num = pos k; den = 1 } in f) (div-one n)

pub not_below : (n : ℕ) → is_negative (pos n) ≡ false
not_below n = by (nat_lt n 0) refl
  where
    by : (b : Bool) → nat_lt n 0 ≡ b → b ≡ false
    by true e = absurd (omega (arith, ltb-true n 0 e))
    by false e = refl

pub whole_fair : (n : ℕ) → n ≤ most → IsFair (record { num = pos n; den = 1 })
whole_fair n l = record { lowest = record { positive = omega arith; den_fits = omega arith; num_fits = l; lowest = one_divisor n }; sign = not_below n }
