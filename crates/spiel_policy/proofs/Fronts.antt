-- What stands at the front of tokens, from its parts.
use Rattle.std.proofs.Common.{◌≡◌, ℕ, suc, ◌+◌, ◌^◌, ◌<◌, ◌≤◌, List, [], ◌∷◌, ◌++◌, length, Option, Some, None, Ok, Err, Result, decimal, refl, sym, ap, ap₂, ◌∙◌, arith, add-one, append_assoc, append-nil, length-append, subst}
use Rattle.std.specs.Prelude.{IfOk, IfSome, IsUtf8, codes, option_map, option_and_then, pos}
use Rattle.std.specs.Option.{ok_or}
use Rattle.json.specs.Token.{Token}
use Rattle.json.specs.Lex.{tokens}
use Rattle.json.specs.Json as json
use Rattle.json.specs.Tree as tree
use Rattle.json.proofs.Printed.Trees.{value-json_tokens}
use Rattle.serde_json.specs.Data.{Data, number, unsigned, string, array, object, Items, no_items, item, no_members, member, put}
use Rattle.serde_json.specs.Read.{max_depth, number_of, of_items, of_json, of_members, read}
use Rattle.serde_json.proofs.Numbers.{number_of-decimal}
use Rattle.spiel_frac.specs.Fraction.{Fraction}
use Rattle.spiel_frac.specs.Reading.{frac_of}
use Rattle.spiel_tree.specs.Trees.{Whole}
use Rattle.spiel_policy.specs.Entries.{entry_with, not_negative, pair_with, pairs_in}
use Rattle.spiel_policy.specs.Heads.{entries_of, json_of}
use Rattle.spiel_policy.specs.Profiles.{Profile}
use Rattle.spiel_policy.specs.Reading.{Partial, go_on, none_given, policy_of, profile_from, profile_of_data, profile_of_entries, with_entries, with_entry}
use Rattle.spiel_policy.specs.Fronts.{AreEntriesNext, AreNext, ArePairsNext, IsEntryNext, IsFileNext, IsNext, IsPairNext, IsWeightNext}
use Rattle.spiel_policy.specs.declared.entries.Entry.{Entry}
use Rattle.spiel_policy.specs.declared.entries.Pair.{Pair}
use Rattle.spiel_policy.specs.declared.fault.PolicyFault.TheVariants.{Head, Json, Shape}
use Rattle.spiel_policy.proofs.JsonBytes.{json_of-some}
use Rattle.spiel_policy.proofs.ReadBack.{small_read}

-- ---- tokens
some_token : (j : json.Json) → 0 < length (tree.json_tokens j)
some_token json.null = omega arith
some_token (json.boolean b) = omega arith
some_token (json.number s) = omega arith
some_token (json.string s) = omega arith
some_token (json.array js) = omega arith
some_token (json.object ms) = omega arith

-- behind a value there are fewer
pub shorter : (depth : ℕ) (d : Data) (old left : List Token) → IsNext depth d old left → length left < length old
shorter depth d old left next = omega (arith, some_token next.value, length-append (tree.json_tokens next.value) left, ap length next.tokens_are)

-- a bracket that was taken
pub closed : (old left : List Token) → json.after_end_array old ≡ Some left → old ≡ Token.end_array ∷ left
closed [] left e = cc
closed (Token.begin_object ∷ ts) left e = cc
closed (Token.end_object ∷ ts) left e = cc
closed (Token.begin_array ∷ ts) left e = cc
closed (Token.end_array ∷ ts) left e = let same : ts ≡ left = cc in ap (λ (l : List Token). Token.end_array ∷ l) same
closed (Token.key s ∷ ts) left e = cc
closed (Token.string s ∷ ts) left e = cc
closed (Token.number s ∷ ts) left e = cc
closed (Token.boolean b ∷ ts) left e = cc
closed (Token.null ∷ ts) left e = cc
closed (Token.bad ∷ ts) left e = cc

-- ---- weights and pairs
pub whole_next : (n : ℕ) (weight : Fraction) (text : List ℕ) (old left : List Token) → n < 2 ^ 32 → text ≡ decimal n → weight ≡ record { num = pos n; den = 1 } → old ≡ Token.number text ∷ left → IsWeightNext weight old left
whole_next n weight text old left low spelled is first =
    let fits : n < 2 ^ 64 = omega (arith, low) in
    record {
      datum = number (unsigned n);
      next = record {
        value = json.number text;
        tokens_are = first;
        reads = ap (option_map number) (ap number_of spelled ∙ number_of-decimal n fits);
        shallow = omega arith;
      };
      weight_is = ap Some (sym is);
    }

pub text_next : (text : List ℕ) (weight : Fraction) (old left : List Token) → Some weight ≡ not_negative (frac_of text) → old ≡ Token.string text ∷ left → IsWeightNext weight old left
text_next text weight old left is first = record {
  datum = string text;
  next = record { value = json.string text; tokens_are = first; reads = refl; shallow = omega arith };
  weight_is = sym is;
}

pub pair_next : (n : ℕ) (weight : Fraction) (old opened weighed ended left : List Token) → n < 2 ^ 32 → old ≡ Token.begin_array ∷ opened → opened ≡ Token.number (decimal n) ∷ weighed → IsWeightNext weight weighed ended
    → json.after_end_array ended ≡ Some left → IsPairNext (record { number = n; weight = weight }) old left
pair_next n weight old opened weighed ended left low begun named is close =
    let fits : n < 2 ^ 64 = omega (arith, low) in
    let next = is.next in
    let shallow : tree.depth next.value ≤ 0 = next.shallow in
    record {
      datum = array (item (number (unsigned n)) (item is.datum no_items));
      next = record {
        value = json.array (json.item (json.number (decimal n)) (json.item next.value json.no_items));
        tokens_are =
            begun ∙ ap (λ (l : List Token). Token.begin_array ∷ l) (named ∙ ap (λ (l : List Token). Token.number (decimal n) ∷ l)
            (next.tokens_are ∙ ap (λ (l : List Token). tree.json_tokens next.value ++ l) (closed ended left close) ∙ sym (append_assoc (tree.json_tokens next.value) (Token.end_array ∷ []) left)));
        reads =
            ap (λ o. option_map array (option_and_then (λ d. option_map (item d) (of_items (json.item next.value json.no_items))) (option_map number o))) (number_of-decimal n fits)
            ∙ ap (λ o. option_map array (option_map (item (number (unsigned n))) (option_and_then (λ d. option_map (item d) (Some no_items)) o))) next.reads;
        shallow = omega (arith, shallow);
      };
      pair_is = ap₂ (λ (m : Option ℕ) (w : Option Fraction). pair_with m w) (small_read n low) is.weight_is;
    }

pub pair_shorter : (pair : Pair) (old left : List Token) → IsPairNext pair old left → length left < length old
pair_shorter pair old left is = shorter 1 is.datum old left is.next

-- ---- items of an array
items_none : (depth : ℕ) (old left : List Token) → json.after_end_array old ≡ Some left → AreNext depth no_items old left
items_none depth old left close = record { values = json.no_items; tokens_are = closed old left close; reads = refl; shallow = omega arith }

items_more : (depth : ℕ) (d : Data) (ds : Items) (old more left : List Token) → IsNext depth d old more → AreNext depth ds more left → AreNext depth (item d ds) old left
items_more depth d ds old more left first rest =
    let low = first.shallow in
    let lower = rest.shallow in
    record {
      values = json.item first.value rest.values;
      tokens_are = first.tokens_are ∙ ap (λ (l : List Token). tree.json_tokens first.value ++ l) rest.tokens_are ∙ sym (append_assoc (tree.json_tokens first.value) (tree.items_tokens rest.values) left);
      reads = ap (λ o. option_and_then (λ e. option_map (item e) (of_items rest.values)) o) first.reads ∙ ap (option_map (item d)) rest.reads;
      shallow = omega (arith, low, lower);
    }

pub pairs_none : (old left : List Token) → json.after_end_array old ≡ Some left → ArePairsNext [] old left
pairs_none old left close = record { items = no_items; next = items_none 1 old left close; pairs_are = refl }

pub pairs_more : (pair : Pair) (pairs : List Pair) (old more left : List Token) → IsPairNext pair old more → ArePairsNext pairs more left → ArePairsNext (pair ∷ pairs) old left
pairs_more pair pairs old more left first rest = record {
  items = item first.datum rest.items;
  next = items_more 1 first.datum rest.items old more left first.next rest.next;
  pairs_are = ap (λ (o : Option Pair). option_and_then (λ p. option_map (λ ps. p ∷ ps) (pairs_in rest.items)) o) first.pair_is ∙ ap (option_map (λ ps. pair ∷ ps)) rest.pairs_are;
}

-- ---- entries
pub entry_next : (entry : Entry) (pairs : List Pair) (old opened more left : List Token) → entry.pairs ≡ pairs → entry.player < 2 ^ 32
    → old ≡ Token.begin_object ∷ Token.key (codes "actions") ∷ Token.begin_array ∷ opened → ArePairsNext pairs opened more
    → more ≡ Token.key (codes "player") ∷ Token.number (decimal entry.player) ∷ Token.key (codes "state") ∷ Token.string entry.text ∷ Token.end_object ∷ left → IsEntryNext entry old left
entry_next entry pairs old opened more left same low begun is rest =
    let fits : entry.player < 2 ^ 64 = omega (arith, low) in
    let next = is.next in
    let shallow : tree.items_depth next.values ≤ 1 = next.shallow in
    let end : List Token = Token.key (codes "player") ∷ Token.number (decimal entry.player) ∷ Token.key (codes "state") ∷ Token.string entry.text ∷ Token.end_object ∷ [] in
    record {
      datum = object (member (codes "actions") (array is.items) (member (codes "player") (number (unsigned entry.player)) (member (codes "state") (string entry.text) no_members)));
      next = record {
        value = json.object (json.member (codes "actions") (json.array next.values) (json.member (codes "player") (json.number (decimal entry.player)) (json.member (codes "state") (json.string entry.text) json.no_members)));
        tokens_are =
            begun ∙ ap (λ (l : List Token). Token.begin_object ∷ Token.key (codes "actions") ∷ Token.begin_array ∷ l)
            (next.tokens_are ∙ ap (λ (l : List Token). tree.items_tokens next.values ++ l) rest ∙ sym (append_assoc (tree.items_tokens next.values) end left));
        reads =
            ap (λ o. option_map object (option_and_then (λ d. of_members (json.member (codes "player") (json.number (decimal entry.player)) (json.member (codes "state") (json.string entry.text) json.no_members)) (put (codes "actions") d no_members)) (option_map array o))) next.reads
            ∙ ap (λ o. option_map object (option_and_then (λ d. of_members (json.member (codes "state") (json.string entry.text) json.no_members) (put (codes "player") d (member (codes "actions") (array is.items) no_members))) (option_map number o))) (number_of-decimal entry.player fits);
        shallow = omega (arith, shallow);
      };
      entry_is = ap₂ (λ (p : Option ℕ) (ps : Option (List Pair)). entry_with p (Some entry.text) ps) (small_read entry.player low) (is.pairs_are ∙ ap Some (sym same));
    }

-- an entry whose player stands first, behind the key of it
seen_next : (player : ℕ) (text : List ℕ) (pairs : List Pair) (old opened more left : List Token) → player < 2 ^ 32
    → old ≡ Token.number (decimal player) ∷ Token.key (codes "state") ∷ Token.string text ∷ Token.key (codes "actions") ∷ Token.begin_array ∷ opened → ArePairsNext pairs opened more
    → more ≡ Token.end_object ∷ left → IsEntryNext (record { player = player; text = text; pairs = pairs }) (Token.begin_object ∷ Token.key (codes "player") ∷ old) left
seen_next player text pairs old opened more left low begun is rest =
    let fits : player < 2 ^ 64 = omega (arith, low) in
    let next = is.next in
    let shallow : tree.items_depth next.values ≤ 1 = next.shallow in
    record {
      datum = object (member (codes "actions") (array is.items) (member (codes "player") (number (unsigned player)) (member (codes "state") (string text) no_members)));
      next = record {
        value = json.object (json.member (codes "player") (json.number (decimal player)) (json.member (codes "state") (json.string text) (json.member (codes "actions") (json.array next.values) json.no_members)));
        tokens_are =
            ap (λ (l : List Token). Token.begin_object ∷ Token.key (codes "player") ∷ l)
            (begun ∙ ap (λ (l : List Token). Token.number (decimal player) ∷ Token.key (codes "state") ∷ Token.string text ∷ Token.key (codes "actions") ∷ Token.begin_array ∷ l)
            (next.tokens_are ∙ ap (λ (l : List Token). tree.items_tokens next.values ++ l) rest ∙ sym (append_assoc (tree.items_tokens next.values) (Token.end_object ∷ []) left)));
        reads =
            ap (λ o. option_map object (option_and_then (λ d. of_members (json.member (codes "state") (json.string text) (json.member (codes "actions") (json.array next.values) json.no_members)) (put (codes "player") d no_members)) (option_map number o))) (number_of-decimal player fits)
            ∙ ap (λ o. option_map object (option_and_then (λ d. of_members json.no_members (put (codes "actions") d (member (codes "player") (number (unsigned player)) (member (codes "state") (string text) no_members)))) (option_map array o))) next.reads;
        shallow = omega (arith, shallow);
      };
      entry_is = ap₂ (λ (p : Option ℕ) (ps : Option (List Pair)). entry_with p (Some text) ps) (small_read player low) is.pairs_are;
    }

pub entry_shorter : (entry : Entry) (old left : List Token) → IsEntryNext entry old left → length left < length old
entry_shorter entry old left is = shorter 3 is.datum old left is.next

pub entries_none : (whole : Whole) (given : Partial) (n : ℕ) (old left : List Token) → json.after_end_array old ≡ Some left → AreEntriesNext whole given n given old left
entries_none whole given n old left close = record { items = no_items; next = items_none 3 old left close; given_is = refl }

pub entries_more : (whole : Whole) (before given final : Partial) (n : ℕ) (entry : Entry) (old more left : List Token) → IsEntryNext entry old more → with_entry whole before n entry ≡ Ok given
    → AreEntriesNext whole given (n + 1) final more left → AreEntriesNext whole before n final old left
entries_more whole before given final n entry old more left first added rest = record {
  items = item first.datum rest.items;
  next = items_more 3 first.datum rest.items old more left first.next rest.next;
  given_is = ap (λ (o : Option Entry). go_on (λ (g : Partial). with_entries whole g (suc n) rest.items) (go_on (with_entry whole before n) (ok_or o (Shape n)))) first.entry_is
      ∙ ap (go_on (λ (g : Partial). with_entries whole g (suc n) rest.items)) added
      ∙ ap (λ (k : ℕ). with_entries whole given k rest.items) (sym (add-one n)) ∙ rest.given_is;
}

-- ---- the file
pub file_next : (whole : Whole) (given : Partial) (old opened more : List Token)
    → old ≡ Token.begin_object ∷ Token.key (codes "policy") ∷ Token.number (decimal 1) ∷ Token.key (codes "states") ∷ Token.begin_array ∷ opened
    → AreEntriesNext whole (none_given whole) 0 given opened more → more ≡ Token.end_object ∷ [] → IsFileNext whole given old []
file_next whole given old opened more begun is rest =
    let next = is.next in
    let shallow : tree.items_depth next.values ≤ 3 = next.shallow in
    let one : 1 < 2 ^ 64 = omega arith in
    record {
      datum = object (member (codes "policy") (number (unsigned 1)) (member (codes "states") (array is.items) no_members));
      next = record {
        value = json.object (json.member (codes "policy") (json.number (decimal 1)) (json.member (codes "states") (json.array next.values) json.no_members));
        tokens_are =
            begun ∙ ap (λ (l : List Token). Token.begin_object ∷ Token.key (codes "policy") ∷ Token.number (decimal 1) ∷ Token.key (codes "states") ∷ Token.begin_array ∷ l)
            (next.tokens_are ∙ ap (λ (l : List Token). tree.items_tokens next.values ++ l) rest ∙ sym (append-nil (tree.items_tokens next.values ++ Token.end_object ∷ [])));
        reads =
            ap (λ o. option_map object (option_and_then (λ d. of_members (json.member (codes "states") (json.array next.values) json.no_members) (put (codes "policy") d no_members)) (option_map number o))) (number_of-decimal 1 one)
            ∙ ap (λ o. option_map object (option_and_then (λ d. of_members json.no_members (put (codes "states") d (member (codes "policy") (number (unsigned 1)) no_members))) (option_map array o))) next.reads;
        shallow = omega (arith, shallow);
      };
      items = is.items;
      items_are = refl;
      given_is = is.given_is;
    }

-- the value that was parsed, where no token is left
abbrev last_read : Option (json.Json × List Token) → Option Data
last_read parsed = option_and_then of_json (option_and_then (λ p. json.if_last p.0 p.1) parsed)

-- a text that is one value
pub next_read : (depth : ℕ) (d : Data) (text : List ℕ) → IsNext depth d (tokens text) [] → depth ≤ max_depth → read text ≡ Some d
next_read depth d text next low =
    let shallow = next.shallow in
    ap last_read (ap (json.value max_depth) next.tokens_are ∙ value-json_tokens next.value max_depth [] (omega (arith, shallow, low))) ∙ next.reads

pub file_policy : (whole : Whole) (bytes : List ℕ) (d : Data) (items : Items) (given : Partial) (profile : Profile) → json_of bytes ≡ Some d → entries_of d ≡ Some items
    → with_entries whole (none_given whole) 0 items ≡ Ok given → profile_from whole 0 given ≡ Ok profile → policy_of whole bytes ≡ Ok profile
unfolding policy_of
file_policy whole bytes d items given profile is entries gives all =
    ap (λ (o : Option Data). go_on (profile_of_data whole) (ok_or o Json)) is ∙ ap (λ (o : Option Items). go_on (profile_of_entries whole) (ok_or o Head)) entries
    ∙ ap (go_on (profile_from whole 0)) gives ∙ all

-- ---- where there may be none
pub whole_if : (found : Option Fraction) (text : List ℕ) (old left : List Token) → old ≡ Token.number text ∷ left
    → IfSome found (λ weight. (n : ℕ) × (n < 2 ^ 32) × (text ≡ decimal n) × (weight ≡ record { num = pos n; den = 1 })) → IfSome found (λ weight. IsWeightNext weight old left)
whole_if None text old left first is = tt
whole_if (Some weight) text old left first is = whole_next is.0 weight text old left is.1 is.2 is.3 first

pub text_if : (found : Option Fraction) (text : List ℕ) (old left : List Token) → old ≡ Token.string text ∷ left → found ≡ not_negative (frac_of text) → IfSome found (λ weight. IsWeightNext weight old left)
text_if None text old left first is = tt
text_if (Some weight) text old left first is = text_next text weight old left is first

pub entry_if : {E : Type 0} (found : Result (Option Entry) E) (pairs : List Pair) (old opened more left : List Token)
    → old ≡ Token.begin_array ∷ opened → ArePairsNext pairs opened more
    → IfOk found (λ some. IfSome some (λ entry. (entry.pairs ≡ pairs) × (entry.player < 2 ^ 32)
    × (more ≡ Token.key (codes "player") ∷ Token.number (decimal entry.player) ∷ Token.key (codes "state") ∷ Token.string entry.text ∷ Token.end_object ∷ left)))
    → IfOk found (λ some. IfSome some (λ entry. IsEntryNext entry (Token.begin_object ∷ Token.key (codes "actions") ∷ old) left))
entry_if (Err e) pairs old opened more left begun is rest = tt
entry_if (Ok None) pairs old opened more left begun is rest = tt
entry_if (Ok (Some entry)) pairs old opened more left begun is rest = entry_next entry pairs (Token.begin_object ∷ Token.key (codes "actions") ∷ old) opened more left rest.0 rest.1 (ap (λ (l : List Token). Token.begin_object ∷ Token.key (codes "actions") ∷ l) begun) is rest.2

pub seen_if : {E : Type 0} (found : Result (Option Entry) E) (player : ℕ) (text : List ℕ) (pairs : List Pair) (old opened more left : List Token) → player < 2 ^ 32
    → old ≡ Token.number (decimal player) ∷ Token.key (codes "state") ∷ Token.string text ∷ Token.key (codes "actions") ∷ Token.begin_array ∷ opened → ArePairsNext pairs opened more
    → IfOk found (λ some. IfSome some (λ entry. (entry ≡ record { player = player; text = text; pairs = pairs }) × (more ≡ Token.end_object ∷ left)))
    → IfOk found (λ some. IfSome some (λ entry. IsEntryNext entry (Token.begin_object ∷ Token.key (codes "player") ∷ old) left))
seen_if (Err e) player text pairs old opened more left low begun is rest = tt
seen_if (Ok None) player text pairs old opened more left low begun is rest = tt
seen_if (Ok (Some entry)) player text pairs old opened more left low begun is rest =
    subst (λ (e : Entry). IsEntryNext e (Token.begin_object ∷ Token.key (codes "player") ∷ old) left) (sym rest.0) (seen_next player text pairs old opened more left low begun is rest.1)

pub entry_found_shorter : {E : Type 0} (found : Result (Option Entry) E) (old left : List Token) → IfOk found (λ some. IfSome some (λ entry. IsEntryNext entry old left)) → IfOk found (λ some. IfSome some (λ entry. length left < length old))
entry_found_shorter (Err e) old left is = tt
entry_found_shorter (Ok None) old left is = tt
entry_found_shorter (Ok (Some entry)) old left is = entry_shorter entry old left is

pub policy_if : {E : Type 0} (whole : Whole) (bytes : List ℕ) (given : Partial) (found : Result (Option Profile) E) → IsUtf8 bytes → IsFileNext whole given (tokens bytes) []
    → IfOk found (λ some. IfSome some (λ profile. profile_from whole 0 given ≡ Ok profile)) → IfOk found (λ some. IfSome some (λ profile. policy_of whole bytes ≡ Ok profile))
policy_if whole bytes given (Err e) utf8 is all = tt
policy_if whole bytes given (Ok None) utf8 is all = tt
policy_if whole bytes given (Ok (Some profile)) utf8 is all =
    file_policy whole bytes is.datum is.items given profile (json_of-some bytes is.datum utf8 (next_read 5 is.datum bytes is.next (omega arith))) is.items_are is.given_is all
