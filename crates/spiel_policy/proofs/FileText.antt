-- The text of a policy file: what tokens it has, and that it reads as what was written.
use Rattle.std.proofs.Common.{◌≡◌, ℕ, suc, ◌+◌, ◌^◌, ◌<◌, ◌≤◌, ◌-◌, Bool, true, false, nat_lt, lt-ltb, List, [], ◌∷◌, ◌++◌, length, map, Some, Ok, Err, Result, decimal, refl, sym, ap, ap₂, ◌∙◌, subst, arith, append_assoc, append-nil}
use Rattle.std.specs.Prelude.{All, IsUtf8, OnOk, codes, max, option_map, option_and_then, sum}
use Rattle.std.specs.Fmt.{digits}
use Rattle.std.specs.List.{range_with_len}
use Rattle.std.proofs.lemmas.Str.{IsUtf8-append}
use Rattle.std.proofs.lemmas.List.Elements.{All-cons, All-head, All-nil, All-tail}
use Rattle.json.specs.Token.{Token}
use Rattle.json.specs.Lex.{tokens}
use Rattle.json.specs.Json as json
use Rattle.json.specs.Tree as tree
use Rattle.json.specs.Print.{escape_byte}
use Rattle.json.proofs.Printed.Decimals.{IsNumber-decimal}
use Rattle.json.proofs.Printed.Tokens.{tokens-print}
use Rattle.json.proofs.Printed.Trees.{ArePrintable-json_tokens}
use Rattle.serde_json.specs.Data.{Data, number, unsigned, negative, float, null, boolean, string, array, object, Items, no_items, item, Members, no_members, member, put, depth, items_depth, members_depth}
use Rattle.serde_json.specs.Read.{max_depth, of_items, of_json, of_members, read}
use Rattle.serde_json.specs.View.{items_of}
use Rattle.serde_json.specs.Written.{comma_if, compact_text, items_text, outline, items_outline, members_outline}
use Rattle.serde_json.proofs.Numbers.{number_of-decimal}
use Rattle.serde_json.proofs.Texts.{print-outline}
use Rattle.spiel_frac.specs.Fraction.{ratio_text}
use Rattle.spiel_tree.specs.States.{InfoState, numbers_of, state_at, states_below}
use Rattle.spiel_tree.specs.Trees.{IsGameTree, Whole}
use Rattle.spiel_policy.specs.Fronts.{IsNext}
use Rattle.spiel_policy.specs.Heads.{json_of}
use Rattle.spiel_policy.specs.Profiles.{Profile, weights_of}
use Rattle.spiel_policy.specs.Writing.{data_tokens, entries_data, entry_data, entry_data_at, file_data, pair_data, pairs_data, pairs_tokens, policy_text, whole_data}
use Rattle.spiel_tree.proofs.GameNumbers.{numbers_small, players_few}
use Rattle.spiel_tree.proofs.StatePlayers.{player_low}
use Rattle.spiel_policy.proofs.FileRead.{all_entries, file_plain, file_shallow}
use Rattle.spiel_policy.proofs.Fronts.{next_read}
use Rattle.spiel_policy.proofs.JsonBytes.{json_of-some}
use Rattle.spiel_policy.proofs.PlainData.{ArePlain, IsPlain, MembersArePlain, read_line}

-- ---- the tokens of pairs
pub pairs_tokens-push : (ds : List Data) (d : Data) → pairs_tokens (ds ++ d ∷ []) ≡ pairs_tokens ds ++ data_tokens d
pairs_tokens-push [] d = append-nil (data_tokens d)
pairs_tokens-push (e ∷ ds) d = ap (λ (l : List Token). data_tokens e ++ l) (pairs_tokens-push ds d) ∙ sym (append_assoc (data_tokens e) (pairs_tokens ds) (data_tokens d))

items_closed : (ds : List Data) (left : List Token) → tree.items_tokens (items_outline (items_of ds)) ++ left ≡ pairs_tokens ds ++ Token.end_array ∷ left
items_closed [] left = refl
items_closed (d ∷ ds) left =
    append_assoc (data_tokens d) (tree.items_tokens (items_outline (items_of ds))) left ∙ ap (λ (l : List Token). data_tokens d ++ l) (items_closed ds left)
    ∙ sym (append_assoc (data_tokens d) (pairs_tokens ds) (Token.end_array ∷ left))

-- those of an entry
pub entry_tokens : (state : InfoState) (numbers weights : List ℕ) (old front pairs new : List Token)
    → front ≡ old ++ Token.begin_object ∷ Token.key (codes "actions") ∷ Token.begin_array ∷ []
    → pairs ≡ front ++ pairs_tokens (pairs_data (sum weights) numbers weights)
    → new ≡ pairs ++ Token.end_array ∷ Token.key (codes "player") ∷ Token.number (decimal state.player) ∷ Token.key (codes "state") ∷ Token.string state.text ∷ Token.end_object ∷ []
    → new ≡ old ++ data_tokens (entry_data state numbers weights)
entry_tokens state numbers weights old front pairs new begun middle close =
    let ds = pairs_data (sum weights) numbers weights in
    let opened : List Token = Token.begin_object ∷ Token.key (codes "actions") ∷ Token.begin_array ∷ [] in
    let rest : List Token = Token.key (codes "player") ∷ Token.number (decimal state.player) ∷ Token.key (codes "state") ∷ Token.string state.text ∷ Token.end_object ∷ [] in
    close ∙ ap (λ (l : List Token). l ++ Token.end_array ∷ rest) (middle ∙ ap (λ (l : List Token). l ++ pairs_tokens ds) begun)
    ∙ append_assoc (old ++ opened) (pairs_tokens ds) (Token.end_array ∷ rest)
    ∙ append_assoc old opened (pairs_tokens ds ++ Token.end_array ∷ rest)
    ∙ ap (λ (l : List Token). old ++ (opened ++ l)) (sym (items_closed ds rest))

-- ---- plain values
-- an outline nests as deep as its value
mutual
  outline_depth : (d : Data) → tree.depth (outline d) ≡ depth d
  outline_depth null = refl
  outline_depth (boolean b) = refl
  outline_depth (number n) = refl
  outline_depth (string s) = refl
  outline_depth (array ds) = ap suc (items_outline_depth ds)
  outline_depth (object ms) = ap suc (members_outline_depth ms)

  items_outline_depth : (ds : Items) → tree.items_depth (items_outline ds) ≡ items_depth ds
  items_outline_depth no_items = refl
  items_outline_depth (item d ds) = ap₂ (λ m n. max m n) (outline_depth d) (items_outline_depth ds)

  members_outline_depth : (ms : Members) → tree.members_depth (members_outline ms) ≡ members_depth ms
  members_outline_depth no_members = refl
  members_outline_depth (member k d ms) = ap₂ (λ m n. max m n) (outline_depth d) (members_outline_depth ms)

-- their numbers are numbers of JSON
mutual
  plain_numbers : (d : Data) → IsPlain d → tree.HasNumbers (outline d)
  plain_numbers null h = absurd h
  plain_numbers (boolean b) h = absurd h
  plain_numbers (number (unsigned n)) h = IsNumber-decimal n h
  plain_numbers (number (negative z)) h = absurd h
  plain_numbers (number (float x)) h = absurd h
  plain_numbers (string s) h = tt
  plain_numbers (array ds) h = items_numbers ds h
  plain_numbers (object ms) h = members_numbers ms h

  items_numbers : (ds : Items) → ArePlain ds → tree.ItemsHaveNumbers (items_outline ds)
  items_numbers no_items h = tt
  items_numbers (item d ds) h = (plain_numbers d h.0, items_numbers ds h.1)

  members_numbers : (ms : Members) → MembersArePlain ms → tree.MembersHaveNumbers (members_outline ms)
  members_numbers no_members h = tt
  members_numbers (member k d ms) h = (plain_numbers d h.0, members_numbers ms h.1)

-- the text of a value has the value's tokens
plain_tokens : (d : Data) → IsPlain d → tokens (compact_text d) ≡ data_tokens d
plain_tokens d plain = ap tokens (sym (print-outline d)) ∙ tokens-print (data_tokens d) (ArePrintable-json_tokens (outline d) (plain_numbers d plain))

text_read : (d : Data) → IsPlain d → depth d ≤ max_depth → of_json (outline d) ≡ Some d → read (compact_text d) ≡ Some d
text_read d plain shallow back =
    let same = outline_depth d in
    let next : IsNext max_depth d (tokens (compact_text d)) [] = record { value = outline d; tokens_are = plain_tokens d plain ∙ sym (append-nil (data_tokens d)); reads = back; shallow = omega (arith, same, shallow) } in
    next_read max_depth d (compact_text d) next (omega arith)

-- ---- a file's outline is read as its value
items_back : (ds : List Data) → All (λ d. of_json (outline d) ≡ Some d) ds → of_items (items_outline (items_of ds)) ≡ Some (items_of ds)
items_back [] all = refl
items_back (d ∷ ds) all =
    ap (λ o. option_and_then (λ e. option_map (item e) (of_items (items_outline (items_of ds)))) o) (All-head (λ d. of_json (outline d) ≡ Some d) d ds all)
    ∙ ap (option_map (item d)) (items_back ds (All-tail (λ d. of_json (outline d) ≡ Some d) d ds all))

pair_back : (total n weight : ℕ) → n < 2 ^ 64 → of_json (outline (pair_data total n weight)) ≡ Some (pair_data total n weight)
pair_back total n weight low =
    ap (λ o. option_map array (option_and_then (λ d. option_map (item d) (Some (item (string (ratio_text weight total)) no_items))) (option_map number o))) (number_of-decimal n low)

pairs_back : (total : ℕ) (numbers weights : List ℕ) → All (λ n. n < 2 ^ 32) numbers → All (λ d. of_json (outline d) ≡ Some d) (pairs_data total numbers weights)
pairs_back total [] weights small = All-nil (λ d. of_json (outline d) ≡ Some d)
pairs_back total (n ∷ numbers) [] small = All-nil (λ d. of_json (outline d) ≡ Some d)
pairs_back total (n ∷ numbers) (w ∷ weights) small =
    let less = All-head (λ n. n < 2 ^ 32) n numbers small in
    All-cons (λ d. of_json (outline d) ≡ Some d) (pair_data total n w) (pairs_data total numbers weights) (pair_back total n w (omega (arith, less)))
    (pairs_back total numbers weights (All-tail (λ n. n < 2 ^ 32) n numbers small))

entry_back : (state : InfoState) (numbers weights : List ℕ) → state.player < 2 ^ 64 → All (λ n. n < 2 ^ 32) numbers → of_json (outline (entry_data state numbers weights)) ≡ Some (entry_data state numbers weights)
entry_back state numbers weights low small =
    let ds = pairs_data (sum weights) numbers weights in
    ap (λ o. option_map object (option_and_then (λ d. of_members (json.member (codes "player") (json.number (decimal state.player)) (json.member (codes "state") (json.string state.text) json.no_members)) (put (codes "actions") d no_members)) (option_map array o)))
    (items_back ds (pairs_back (sum weights) numbers weights small))
    ∙ ap (λ o. option_map object (option_and_then (λ d. of_members (json.member (codes "state") (json.string state.text) json.no_members) (put (codes "player") d (member (codes "actions") (array (items_of ds)) no_members))) (option_map number o)))
    (number_of-decimal state.player low)

file_back : (whole : Whole) (profile : Profile) → IsGameTree whole → of_json (outline (file_data whole profile)) ≡ Some (file_data whole profile)
file_back whole profile game =
    let count = length (states_below whole.players whole.rows) in
    let ds = entries_data whole profile in
    let one : 1 < 2 ^ 64 = omega arith in
    let all = all_entries (λ d. of_json (outline d) ≡ Some d) (entry_data_at whole profile) 0 count count
    (λ t l. let low : (state_at whole.players whole.rows t).player < 2 ^ 64 = omega (arith, player_low whole.players whole.rows t l, players_few whole game) in
    entry_back (state_at whole.players whole.rows t) (numbers_of whole.players whole.rows t) (weights_of profile t) low (numbers_small whole game t l)) (omega arith) in
    ap (λ o. option_map object (option_and_then (λ d. of_members (json.member (codes "states") (json.array (items_outline (items_of ds))) json.no_members) (put (codes "policy") d no_members)) (option_map number o))) (number_of-decimal 1 one)
    ∙ ap (λ o. option_map object (option_and_then (λ d. of_members json.no_members (put (codes "states") d (member (codes "policy") (whole_data 1) no_members))) (option_map array o))) (items_back ds all)

pub file_text_read : (whole : Whole) (profile : Profile) → IsGameTree whole → IsUtf8 (policy_text whole profile) → json_of (policy_text whole profile) ≡ Some (file_data whole profile)
unfolding policy_text
file_text_read whole profile game utf8 =
    let d = file_data whole profile in
    let plain = file_plain whole profile game in
    json_of-some (compact_text d ++ 10 ∷ []) d utf8 (read_line d plain ∙ text_read d plain (file_shallow whole profile) (file_back whole profile game))

-- what was written of an entry, from its parts
pub entry_tokens_if : {E : Type 0} (r : Result (Unit {0}) E) (state : InfoState) (numbers weights : List ℕ) (player : ℕ) (text : List ℕ) (old front pairs new : List Token) → player ≡ state.player → text ≡ state.text
    → front ≡ old ++ Token.begin_object ∷ Token.key (codes "actions") ∷ Token.begin_array ∷ []
    → pairs ≡ front ++ pairs_tokens (pairs_data (sum weights) numbers weights)
    → OnOk r (new ≡ pairs ++ Token.end_array ∷ Token.key (codes "player") ∷ Token.number (decimal player) ∷ Token.key (codes "state") ∷ Token.string text ∷ Token.end_object ∷ [])
    → OnOk r (new ≡ old ++ data_tokens (entry_data state numbers weights))
entry_tokens_if (Err e) state numbers weights player text old front pairs new same seen begun middle close = tt
entry_tokens_if (Ok done) state numbers weights player text old front pairs new same seen begun middle close =
    entry_tokens state numbers weights old front pairs new begun middle
    (close ∙ ap₂ (λ (p : ℕ) (t : List ℕ). pairs ++ Token.end_array ∷ Token.key (codes "player") ∷ Token.number (decimal p) ∷ Token.key (codes "state") ∷ Token.string t ∷ Token.end_object ∷ []) same seen)

-- ---- the text, entry by entry
pub entries_step : (f : ℕ → Data) (s count : ℕ) (out new total : List ℕ) → s < count → new ≡ (out ++ comma_if (nat_lt 0 s)) ++ compact_text (f s)
    → out ++ items_text (nat_lt 0 s) (items_of (map f (range_with_len s (count - s)))) ≡ total → new ++ items_text (nat_lt 0 (s + 1)) (items_of (map f (range_with_len (s + 1) (count - (s + 1))))) ≡ total
entries_step f s count out new total l e is =
    let left = count - (s + 1) in
    let more : count - s ≡ suc left = omega (arith, l) in
    let later : nat_lt 0 (s + 1) ≡ true = lt-ltb 0 (s + 1) (omega arith) in
    let rest = items_text true (items_of (map f (range_with_len (s + 1) left))) in
    ap₂ (λ (bytes : List ℕ) (b : Bool). bytes ++ items_text b (items_of (map f (range_with_len (s + 1) left)))) e later
    ∙ append_assoc (out ++ comma_if (nat_lt 0 s)) (compact_text (f s)) rest
    ∙ append_assoc out (comma_if (nat_lt 0 s)) (compact_text (f s) ++ rest)
    ∙ ap (λ (n : ℕ). out ++ items_text (nat_lt 0 s) (items_of (map f (range_with_len s n)))) (sym more)
    ∙ is

pub entries_end : (f : ℕ → Data) (s count : ℕ) (out total : List ℕ) → count ≡ s → out ++ items_text (nat_lt 0 s) (items_of (map f (range_with_len s (count - s)))) ≡ total → out ++ 93 ∷ [] ≡ total
entries_end f s count out total e is =
    let none : count - s ≡ 0 = omega (arith, e) in
    ap (λ (n : ℕ). out ++ items_text (nat_lt 0 s) (items_of (map f (range_with_len s n)))) (sym none) ∙ is

-- `{"policy":1,"states":[`
abbrev pub file_head : List ℕ
file_head = codes "{\"policy\":1,\"states\":["

file_parts : (ds : Items) → compact_text (object (member (codes "policy") (whole_data 1) (member (codes "states") (array ds) no_members))) ≡ file_head ++ (items_text false ds ++ 125 ∷ [])
unfolding escape_byte digits
file_parts ds = refl

pub whole_text : (whole : Whole) (profile : Profile) (first second third : List ℕ) → first ≡ file_head → second ++ 93 ∷ [] ≡ first ++ items_text false (items_of (entries_data whole profile)) → third ≡ second ++ 93 ∷ 125 ∷ 10 ∷ []
    → third ≡ policy_text whole profile
unfolding policy_text
whole_text whole profile first second third head entries end =
    let ds = items_of (entries_data whole profile) in
    end ∙ sym (append_assoc second (93 ∷ []) (125 ∷ 10 ∷ [])) ∙ ap (λ (l : List ℕ). l ++ 125 ∷ 10 ∷ []) (entries ∙ ap (λ (l : List ℕ). l ++ items_text false ds) head)
    ∙ append_assoc file_head (items_text false ds) (125 ∷ 10 ∷ [])
    ∙ ap (λ (l : List ℕ). file_head ++ l) (sym (append_assoc (items_text false ds) (125 ∷ []) (10 ∷ [])))
    ∙ sym (append_assoc file_head (items_text false ds ++ 125 ∷ []) (10 ∷ []))
    ∙ ap (λ (l : List ℕ). l ++ 10 ∷ []) (sym (file_parts ds))

pub pushed_utf8 : {E : Type 0} (r : Result (Unit {0}) E) (old bytes new : List ℕ) → IsUtf8 old → IsUtf8 bytes → OnOk r (new ≡ old ++ bytes) → OnOk r (IsUtf8 new)
pushed_utf8 (Err e) old bytes new before more is = tt
pushed_utf8 (Ok done) old bytes new before more is = subst IsUtf8 (sym is) (IsUtf8-append old bytes before more)
