-- JSON values without signs, points and exponents: their texts, and a line feed behind one.
use Rattle.std.proofs.Common.{◌≡◌, ℕ, ◌<◌, ◌≤◌, ◌^◌, Bool, true, false, List, [], ◌∷◌, ◌++◌, refl, sym, ap, ap₂, ◌∙◌, arith, append_assoc, append-nil}
use Rattle.std.specs.Prelude.{⊤, All, decimal, option_and_then}
use Rattle.std.proofs.lemmas.List.Elements.{All-head, All-tail}
use Rattle.json.specs.Lex.{Lexeme, token, comma, colon, string_token, lex, between, punctuate, fresh}
use Rattle.json.specs.Print.{escape, quoted}
use Rattle.json.specs.Token.{Token}
use Rattle.json.specs.Word.{ends_word}
use Rattle.json.specs.Json as json
use Rattle.json.proofs.Printed.Decimals.{IsNumber-decimal}
use Rattle.json.proofs.Printed.Numbers.{lex-number}
use Rattle.json.proofs.Printed.Strings.{content-escape, lex-escape}
use Rattle.serde_json.specs.Data.{Num, unsigned, negative, float, Data, null, boolean, number, string, array, object, Items, no_items, item, Members, no_members, member, depth, items_depth}
use Rattle.serde_json.specs.Read.{max_depth, of_json, read}
use Rattle.serde_json.specs.View.{items_of}
use Rattle.serde_json.specs.Written.{compact_text, items_text, members_text}

abbrev IsPlainNumber : Num → Type 0
IsPlainNumber (unsigned n) = n < 2 ^ 64
IsPlainNumber (negative z) = ⊥
IsPlainNumber (float x) = ⊥

abbrev mutual
  pub IsPlain : Data → Type 0
  IsPlain null = ⊥
  IsPlain (boolean b) = ⊥
  IsPlain (number n) = IsPlainNumber n
  IsPlain (string s) = ⊤
  IsPlain (array ds) = ArePlain ds
  IsPlain (object ms) = MembersArePlain ms

  pub ArePlain : Items → Type 0
  ArePlain no_items = ⊤
  ArePlain (item d ds) = IsPlain d × ArePlain ds

  pub MembersArePlain : Members → Type 0
  MembersArePlain no_members = ⊤
  MembersArePlain (member k d ms) = IsPlain d × MembersArePlain ms

-- ---- lists of values
pub plain_items : (ds : List Data) → All IsPlain ds → ArePlain (items_of ds)
plain_items [] all = tt
plain_items (d ∷ ds) all = (All-head IsPlain d ds all, plain_items ds (All-tail IsPlain d ds all))

pub depth_of_items : (n : ℕ) (ds : List Data) → All (λ d. depth d ≤ n) ds → items_depth (items_of ds) ≤ n
depth_of_items n [] all = omega arith
depth_of_items n (d ∷ ds) all =
    let here = All-head (λ d. depth d ≤ n) d ds all in
    let rest = depth_of_items n ds (All-tail (λ d. depth d ≤ n) d ds all) in
    omega (arith, here, rest)

-- ---- what stands behind a value doesn't change how it is read
lex-quoted : (s r : List ℕ) → lex between (quoted s ++ r) ≡ token (Token.string s) ∷ lex between r
unfolding lex
lex-quoted s r =
    let e = append_assoc (escape s) (34 ∷ []) r in
    ap (λ (l : List ℕ). lex between (34 ∷ l)) e ∙ ap₂ (λ o (l : List Lexeme). token (string_token o) ∷ l) (content-escape s r) (lex-escape s r)

items_end : (ds : Items) (r : List ℕ) → ends_word (items_text true ds ++ r) ≡ true
items_end no_items r = refl
items_end (item d ds) r = refl

members_end : (ms : Members) (r : List ℕ) → ends_word (members_text true ms ++ r) ≡ true
members_end no_members r = refl
members_end (member k d ms) r = refl

behind_member : (k d ms r : List ℕ) → (quoted k ++ 58 ∷ (d ++ ms)) ++ r ≡ quoted k ++ 58 ∷ (d ++ (ms ++ r))
behind_member k d ms r = append_assoc (quoted k) (58 ∷ (d ++ ms)) r ∙ ap (λ (l : List ℕ). quoted k ++ 58 ∷ l) (append_assoc d ms r)

lex-key : (k d ms r : List ℕ) → lex between ((quoted k ++ 58 ∷ (d ++ ms)) ++ r) ≡ token (Token.string k) ∷ colon ∷ lex between (d ++ (ms ++ r))
unfolding lex
lex-key k d ms r = ap (lex between) (behind_member k d ms r) ∙ lex-quoted k (58 ∷ (d ++ (ms ++ r)))

mutual
  unfolding lex

  same_value : (d : Data) (r s : List ℕ) → IsPlain d → ends_word r ≡ true → ends_word s ≡ true → lex between r ≡ lex between s → lex between (compact_text d ++ r) ≡ lex between (compact_text d ++ s)
  same_value null r s h e f same = absurd h
  same_value (boolean b) r s h e f same = absurd h
  same_value (number (unsigned n)) r s h e f same =
      lex-number (decimal n) r (IsNumber-decimal n h) e ∙ ap (λ (l : List Lexeme). token (Token.number (decimal n)) ∷ l) same ∙ sym (lex-number (decimal n) s (IsNumber-decimal n h) f)
  same_value (number (negative z)) r s h e f same = absurd h
  same_value (number (float x)) r s h e f same = absurd h
  same_value (string t) r s h e f same = lex-quoted t r ∙ ap (λ (l : List Lexeme). token (Token.string t) ∷ l) same ∙ sym (lex-quoted t s)
  same_value (array ds) r s h e f same = ap (λ (l : List Lexeme). token Token.begin_array ∷ l) (same_items false ds r s h same)
  same_value (object ms) r s h e f same = ap (λ (l : List Lexeme). token Token.begin_object ∷ l) (same_members false ms r s h same)

  same_items : (later : Bool) (ds : Items) (r s : List ℕ) → ArePlain ds → lex between r ≡ lex between s → lex between (items_text later ds ++ r) ≡ lex between (items_text later ds ++ s)
  same_items later no_items r s h same = ap (λ (l : List Lexeme). token Token.end_array ∷ l) same
  same_items true (item d ds) r s h same =
      ap (λ (l : List Lexeme). comma ∷ l)
      (ap (lex between) (append_assoc (compact_text d) (items_text true ds) r)
      ∙ same_value d (items_text true ds ++ r) (items_text true ds ++ s) h.0 (items_end ds r) (items_end ds s) (same_items true ds r s h.1 same)
      ∙ sym (ap (lex between) (append_assoc (compact_text d) (items_text true ds) s)))
  same_items false (item d ds) r s h same =
      ap (lex between) (append_assoc (compact_text d) (items_text true ds) r)
      ∙ same_value d (items_text true ds ++ r) (items_text true ds ++ s) h.0 (items_end ds r) (items_end ds s) (same_items true ds r s h.1 same)
      ∙ sym (ap (lex between) (append_assoc (compact_text d) (items_text true ds) s))

  same_members : (later : Bool) (ms : Members) (r s : List ℕ) → MembersArePlain ms → lex between r ≡ lex between s → lex between (members_text later ms ++ r) ≡ lex between (members_text later ms ++ s)
  same_members later no_members r s h same = ap (λ (l : List Lexeme). token Token.end_object ∷ l) same
  same_members true (member k d ms) r s h same =
      ap (λ (l : List Lexeme). comma ∷ l)
      (lex-key k (compact_text d) (members_text true ms) r
      ∙ ap (λ (l : List Lexeme). token (Token.string k) ∷ colon ∷ l) (same_value d (members_text true ms ++ r) (members_text true ms ++ s) h.0 (members_end ms r) (members_end ms s) (same_members true ms r s h.1 same))
      ∙ sym (lex-key k (compact_text d) (members_text true ms) s))
  same_members false (member k d ms) r s h same =
      lex-key k (compact_text d) (members_text true ms) r
      ∙ ap (λ (l : List Lexeme). token (Token.string k) ∷ colon ∷ l) (same_value d (members_text true ms ++ r) (members_text true ms ++ s) h.0 (members_end ms r) (members_end ms s) (same_members true ms r s h.1 same))
      ∙ sym (lex-key k (compact_text d) (members_text true ms) s)

-- a line feed at the end
line_feed : lex between (10 ∷ []) ≡ lex between []
unfolding lex
line_feed = refl

pub read_line : (d : Data) → IsPlain d → read (compact_text d ++ 10 ∷ []) ≡ read (compact_text d)
read_line d plain =
    ap (λ (ts : List Lexeme). option_and_then of_json (option_and_then (λ p. json.if_last p.0 p.1) (json.value max_depth (punctuate fresh ts))))
    (same_value d (10 ∷ []) [] plain refl refl line_feed ∙ ap (lex between) (append-nil (compact_text d)))
