-- What quoted texts say, and their tokens.
use Rattle.std.proofs.Common.{◌≡◌, ◌<◌, ◌≤◌, ◌+◌, ◌-◌, ℕ, Bool, true, false, List, [], ◌∷◌, ◌++◌, length, take, drop, take-append-drop, get_or, refl, sym, ◌∙◌, ap, subst, append_assoc, length-append, arith, Result, Ok, Err}
use Rattle.std.specs.Prelude.{◌==◌, ◌&&◌, ◌||◌, not, if◌then◌else◌, slice_range}
use Rattle.std.specs.Result.{IsErr}
use Rattle.std.proofs.lemmas.List.{append-nil, drop_more, drop_all, drop_at, take_at}
use Rattle.std.proofs.lemmas.List.Concat.{flat_map-append}
use Rattle.spiel_frac.specs.Adding.{Adds, AddsPart}
use Rattle.spiel_frac.specs.declared.memory.NoMemory.{NoMemory}
use Rattle.spiel_string.specs.Quoting.{Unescapes, backslash_kept, escaped, escaped_byte, is_escaped, quoted, said_by, unescaped, unescaped_behind, unescaped_in}
use Rattle.spiel_string.specs.Tokens.{first, kind, text_from, tokens_from}
use Rattle.spiel_string.specs.declared.token.Token.TheVariants.{Quote}
use Rattle.spiel_string.specs.declared.token.Kind.TheVariants.{QuoteMark}
use Rattle.spiel_string.proofs.TokenSteps.{quote_first, text_closed, text_escapes, text_goes_on, behind_first}

-- ---- one byte more

pub plain_said : (backslash : Bool) (byte : ℕ) (bytes : List ℕ) → (byte == 92) ≡ backslash → unescaped (byte ∷ bytes) ≡ (if backslash then [] else byte ∷ []) ++ unescaped_in backslash bytes
unfolding unescaped
plain_said true byte bytes e = rw (e, unescaped) refl
plain_said false byte bytes e = rw (e, unescaped) refl

unescaped_more : (behind : Bool) (byte : ℕ) (bytes : List ℕ) → unescaped_in behind (byte ∷ bytes) ≡ said_by behind byte ++ unescaped_in (not behind && (byte == 92)) bytes
unfolding unescaped_behind
unescaped_more true byte bytes = sym (append_assoc (backslash_kept byte) (byte ∷ []) (unescaped bytes))
unescaped_more false byte bytes = plain_said (byte == 92) byte bytes refl

unescaped_end : (behind : Bool) → unescaped_in behind [] ≡ (if behind then 92 ∷ [] else [])
unfolding unescaped unescaped_behind
unescaped_end true = refl
unescaped_end false = refl

-- ---- texts that are added piece by piece

part_behind : (old mid new before piece : List ℕ) → mid ≡ old ++ before → AddsPart mid new piece → AddsPart old new (before ++ piece)
part_behind old mid new before piece e p = record {
  part = before ++ p.part;
  rest = p.rest;
  whole = ap (λ (xs : List ℕ). before ++ xs) p.whole ∙ sym (append_assoc before p.part p.rest);
  added = p.added ∙ ap (λ (xs : List ℕ). xs ++ p.part) e ∙ append_assoc old before p.part;
}

part_front : (old new text more : List ℕ) → AddsPart old new text → AddsPart old new (text ++ more)
part_front old new text more p = record {
  part = p.part;
  rest = p.rest ++ more;
  whole = ap (λ (xs : List ℕ). xs ++ more) p.whole ∙ append_assoc p.part p.rest more;
  added = p.added;
}

pub adds_last : (r : Result (Unit {0}) NoMemory) (old mid new before piece : List ℕ) → mid ≡ old ++ before → Adds r mid new piece → Adds r old new (before ++ piece)
adds_last (Ok done) old mid new before piece e adds = adds ∙ ap (λ (xs : List ℕ). xs ++ piece) e ∙ append_assoc old before piece
adds_last (Err error) old mid new before piece e p = part_behind old mid new before piece e p

pub adds_failed : (r : Result (Unit {0}) NoMemory) (old new text : List ℕ) → IsErr r → AddsPart old new text → Adds r old new text
adds_failed (Ok done) old new text e part = cc
adds_failed (Err error) old new text e part = part

-- a piece failed behind what was added before, and more would have followed
pub adds_stopped : (r : Result (Unit {0}) NoMemory) (old mid new before piece more text : List ℕ) → IsErr r → mid ≡ old ++ before → AddsPart mid new piece → text ≡ before ++ (piece ++ more) → Adds r old new text
adds_stopped r old mid new before piece more text failed e p whole =
    adds_failed r old new text failed (subst (AddsPart old new) (append_assoc before piece more ∙ sym whole) (part_front old new (before ++ piece) more (part_behind old mid new before piece e p)))

-- ---- unescape

pub unescapes_start : (bytes old : List ℕ) → Unescapes bytes 0 false old old
unescapes_start bytes old = record { said = []; added = sym (append-nil old); whole = refl }

whole_more : (bytes : List ℕ) (at : ℕ) (behind : Bool) (said : List ℕ) → at < length bytes → unescaped bytes ≡ said ++ unescaped_in behind (drop at bytes)
    → unescaped bytes ≡ said ++ (said_by behind (get_or bytes at 0) ++ unescaped_in (not behind && (get_or bytes at 0 == 92)) (drop (at + 1) bytes))
whole_more bytes at behind said lt h = h ∙ ap (λ (xs : List ℕ). said ++ unescaped_in behind xs) (drop_more bytes at 0 lt) ∙ ap (λ (xs : List ℕ). said ++ xs) (unescaped_more behind (get_or bytes at 0) (drop (at + 1) bytes))

pub unescapes_more : (bytes : List ℕ) (at : ℕ) (behind : Bool) (old mid new : List ℕ) → at < length bytes → Unescapes bytes at behind old mid → new ≡ mid ++ said_by behind (get_or bytes at 0)
    → Unescapes bytes (at + 1) (not behind && (get_or bytes at 0 == 92)) old new
unescapes_more bytes at behind old mid new lt u e = record {
  said = u.said ++ said_by behind (get_or bytes at 0);
  added = e ∙ ap (λ (xs : List ℕ). xs ++ said_by behind (get_or bytes at 0)) u.added ∙ append_assoc old u.said (said_by behind (get_or bytes at 0));
  whole = whole_more bytes at behind u.said lt u.whole ∙ sym (append_assoc u.said (said_by behind (get_or bytes at 0)) (unescaped_in (not behind && (get_or bytes at 0 == 92)) (drop (at + 1) bytes)));
}

pub unescapes_stopped : (r : Result (Unit {0}) NoMemory) (bytes : List ℕ) (at : ℕ) (behind : Bool) (old mid new : List ℕ) → at < length bytes → Unescapes bytes at behind old mid → IsErr r → AddsPart mid new (said_by behind (get_or bytes at 0))
    → Adds r old new (unescaped bytes)
unescapes_stopped r bytes at behind old mid new lt u failed p =
    adds_stopped r old mid new u.said (said_by behind (get_or bytes at 0)) (unescaped_in (not behind && (get_or bytes at 0 == 92)) (drop (at + 1) bytes)) (unescaped bytes) failed u.added p (whole_more bytes at behind u.said lt u.whole)

pub unescapes_done : (r : Result (Unit {0}) NoMemory) (bytes : List ℕ) (at : ℕ) (behind : Bool) (old mid new : List ℕ) → length bytes ≤ at → Unescapes bytes at behind old mid → Adds r mid new (if behind then 92 ∷ [] else [])
    → Adds r old new (unescaped bytes)
unescapes_done r bytes at behind old mid new le u adds =
    subst (Adds r old new) (sym (u.whole ∙ ap (λ (xs : List ℕ). u.said ++ unescaped_in behind xs) (drop_all at bytes le) ∙ ap (λ (xs : List ℕ). u.said ++ xs) (unescaped_end behind))) (adds_last r old mid new u.said _ u.added adds)

-- ---- escape

-- the bytes so far, the next one, and the others
escaped_split : (text : List ℕ) (at : ℕ) → at < length text → escaped text ≡ escaped (take at text) ++ (escaped_byte (get_or text at 0) ++ escaped (drop (at + 1) text))
escaped_split text at lt =
    ap escaped (sym (take-append-drop at text)) ∙ flat_map-append escaped_byte (take at text) (drop at text) ∙ ap (λ (xs : List ℕ). escaped (take at text) ++ escaped xs) (drop_more text at 0 lt)

pub escaped_stopped : (r : Result (Unit {0}) NoMemory) (text : List ℕ) (at : ℕ) (old mid new : List ℕ) → at < length text → mid ≡ old ++ escaped (take at text) → IsErr r → AddsPart mid new (escaped_byte (get_or text at 0)) → Adds r old new (escaped text)
escaped_stopped r text at old mid new lt e failed p = adds_stopped r old mid new (escaped (take at text)) (escaped_byte (get_or text at 0)) (escaped (drop (at + 1) text)) (escaped text) failed e p (escaped_split text at lt)

-- ---- both

escaped_first : (byte : ℕ) (text : List ℕ) → is_escaped byte ≡ true → escaped (byte ∷ text) ≡ 92 ∷ byte ∷ escaped text
escaped_first byte text e = rw e refl

plain_first : (byte : ℕ) (text : List ℕ) → is_escaped byte ≡ false → escaped (byte ∷ text) ≡ byte ∷ escaped text
plain_first byte text e = rw e refl

kept_none : (byte : ℕ) → is_escaped byte ≡ true → backslash_kept byte ≡ []
kept_none byte e = rw e refl

pub not_either : (a b : Bool) → (a || b) ≡ false → (a ≡ false) × (b ≡ false)
not_either true b e = (e, cc)
not_either false b e = (refl, e)

back_by : (both : Bool) (byte : ℕ) (text : List ℕ) → is_escaped byte ≡ both → unescaped (escaped text) ≡ text → unescaped (escaped (byte ∷ text)) ≡ byte ∷ text
unfolding unescaped unescaped_behind
back_by true byte text e h = ap unescaped (escaped_first byte text e) ∙ ap (λ (xs : List ℕ). xs ++ byte ∷ unescaped (escaped text)) (kept_none byte e) ∙ ap (λ (xs : List ℕ). byte ∷ xs) h
back_by false byte text e h = ap unescaped (plain_first byte text e) ∙ plain_said false byte (escaped text) (not_either (byte == 34) (byte == 92) e).1 ∙ ap (λ (xs : List ℕ). byte ∷ xs) h

pub says_text : (text : List ℕ) → unescaped (escaped text) ≡ text
unfolding unescaped
says_text [] = refl
says_text (byte ∷ text) = back_by (is_escaped byte) byte text refl (says_text text)

-- the rest of a text and its closing quote
abbrev Closes : ℕ → ℕ → List ℕ → List ℕ → Type 0
Closes opened at inner rest = text_from opened at (inner ++ 34 ∷ rest) ≡ first (Quote (opened + 1) (at + length inner)) (tokens_from (at + length inner + 1) rest)

closes_later : (opened at from : ℕ) (inner longer rest : List ℕ) → from + length inner ≡ at + length longer → text_from opened at (longer ++ 34 ∷ rest) ≡ text_from opened from (inner ++ 34 ∷ rest) → Closes opened from inner rest → Closes opened at longer rest
closes_later opened at from inner longer rest e h c = h ∙ c ∙ ap (λ (n : ℕ). first (Quote (opened + 1) n) (tokens_from (n + 1) rest)) e

closes_by : (both : Bool) (byte : ℕ) (text rest : List ℕ) (opened at : ℕ) → is_escaped byte ≡ both → ((from : ℕ) → Closes opened from (escaped text) rest) → Closes opened at (escaped (byte ∷ text)) rest
closes_by true byte text rest opened at e h =
    subst (λ (xs : List ℕ). Closes opened at xs rest) (sym (escaped_first byte text e))
    (closes_later opened at (at + 1 + 1) (escaped text) (92 ∷ byte ∷ escaped text) rest (omega arith)
    (text_escapes opened at 92 (byte ∷ (escaped text ++ 34 ∷ rest)) refl refl ∙ behind_first opened (at + 1) byte (escaped text ++ 34 ∷ rest)) (h (at + 1 + 1)))
closes_by false byte text rest opened at e h =
    let parts = not_either (byte == 34) (byte == 92) e in
    subst (λ (xs : List ℕ). Closes opened at xs rest) (sym (plain_first byte text e))
    (closes_later opened at (at + 1) (escaped text) (byte ∷ escaped text) rest (omega arith) (text_goes_on opened at byte (escaped text ++ 34 ∷ rest) parts.0 parts.1) (h (at + 1)))

closes : (text rest : List ℕ) (opened at : ℕ) → Closes opened at (escaped text) rest
closes [] rest opened at = text_closed opened at 34 rest refl ∙ ap (λ (n : ℕ). first (Quote (opened + 1) n) (tokens_from (n + 1) rest)) (omega arith)
closes (byte ∷ text) rest opened at = closes_by (is_escaped byte) byte text rest opened at refl (λ from. closes text rest opened from)

pub quote_kind : kind 34 ≡ QuoteMark
unfolding kind
quote_kind = refl

pub quoted_token : (text : List ℕ) (at : ℕ) (rest : List ℕ) → tokens_from at (quoted text ++ rest) ≡ first (Quote (at + 1) (at + 1 + length (escaped text))) (tokens_from (at + length (quoted text)) rest)
quoted_token text at rest =
    let end : at + 1 + length (escaped text) + 1 ≡ at + length (quoted text) = omega (arith, length-append (escaped text) (34 ∷ [])) in
    quote_first at 34 ((escaped text ++ 34 ∷ []) ++ rest) quote_kind ∙ ap (text_from at (at + 1)) (append_assoc (escaped text) (34 ∷ []) rest) ∙ closes text rest at (at + 1)
    ∙ ap (λ (n : ℕ). first (Quote (at + 1) (at + 1 + length (escaped text))) (tokens_from n rest)) end

-- ---- the texts of tokens

cut_out : (before inner rest : List ℕ) (from to : ℕ) → length before ≡ from → from + length inner ≡ to → slice_range (before ++ (inner ++ rest)) from to ≡ inner
cut_out before inner rest from to e f =
    let size : length inner ≡ to - from = omega arith in
    ap (take (to - from)) (drop_at before (inner ++ rest) from e) ∙ take_at inner rest (to - from) size

pub word_text : (before word rest : List ℕ) → slice_range (before ++ (word ++ rest)) (length before) (length before + length word) ≡ word
word_text before word rest = cut_out before word rest (length before) (length before + length word) refl refl

quotes_apart : (before inner rest : List ℕ) → before ++ (34 ∷ (inner ++ 34 ∷ []) ++ rest) ≡ (before ++ 34 ∷ []) ++ (inner ++ 34 ∷ rest)
quotes_apart before inner rest = ap (λ (xs : List ℕ). before ++ 34 ∷ xs) (append_assoc inner (34 ∷ []) rest) ∙ sym (append_assoc before (34 ∷ []) (inner ++ 34 ∷ rest))

pub quoted_text : (before text rest : List ℕ) → unescaped (slice_range (before ++ (quoted text ++ rest)) (length before + 1) (length before + 1 + length (escaped text))) ≡ text
quoted_text before text rest =
    let from = length before + 1 in
    let to = length before + 1 + length (escaped text) in
    let start : length (before ++ 34 ∷ []) ≡ from = length-append before (34 ∷ []) in
    ap (λ (xs : List ℕ). unescaped (slice_range xs from to)) (quotes_apart before (escaped text) rest)
    ∙ ap unescaped (cut_out (before ++ 34 ∷ []) (escaped text) (34 ∷ rest) from to start refl) ∙ says_text text
