-- The tokens of bytes, one byte or one token more.
use Rattle.std.proofs.Common.{◌≡◌, ◌<◌, ◌≤◌, ◌+◌, ◌-◌, ℕ, Bool, true, false, List, [], ◌∷◌, ◌++◌, length, drop, get_or, refl, sym, ◌∙◌, ap, subst, inl, inr, append_assoc, arith, Option, None, Result, Ok, Err}
use Rattle.std.specs.Prelude.{◌==◌, ◌&&◌, not, if◌then◌else◌, IfOk, IfErr, slice_range}
use Rattle.std.specs.List.{list_all}
use Rattle.std.specs.Result.{IsErrAnd}
use Rattle.std.specs.Str.{bytes_eq}
use Rattle.std.proofs.lemmas.Bool.{and_parts, cases_lt}
use Rattle.std.proofs.lemmas.List.{drop_more, drop_all, append-nil}
use Rattle.spiel_string.specs.Tokens.{Found, IsTokenFault, all_or_fault, begins_word, behind_backslash, cut, earlier, file_tokens, first, first_is, from_earlier, is_of_word, is_space, is_token_word, is_word_byte, kind, nothing, text_from, tokens_from, word_before}
use Rattle.spiel_string.specs.Cutting.{IsFaultOf, Steps, after, begins_space, inside, is_of_space}
use Rattle.spiel_string.specs.declared.token.Token.{Token}
use Rattle.spiel_string.specs.declared.token.Token.TheVariants.{Word, Quote, Left, Right, Comma}
use Rattle.spiel_string.specs.declared.token.TokenFault.{TokenFault}
use Rattle.spiel_string.specs.declared.token.TokenFault.TheVariants.{Unclosed, NoMemory}
use Rattle.spiel_string.specs.declared.token.Kind.{Kind}
use Rattle.spiel_string.specs.declared.token.Kind.TheVariants.{Space, LeftBrace, RightBrace, CommaByte, QuoteMark, WordByte}

-- ---- outside of texts, by what the byte is for

pub space_first : (at byte : ℕ) (bytes : List ℕ) → kind byte ≡ Space → tokens_from at (byte ∷ bytes) ≡ tokens_from (at + 1) bytes
unfolding tokens_from
space_first at byte bytes e = rw (e, tokens_from) refl

pub left_first : (at byte : ℕ) (bytes : List ℕ) → kind byte ≡ LeftBrace → tokens_from at (byte ∷ bytes) ≡ first Left (tokens_from (at + 1) bytes)
unfolding tokens_from
left_first at byte bytes e = rw (e, tokens_from) refl

pub right_first : (at byte : ℕ) (bytes : List ℕ) → kind byte ≡ RightBrace → tokens_from at (byte ∷ bytes) ≡ first Right (tokens_from (at + 1) bytes)
unfolding tokens_from
right_first at byte bytes e = rw (e, tokens_from) refl

pub comma_first : (at byte : ℕ) (bytes : List ℕ) → kind byte ≡ CommaByte → tokens_from at (byte ∷ bytes) ≡ first Comma (tokens_from (at + 1) bytes)
unfolding tokens_from
comma_first at byte bytes e = rw (e, tokens_from) refl

pub quote_first : (at byte : ℕ) (bytes : List ℕ) → kind byte ≡ QuoteMark → tokens_from at (byte ∷ bytes) ≡ text_from at (at + 1) bytes
unfolding tokens_from
quote_first at byte bytes e = rw (e, tokens_from) refl

pub word_first : (at byte : ℕ) (bytes : List ℕ) → kind byte ≡ WordByte → tokens_from at (byte ∷ bytes) ≡ word_before at (at + 1) bytes (tokens_from (at + 1) bytes)
unfolding tokens_from
word_first at byte bytes e = rw (e, tokens_from) refl

pub space_kind : (byte : ℕ) → is_space byte ≡ true → kind byte ≡ Space
unfolding kind
space_kind byte e = rw e refl

pub left_kind : kind 123 ≡ LeftBrace
unfolding kind
left_kind = refl

pub right_kind : kind 125 ≡ RightBrace
unfolding kind
right_kind = refl

pub comma_kind : kind 44 ≡ CommaByte
unfolding kind
comma_kind = refl

pub no_tokens : (at : ℕ) → tokens_from at [] ≡ nothing
unfolding tokens_from
no_tokens at = refl

-- ---- inside of a text

pub text_closed : (opened at byte : ℕ) (bytes : List ℕ) → (byte == 34) ≡ true → text_from opened at (byte ∷ bytes) ≡ first (Quote (opened + 1) at) (tokens_from (at + 1) bytes)
unfolding text_from
text_closed opened at byte bytes e = rw (e, text_from) refl

pub text_escapes : (opened at byte : ℕ) (bytes : List ℕ) → (byte == 34) ≡ false → (byte == 92) ≡ true → text_from opened at (byte ∷ bytes) ≡ behind_backslash opened (at + 1) bytes
unfolding text_from
text_escapes opened at byte bytes e b = rw (e, text_from) (rw b refl)

pub text_goes_on : (opened at byte : ℕ) (bytes : List ℕ) → (byte == 34) ≡ false → (byte == 92) ≡ false → text_from opened at (byte ∷ bytes) ≡ text_from opened (at + 1) bytes
unfolding text_from
text_goes_on opened at byte bytes e b = rw (e, text_from) (rw b refl)

pub text_ends : (opened at : ℕ) → text_from opened at [] ≡ cut opened
unfolding text_from
text_ends opened at = refl

pub behind_first : (opened at byte : ℕ) (bytes : List ℕ) → behind_backslash opened at (byte ∷ bytes) ≡ text_from opened (at + 1) bytes
unfolding behind_backslash
behind_first opened at byte bytes = refl

pub behind_ends : (opened at : ℕ) → behind_backslash opened at [] ≡ cut opened
unfolding behind_backslash
behind_ends opened at = refl

pub inside_ends : (behind : Bool) (opened at : ℕ) → inside behind opened at [] ≡ cut opened
inside_ends true opened at = behind_ends opened at
inside_ends false opened at = text_ends opened at

pub inside_closed : (behind : Bool) (opened at byte : ℕ) (bytes : List ℕ) → (not behind && (byte == 34)) ≡ true → inside behind opened at (byte ∷ bytes) ≡ first (Quote (opened + 1) at) (tokens_from (at + 1) bytes)
inside_closed true opened at byte bytes e = cc
inside_closed false opened at byte bytes e = text_closed opened at byte bytes e

plain_or_backslash : (backslash : Bool) (opened at byte : ℕ) (bytes : List ℕ) → (byte == 34) ≡ false → (byte == 92) ≡ backslash → text_from opened at (byte ∷ bytes) ≡ inside backslash opened (at + 1) bytes
plain_or_backslash true opened at byte bytes e b = text_escapes opened at byte bytes e b
plain_or_backslash false opened at byte bytes e b = text_goes_on opened at byte bytes e b

pub inside_goes_on : (behind : Bool) (opened at byte : ℕ) (bytes : List ℕ) → (not behind && (byte == 34)) ≡ false → inside behind opened at (byte ∷ bytes) ≡ inside (not behind && (byte == 92)) opened (at + 1) bytes
inside_goes_on true opened at byte bytes e = behind_first opened at byte bytes
inside_goes_on false opened at byte bytes e = plain_or_backslash (byte == 92) opened at byte bytes e refl

-- ---- words

kind_of_word : (k : Kind) → is_of_word k ≡ true → k ≡ WordByte
kind_of_word Space e = cc
kind_of_word LeftBrace e = cc
kind_of_word RightBrace e = cc
kind_of_word CommaByte e = cc
kind_of_word QuoteMark e = cc
kind_of_word WordByte e = refl

kind_of_space : (k : Kind) → is_of_space k ≡ true → k ≡ Space
kind_of_space Space e = refl
kind_of_space LeftBrace e = cc
kind_of_space RightBrace e = cc
kind_of_space CommaByte e = cc
kind_of_space QuoteMark e = cc
kind_of_space WordByte e = cc

earliest : (from to : ℕ) (tokens : List Token) → from_earlier from (from_earlier to tokens) ≡ from_earlier from tokens
earliest from to [] = refl
earliest from to (Word a b ∷ tokens) = refl
earliest from to (Quote a b ∷ tokens) = refl
earliest from to (Left ∷ tokens) = refl
earliest from to (Right ∷ tokens) = refl
earliest from to (Comma ∷ tokens) = refl

abbrev found_of : Option ℕ → List Token → Found
found_of unclosed tokens = record { tokens = tokens; unclosed = unclosed }

earlier_split : (more : Bool) (from to end : ℕ) (found : Found) → earlier from (if more then earlier to found else first (Word to end) found) ≡ (if more then earlier from found else first (Word from end) found)
earlier_split true from to end found = ap (found_of found.unclosed) (earliest from to found.tokens)
earlier_split false from to end found = refl

-- a byte more of a word
word_goes_on : (from to byte : ℕ) (bytes : List ℕ) → is_word_byte byte ≡ true → word_before from to (byte ∷ bytes) (tokens_from to (byte ∷ bytes)) ≡ word_before from (to + 1) bytes (tokens_from (to + 1) bytes)
word_goes_on from to byte bytes e =
    rw e (ap (earlier from) (word_first to byte bytes (kind_of_word (kind byte) e)) ∙ earlier_split (begins_word bytes) from to (to + 1) (tokens_from (to + 1) bytes))

word_ends : (from to : ℕ) (bytes : List ℕ) (found : Found) → begins_word bytes ≡ false → word_before from to bytes found ≡ first (Word from to) found
word_ends from to bytes found e = rw e refl

-- a whole word
words_before : (word rest : List ℕ) (from to : ℕ) → list_all is_word_byte word ≡ true → begins_word rest ≡ false
    → word_before from to (word ++ rest) (tokens_from to (word ++ rest)) ≡ first (Word from (to + length word)) (tokens_from (to + length word) rest)
words_before [] rest from to all e = word_ends from to rest (tokens_from to rest) e ∙ ap (λ (n : ℕ). first (Word from n) (tokens_from n rest)) (omega arith)
words_before (byte ∷ word) rest from to all e =
    let parts = and_parts (is_word_byte byte) _ all in
    let same : (to + 1) + length word ≡ to + length (byte ∷ word) = omega arith in
    word_goes_on from to byte (word ++ rest) parts.0 ∙ words_before word rest from (to + 1) parts.1 e ∙ ap (λ (n : ℕ). first (Word from n) (tokens_from n rest)) same

pub word_piece : (word rest : List ℕ) (at : ℕ) → is_token_word word ≡ true → begins_word rest ≡ false → tokens_from at (word ++ rest) ≡ first (Word at (at + length word)) (tokens_from (at + length word) rest)
word_piece [] rest at all e = cc
word_piece (byte ∷ word) rest at all e =
    let parts = and_parts (is_word_byte byte) _ all in
    let same : (at + 1) + length word ≡ at + length (byte ∷ word) = omega arith in
    word_first at byte (word ++ rest) (kind_of_word (kind byte) parts.0) ∙ words_before word rest at (at + 1) parts.1 e ∙ ap (λ (n : ℕ). first (Word at n) (tokens_from n rest)) same

-- ---- bytes of a list

rest_at : (bytes : List ℕ) (at : ℕ) → at < length bytes → drop at bytes ≡ get_or bytes at 0 ∷ drop (at + 1) bytes
rest_at bytes at lt = drop_more bytes at 0 lt

rest_none : (bytes : List ℕ) (at : ℕ) → length bytes ≤ at → drop at bytes ≡ []
rest_none bytes at le = drop_all at bytes le

pub space_at : (bytes : List ℕ) (at : ℕ) (found : Found) → at < length bytes → is_of_space (kind (get_or bytes at 0)) ≡ true → found ≡ tokens_from at (drop at bytes) → found ≡ tokens_from (at + 1) (drop (at + 1) bytes)
space_at bytes at found lt e h = h ∙ ap (tokens_from at) (rest_at bytes at lt) ∙ space_first at (get_or bytes at 0) (drop (at + 1) bytes) (kind_of_space (kind (get_or bytes at 0)) e)

pub no_space_at : (bytes : List ℕ) (at : ℕ) → at < length bytes → is_of_space (kind (get_or bytes at 0)) ≡ false → begins_space (drop at bytes) ≡ false
no_space_at bytes at lt e = ap begins_space (rest_at bytes at lt) ∙ e

pub no_space_behind : (bytes : List ℕ) (at : ℕ) → length bytes ≤ at → begins_space (drop at bytes) ≡ false
no_space_behind bytes at le = ap begins_space (rest_none bytes at le)

pub word_at : (bytes : List ℕ) (at : ℕ) (b : Bool) → at < length bytes → is_of_word (kind (get_or bytes at 0)) ≡ b → begins_word (drop at bytes) ≡ b
word_at bytes at b lt e = ap begins_word (rest_at bytes at lt) ∙ e

pub no_word_behind : (bytes : List ℕ) (at : ℕ) → length bytes ≤ at → begins_word (drop at bytes) ≡ false
no_word_behind bytes at le = ap begins_word (rest_none bytes at le)

-- a word that begins at one place reaches to another
abbrev pub Reaches : List ℕ → ℕ → ℕ → Type 0
Reaches bytes from to = from < to → tokens_from from (drop from bytes) ≡ word_before from to (drop to bytes) (tokens_from to (drop to bytes))

reach_more : (bytes : List ℕ) (from to : ℕ) → to < length bytes → is_word_byte (get_or bytes to 0) ≡ true → word_before from to (drop to bytes) (tokens_from to (drop to bytes)) ≡ word_before from (to + 1) (drop (to + 1) bytes) (tokens_from (to + 1) (drop (to + 1) bytes))
reach_more bytes from to lt e = ap (λ (xs : List ℕ). word_before from to xs (tokens_from to xs)) (rest_at bytes to lt) ∙ word_goes_on from to (get_or bytes to 0) (drop (to + 1) bytes) e

reach_first : (bytes : List ℕ) (at : ℕ) → at < length bytes → is_word_byte (get_or bytes at 0) ≡ true → tokens_from at (drop at bytes) ≡ word_before at (at + 1) (drop (at + 1) bytes) (tokens_from (at + 1) (drop (at + 1) bytes))
reach_first bytes at lt e = ap (tokens_from at) (rest_at bytes at lt) ∙ word_first at (get_or bytes at 0) (drop (at + 1) bytes) (kind_of_word (kind (get_or bytes at 0)) e)

pub reaches_more : (bytes : List ℕ) (from to : ℕ) → from ≤ to → to < length bytes → is_word_byte (get_or bytes to 0) ≡ true → Reaches bytes from to → Reaches bytes from (to + 1)
reaches_more bytes from to le lt e h _ =
    elim (cases_lt from to) [
      | inl before ↦ h before ∙ reach_more bytes from to lt e
      | inr here ↦ let same : to ≡ from = omega arith in subst (λ (n : ℕ). tokens_from from (drop from bytes) ≡ word_before from (n + 1) (drop (n + 1) bytes) (tokens_from (n + 1) (drop (n + 1) bytes))) (sym same) (reach_first bytes from (omega arith) (subst (λ (n : ℕ). is_word_byte (get_or bytes n 0) ≡ true) same e))
    ]

pub reached : (bytes : List ℕ) (from to : ℕ) → Reaches bytes from to → begins_word (drop to bytes) ≡ false → from < to → tokens_from from (drop from bytes) ≡ first (Word from to) (tokens_from to (drop to bytes))
reached bytes from to h e lt = h lt ∙ word_ends from to (drop to bytes) (tokens_from to (drop to bytes)) e

-- ---- a text in a list

pub inside_more : (bytes : List ℕ) (behind : Bool) (opened at : ℕ) (found : Found) → at < length bytes → (not behind && (get_or bytes at 0 == 34)) ≡ false → found ≡ inside behind opened at (drop at bytes) → found ≡ inside (not behind && (get_or bytes at 0 == 92)) opened (at + 1) (drop (at + 1) bytes)
inside_more bytes behind opened at found lt e h = h ∙ ap (inside behind opened at) (rest_at bytes at lt) ∙ inside_goes_on behind opened at (get_or bytes at 0) (drop (at + 1) bytes) e

pub inside_done : (bytes : List ℕ) (behind : Bool) (opened at : ℕ) (found : Found) → at < length bytes → (not behind && (get_or bytes at 0 == 34)) ≡ true → found ≡ inside behind opened at (drop at bytes) → found ≡ first (Quote (opened + 1) at) (tokens_from (at + 1) (drop (at + 1) bytes))
inside_done bytes behind opened at found lt e h = h ∙ ap (inside behind opened at) (rest_at bytes at lt) ∙ inside_closed behind opened at (get_or bytes at 0) (drop (at + 1) bytes) e

pub inside_over : (bytes : List ℕ) (behind : Bool) (opened at : ℕ) (found : Found) → length bytes ≤ at → found ≡ inside behind opened at (drop at bytes) → found ≡ cut opened
inside_over bytes behind opened at found le h = h ∙ ap (inside behind opened at) (rest_none bytes at le) ∙ inside_ends behind opened at

-- ---- steps

pub space_step : (bytes : List ℕ) (at : ℕ) (old : List Token) → at < length bytes → kind (get_or bytes at 0) ≡ Space → Steps bytes at old old (at + 1)
space_step bytes at old lt e = record {
  later = omega arith;
  within = omega arith;
  same = ap (after old) (ap (tokens_from at) (rest_at bytes at lt) ∙ space_first at (get_or bytes at 0) (drop (at + 1) bytes) e);
}

added_first : (old new : List Token) (token : Token) (found : Found) → new ≡ old ++ token ∷ [] → after old (first token found) ≡ after new found
added_first old new token found e = ap (found_of found.unclosed) (sym (append_assoc old (token ∷ []) found.tokens) ∙ ap (λ (ts : List Token). ts ++ found.tokens) (sym e))

pub token_step : (bytes : List ℕ) (at next : ℕ) (old new : List Token) (token : Token) → at < next → next ≤ length bytes → new ≡ old ++ token ∷ [] → tokens_from at (drop at bytes) ≡ first token (tokens_from next (drop next bytes)) → Steps bytes at old new next
token_step bytes at next old new token lt le e h = record {
  later = lt;
  within = le;
  same = ap (after old) h ∙ added_first old new token (tokens_from next (drop next bytes)) e;
}

pub mark_at : (bytes : List ℕ) (at : ℕ) (token : Token) → at < length bytes → ((rest : List ℕ) → tokens_from at (get_or bytes at 0 ∷ rest) ≡ first token (tokens_from (at + 1) rest)) → tokens_from at (drop at bytes) ≡ first token (tokens_from (at + 1) (drop (at + 1) bytes))
mark_at bytes at token lt more = ap (tokens_from at) (rest_at bytes at lt) ∙ more (drop (at + 1) bytes)

pub text_at : (bytes : List ℕ) (at : ℕ) → at < length bytes → kind (get_or bytes at 0) ≡ QuoteMark → tokens_from at (drop at bytes) ≡ text_from at (at + 1) (drop (at + 1) bytes)
text_at bytes at lt e = ap (tokens_from at) (rest_at bytes at lt) ∙ quote_first at (get_or bytes at 0) (drop (at + 1) bytes) e

-- what adding a token answers
pub added_ok : (r : Result ℕ TokenFault) (bytes : List ℕ) (at next : ℕ) (old new : List Token) (token : Token) → at < next → next ≤ length bytes → tokens_from at (drop at bytes) ≡ first token (tokens_from next (drop next bytes))
    → IfOk r (λ n. n ≡ next) → IfOk r (λ _. new ≡ old ++ token ∷ []) → IfOk r (Steps bytes at old new)
added_ok (Ok n) bytes at next old new token lt le h e q = subst (Steps bytes at old new) (sym e) (token_step bytes at next old new token lt le q h)
added_ok (Err fault) bytes at next old new token lt le h e q = tt

memory_only : (fault : TokenFault) (found : Found) → fault ≡ NoMemory → IsFaultOf found fault
memory_only (Unclosed opened) found e = cc
memory_only NoMemory found e = tt

pub added_err : (r : Result ℕ TokenFault) (found : Found) → IfErr r (λ fault. fault ≡ NoMemory) → IfErr r (IsFaultOf found)
added_err (Ok n) found h = tt
added_err (Err fault) found h = memory_only fault found h

-- ---- the whole file

pub no_more : (bytes : List ℕ) (at : ℕ) → length bytes ≤ at → tokens_from at (drop at bytes) ≡ nothing
no_more bytes at le = ap (tokens_from at) (rest_none bytes at le) ∙ no_tokens at

pub all_found : (bytes : List ℕ) (at : ℕ) (list : List Token) → length bytes ≤ at → tokens_from 0 bytes ≡ after list (tokens_from at (drop at bytes)) → file_tokens bytes ≡ Ok list
unfolding file_tokens
all_found bytes at list le h =
    let whole : tokens_from 0 bytes ≡ after list nothing = h ∙ ap (after list) (no_more bytes at le) in
    ap (λ (found : Found). all_or_fault found.tokens found.unclosed) whole ∙ ap (λ (ts : List Token). all_or_fault ts None) (append-nil list)

pub fault_found : (fault : TokenFault) (bytes : List ℕ) (list : List Token) (found : Found) → tokens_from 0 bytes ≡ after list found → IsFaultOf found fault → IsTokenFault bytes fault
unfolding file_tokens
fault_found (Unclosed opened) bytes list found h e =
    ap (λ (f : Found). all_or_fault f.tokens f.unclosed) h ∙ ap (all_or_fault (list ++ found.tokens)) e
fault_found NoMemory bytes list found h e = tt

pub fault_answered : (r : Result (List Token) TokenFault) (bytes : List ℕ) (fault : TokenFault) → IsErrAnd r (λ f. f ≡ fault) → IsTokenFault bytes fault → IfErr r (IsTokenFault bytes)
fault_answered (Ok list) bytes fault e h = tt
fault_answered (Err f) bytes fault e h = subst (IsTokenFault bytes) (sym e) h

-- ---- the first token

text_not_word_by : (quote backslash : Bool) (byte : ℕ) (rest bytes word : List ℕ) (opened at : ℕ) → (byte == 34) ≡ quote → (byte == 92) ≡ backslash
    → first_is bytes word (text_from opened (at + 1) rest).tokens ≡ false → first_is bytes word (behind_backslash opened (at + 1) rest).tokens ≡ false
    → first_is bytes word (text_from opened at (byte ∷ rest)).tokens ≡ false
text_not_word_by true backslash byte rest bytes word opened at e b text behind = ap (λ (f : Found). first_is bytes word f.tokens) (text_closed opened at byte rest e)
text_not_word_by false true byte rest bytes word opened at e b text behind = ap (λ (f : Found). first_is bytes word f.tokens) (text_escapes opened at byte rest e b) ∙ behind
text_not_word_by false false byte rest bytes word opened at e b text behind = ap (λ (f : Found). first_is bytes word f.tokens) (text_goes_on opened at byte rest e b) ∙ text

mutual
  text_not_word : (rest bytes word : List ℕ) (opened at : ℕ) → first_is bytes word (text_from opened at rest).tokens ≡ false
  text_not_word [] bytes word opened at = ap (λ (f : Found). first_is bytes word f.tokens) (text_ends opened at)
  text_not_word (byte ∷ rest) bytes word opened at =
      text_not_word_by (byte == 34) (byte == 92) byte rest bytes word opened at refl refl (text_not_word rest bytes word opened (at + 1)) (behind_not_word rest bytes word opened (at + 1))

  behind_not_word : (rest bytes word : List ℕ) (opened at : ℕ) → first_is bytes word (behind_backslash opened at rest).tokens ≡ false
  behind_not_word [] bytes word opened at = ap (λ (f : Found). first_is bytes word f.tokens) (behind_ends opened at)
  behind_not_word (byte ∷ rest) bytes word opened at =
      ap (λ (f : Found). first_is bytes word f.tokens) (behind_first opened at byte rest) ∙ text_not_word rest bytes word opened (at + 1)

other_first_by : (k : Kind) (byte : ℕ) (rest bytes word : List ℕ) (at : ℕ) → kind byte ≡ k → is_of_space k ≡ false → is_of_word k ≡ false → first_is bytes word (tokens_from at (byte ∷ rest)).tokens ≡ false
other_first_by Space byte rest bytes word at e s w = cc
other_first_by LeftBrace byte rest bytes word at e s w = ap (λ (f : Found). first_is bytes word f.tokens) (left_first at byte rest e)
other_first_by RightBrace byte rest bytes word at e s w = ap (λ (f : Found). first_is bytes word f.tokens) (right_first at byte rest e)
other_first_by CommaByte byte rest bytes word at e s w = ap (λ (f : Found). first_is bytes word f.tokens) (comma_first at byte rest e)
other_first_by QuoteMark byte rest bytes word at e s w = ap (λ (f : Found). first_is bytes word f.tokens) (quote_first at byte rest e) ∙ text_not_word rest bytes word at (at + 1)
other_first_by WordByte byte rest bytes word at e s w = cc

other_first : (rest bytes word : List ℕ) (at : ℕ) → begins_space rest ≡ false → begins_word rest ≡ false → first_is bytes word (tokens_from at rest).tokens ≡ false
other_first [] bytes word at s w = ap (λ (f : Found). first_is bytes word f.tokens) (no_tokens at)
other_first (byte ∷ rest) bytes word at s w = other_first_by (kind byte) byte rest bytes word at refl s w

not_empty : (word : List ℕ) → is_token_word word ≡ true → bytes_eq [] word ≡ false
not_empty [] e = cc
not_empty (byte ∷ word) e = refl

nothing_between : (bytes : List ℕ) (at : ℕ) → slice_range bytes at at ≡ []
nothing_between bytes at = let none : at - at ≡ 0 = omega arith in rw none refl

pub first_found : (bytes word : List ℕ) (from to : ℕ) (r : Bool) → is_token_word word ≡ true → tokens_from 0 bytes ≡ tokens_from from (drop from bytes) → begins_space (drop from bytes) ≡ false → from ≤ to
    → (from < to → tokens_from from (drop from bytes) ≡ first (Word from to) (tokens_from to (drop to bytes))) → (from ≡ to → begins_word (drop from bytes) ≡ false)
    → r ≡ bytes_eq (slice_range bytes from to) word → r ≡ first_is bytes word (tokens_from 0 bytes).tokens
first_found bytes word from to r good same space le some none e =
    let whole = ap (λ (f : Found). first_is bytes word f.tokens) same in
    elim (cases_lt from to) [
      | inl lt ↦ e ∙ sym (whole ∙ ap (λ (f : Found). first_is bytes word f.tokens) (some lt))
      | inr ge ↦
          let here : from ≡ to = omega arith in
          let empty : bytes_eq (slice_range bytes from to) word ≡ false = ap (λ (n : ℕ). bytes_eq (slice_range bytes from n) word) (sym here) ∙ ap (λ (xs : List ℕ). bytes_eq xs word) (nothing_between bytes from) ∙ not_empty word good in
          e ∙ empty ∙ sym (whole ∙ other_first (drop from bytes) bytes word from space (none here))
    ]
