-- Tokens rise, and stand within the file.
use Rattle.std.proofs.Common.{◌≡◌, ◌<◌, ◌≤◌, ◌+◌, ℕ, zero, suc, Bool, true, false, List, [], ◌∷◌, length, drop, refl, sym, ◌∙◌, ap, subst, arith}
use Rattle.std.specs.Prelude.{◌==◌, if◌then◌else◌, All}
use Rattle.std.proofs.lemmas.List.{append-nil}
use Rattle.spiel_string.specs.Tokens.{Found, IsWithin, Rise, begins_word, behind_backslash, earlier, first, from_earlier, kind, text_from, tokens_from}
use Rattle.spiel_string.specs.Cutting.{after}
use Rattle.spiel_string.specs.declared.token.Token.{Token}
use Rattle.spiel_string.specs.declared.token.Token.TheVariants.{Word, Quote, Left, Right, Comma}
use Rattle.spiel_string.specs.declared.token.Kind.{Kind}
use Rattle.spiel_string.specs.declared.token.Kind.TheVariants.{Space, LeftBrace, RightBrace, CommaByte, QuoteMark, WordByte}
use Rattle.spiel_string.proofs.TokenSteps.{space_first, left_first, right_first, comma_first, quote_first, word_first, no_tokens, text_closed, text_escapes, text_goes_on, text_ends, behind_first, behind_ends, no_more}

rise_sooner : (tokens : List Token) (low high total : ℕ) → low ≤ high → Rise high total tokens → Rise low total tokens
rise_sooner [] low high total le r = omega arith
rise_sooner (Word from to ∷ tokens) low high total le r = (omega (arith, r.0), r.1, r.2)
rise_sooner (Quote from to ∷ tokens) low high total le r = (omega (arith, r.0), r.1, r.2)
rise_sooner (Left ∷ tokens) low high total le r = rise_sooner tokens (low + 1) (high + 1) total (omega arith) r
rise_sooner (Right ∷ tokens) low high total le r = rise_sooner tokens (low + 1) (high + 1) total (omega arith) r
rise_sooner (Comma ∷ tokens) low high total le r = rise_sooner tokens (low + 1) (high + 1) total (omega arith) r

rise_below : (tokens : List Token) (low total : ℕ) → Rise low total tokens → low ≤ total
rise_below [] low total r = r
rise_below (Word from to ∷ tokens) low total r = let h = rise_below tokens to total r.2 in omega (arith, r.0, r.1, h)
rise_below (Quote from to ∷ tokens) low total r = let h = rise_below tokens (to + 1) total r.2 in omega (arith, r.0, r.1, h)
rise_below (Left ∷ tokens) low total r = let h = rise_below tokens (low + 1) total r in omega (arith, h)
rise_below (Right ∷ tokens) low total r = let h = rise_below tokens (low + 1) total r in omega (arith, h)
rise_below (Comma ∷ tokens) low total r = let h = rise_below tokens (low + 1) total r in omega (arith, h)

earlier_rises : (tokens : List Token) (at total : ℕ) → Rise (at + 1) total tokens → Rise at total (from_earlier at tokens)
earlier_rises [] at total r = omega arith
earlier_rises (Word from to ∷ tokens) at total r = (omega arith, omega (arith, r.0, r.1), r.2)
earlier_rises (Quote from to ∷ tokens) at total r = rise_sooner (Quote from to ∷ tokens) at (at + 1) total (omega arith) r
earlier_rises (Left ∷ tokens) at total r = rise_sooner (Left ∷ tokens) at (at + 1) total (omega arith) r
earlier_rises (Right ∷ tokens) at total r = rise_sooner (Right ∷ tokens) at (at + 1) total (omega arith) r
earlier_rises (Comma ∷ tokens) at total r = rise_sooner (Comma ∷ tokens) at (at + 1) total (omega arith) r

word_rises : (more : Bool) (at total : ℕ) (found : Found) → Rise (at + 1) total found.tokens → Rise at total (if more then earlier at found else first (Word at (at + 1)) found).tokens
word_rises true at total found r = earlier_rises found.tokens at total r
word_rises false at total found r = (omega arith, omega arith, r)

abbrev FoundRises : ℕ → ℕ → Found → Type 0
FoundRises low total found = Rise low total found.tokens

rises_by : (k : Kind) (byte : ℕ) (bytes : List ℕ) (at total : ℕ) → kind byte ≡ k → FoundRises (at + 1) total (tokens_from (at + 1) bytes) → FoundRises at total (text_from at (at + 1) bytes)
    → FoundRises at total (tokens_from at (byte ∷ bytes))
rises_by Space byte bytes at total e r q = subst (FoundRises at total) (sym (space_first at byte bytes e)) (rise_sooner (tokens_from (at + 1) bytes).tokens at (at + 1) total (omega arith) r)
rises_by LeftBrace byte bytes at total e r q = subst (FoundRises at total) (sym (left_first at byte bytes e)) r
rises_by RightBrace byte bytes at total e r q = subst (FoundRises at total) (sym (right_first at byte bytes e)) r
rises_by CommaByte byte bytes at total e r q = subst (FoundRises at total) (sym (comma_first at byte bytes e)) r
rises_by QuoteMark byte bytes at total e r q = subst (FoundRises at total) (sym (quote_first at byte bytes e)) q
rises_by WordByte byte bytes at total e r q = subst (FoundRises at total) (sym (word_first at byte bytes e)) (word_rises (begins_word bytes) at total (tokens_from (at + 1) bytes) r)

text_rises_by : (quote backslash : Bool) (byte : ℕ) (bytes : List ℕ) (opened at total : ℕ) → (byte == 34) ≡ quote → (byte == 92) ≡ backslash → opened < at
    → FoundRises (at + 1) total (tokens_from (at + 1) bytes) → FoundRises opened total (text_from opened (at + 1) bytes) → FoundRises opened total (behind_backslash opened (at + 1) bytes)
    → FoundRises opened total (text_from opened at (byte ∷ bytes))
text_rises_by true backslash byte bytes opened at total e b lt r q p = subst (FoundRises opened total) (sym (text_closed opened at byte bytes e)) (omega arith, omega arith, r)
text_rises_by false true byte bytes opened at total e b lt r q p = subst (FoundRises opened total) (sym (text_escapes opened at byte bytes e b)) p
text_rises_by false false byte bytes opened at total e b lt r q p = subst (FoundRises opened total) (sym (text_goes_on opened at byte bytes e b)) q

mutual
  rises : (bytes : List ℕ) (at total : ℕ) → at + length bytes ≡ total → FoundRises at total (tokens_from at bytes)
  rises [] at total e = let le : at ≤ total = omega arith in subst (FoundRises at total) (sym (no_tokens at)) le
  rises (byte ∷ bytes) at total e =
      let rest : (at + 1) + length bytes ≡ total = omega arith in
      rises_by (kind byte) byte bytes at total refl (rises bytes (at + 1) total rest) (text_rises bytes at (at + 1) total (omega arith) rest)

  text_rises : (bytes : List ℕ) (opened at total : ℕ) → opened < at → at + length bytes ≡ total → FoundRises opened total (text_from opened at bytes)
  text_rises [] opened at total lt e = let le : opened ≤ total = omega arith in subst (FoundRises opened total) (sym (text_ends opened at)) le
  text_rises (byte ∷ bytes) opened at total lt e =
      let rest : (at + 1) + length bytes ≡ total = omega arith in
      text_rises_by (byte == 34) (byte == 92) byte bytes opened at total refl refl lt (rises bytes (at + 1) total rest) (text_rises bytes opened (at + 1) total (omega arith) rest) (behind_rises bytes opened (at + 1) total (omega arith) rest)

  behind_rises : (bytes : List ℕ) (opened at total : ℕ) → opened < at → at + length bytes ≡ total → FoundRises opened total (behind_backslash opened at bytes)
  behind_rises [] opened at total lt e = let le : opened ≤ total = omega arith in subst (FoundRises opened total) (sym (behind_ends opened at)) le
  behind_rises (byte ∷ bytes) opened at total lt e =
      let rest : (at + 1) + length bytes ≡ total = omega arith in
      subst (FoundRises opened total) (sym (behind_first opened at byte bytes)) (text_rises bytes opened (at + 1) total (omega arith) rest)

-- tokens that rise are within the file
pub all_within : (tokens : List Token) (low total : ℕ) → Rise low total tokens → All (IsWithin total) tokens
all_within [] low total r k d lt = absurd (omega arith)
all_within (Word from to ∷ tokens) low total r zero d lt = (r.1, rise_below tokens to total r.2)
all_within (Quote from to ∷ tokens) low total r zero d lt = let h = rise_below tokens (to + 1) total r.2 in (r.1, omega (arith, h))
all_within (Left ∷ tokens) low total r zero d lt = tt
all_within (Right ∷ tokens) low total r zero d lt = tt
all_within (Comma ∷ tokens) low total r zero d lt = tt
all_within (Word from to ∷ tokens) low total r (suc k) d lt = all_within tokens to total r.2 k d (omega arith)
all_within (Quote from to ∷ tokens) low total r (suc k) d lt = all_within tokens (to + 1) total r.2 k d (omega arith)
all_within (Left ∷ tokens) low total r (suc k) d lt = all_within tokens (low + 1) total r k d (omega arith)
all_within (Right ∷ tokens) low total r (suc k) d lt = all_within tokens (low + 1) total r k d (omega arith)
all_within (Comma ∷ tokens) low total r (suc k) d lt = all_within tokens (low + 1) total r k d (omega arith)

pub whole_rises : (bytes : List ℕ) (at : ℕ) (list : List Token) → length bytes ≤ at → tokens_from 0 bytes ≡ after list (tokens_from at (drop at bytes)) → Rise 0 (length bytes) list
whole_rises bytes at list le h =
    let same : (tokens_from 0 bytes).tokens ≡ list = ap (λ (f : Found). f.tokens) (h ∙ ap (after list) (no_more bytes at le)) ∙ append-nil list in
    subst (Rise 0 (length bytes)) same (rises bytes 0 (length bytes) (omega arith))
