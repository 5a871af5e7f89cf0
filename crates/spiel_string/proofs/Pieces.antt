-- The tokens of a file are those of its pieces, and each file has pieces.
use Rattle.std.proofs.Common.{◌≡◌, ◌+◌, ℕ, Bool, true, false, List, [], ◌∷◌, ◌++◌, length, refl, sym, ◌∙◌, ap, subst, ◌⊎◌, inl, inr, length-append, arith, Some, None, Ok, Err}
use Rattle.std.specs.Prelude.{◌==◌, ◌||◌, not}
use Rattle.std.specs.List.{list_all}
use Rattle.std.proofs.lemmas.Bool.{and_parts, and_from, eqb-true}
use Rattle.std.proofs.lemmas.List.{append-nil}
use Rattle.spiel_string.specs.Cutting.{after}
use Rattle.spiel_string.specs.Pieces.{Letter, plain, pair, Piece, space, left, right, comma, word, text, spell_letters, letters_say, letters_size, spell, is_proper_letter, word_is_first, are_proper, tokens_of, IsRowOf, IsCutAt}
use Rattle.spiel_string.specs.Quoting.{is_escaped, backslash_kept, unescaped, unescaped_behind}
use Rattle.spiel_string.specs.Tokens.{Found, all_or_fault, begins_word, cut, file_tokens, first, is_of_word, is_space, is_token_word, is_word_byte, kind, text_from, tokens_from}
use Rattle.spiel_string.specs.declared.token.Token.{Token}
use Rattle.spiel_string.specs.declared.token.Token.TheVariants.{Word, Quote, Left, Right, Comma}
use Rattle.spiel_string.specs.declared.token.TokenFault.TheVariants.{Unclosed}
use Rattle.spiel_string.proofs.TokenSteps.{space_first, left_first, right_first, comma_first, quote_first, word_piece, no_tokens, space_kind, left_kind, right_kind, comma_kind, text_closed, text_escapes, text_goes_on, text_ends, behind_first, behind_ends}
use Rattle.spiel_string.proofs.Quoted.{not_either, quote_kind, plain_said}

-- ---- the tokens of pieces

flipped : (b : Bool) → not b ≡ true → b ≡ false
flipped true h = cc
flipped false h = refl

not_escaped : (byte : ℕ) → not (is_escaped byte) ≡ true → is_escaped byte ≡ false
not_escaped byte e = flipped (is_escaped byte) e

neither : (a b : Bool) → a ≡ false → b ≡ false → not (a || b) ≡ true
neither a b p q = rw p (rw q refl)

letters_more : (letters : List Letter) (rest : List ℕ) (opened at : ℕ) → list_all is_proper_letter letters ≡ true → text_from opened at (spell_letters letters rest) ≡ text_from opened (at + letters_size letters) rest
letters_more [] rest opened at all = ap (λ (n : ℕ). text_from opened n rest) (omega arith)
letters_more (plain byte ∷ letters) rest opened at all =
    let parts = and_parts (not (is_escaped byte)) _ all in
    let tests = not_either (byte == 34) (byte == 92) (not_escaped byte parts.0) in
    let end : (at + 1) + letters_size letters ≡ at + letters_size (plain byte ∷ letters) = omega arith in
    text_goes_on opened at byte (spell_letters letters rest) tests.0 tests.1 ∙ letters_more letters rest opened (at + 1) parts.1 ∙ ap (λ (n : ℕ). text_from opened n rest) end
letters_more (pair byte ∷ letters) rest opened at all =
    let end : (at + 1 + 1) + letters_size letters ≡ at + letters_size (pair byte ∷ letters) = omega arith in
    text_escapes opened at 92 (byte ∷ spell_letters letters rest) refl refl ∙ behind_first opened (at + 1) byte (spell_letters letters rest) ∙ letters_more letters rest opened (at + 1 + 1) all ∙ ap (λ (n : ℕ). text_from opened n rest) end

text_piece : (letters : List Letter) (rest : List ℕ) (at : ℕ) → list_all is_proper_letter letters ≡ true
    → tokens_from at (34 ∷ spell_letters letters (34 ∷ rest)) ≡ first (Quote (at + 1) (at + 1 + letters_size letters)) (tokens_from (at + 1 + letters_size letters + 1) rest)
text_piece letters rest at all = quote_first at 34 (spell_letters letters (34 ∷ rest)) quote_kind ∙ letters_more letters (34 ∷ rest) at (at + 1) all ∙ text_closed at (at + 1 + letters_size letters) 34 rest refl

space_no_word : (byte : ℕ) → is_space byte ≡ true → is_word_byte byte ≡ false
space_no_word byte e = ap is_of_word (space_kind byte e)

no_word_first : (pieces : List Piece) (rest : List ℕ) → not (word_is_first pieces) ≡ true → are_proper pieces ≡ true → begins_word rest ≡ false → begins_word (spell pieces rest) ≡ false
no_word_first [] rest none all e = e
no_word_first (space byte ∷ pieces) rest none all e = space_no_word byte (and_parts (is_space byte) _ all).0
no_word_first (left ∷ pieces) rest none all e = ap is_of_word left_kind
no_word_first (right ∷ pieces) rest none all e = ap is_of_word right_kind
no_word_first (comma ∷ pieces) rest none all e = ap is_of_word comma_kind
no_word_first (word bytes ∷ pieces) rest none all e = cc
no_word_first (text letters ∷ pieces) rest none all e = ap is_of_word quote_kind

-- the place behind pieces
abbrev pub end_of : ℕ → List Piece → ℕ
end_of at pieces = at + length (spell pieces [])

same_end : (pieces : List Piece) (from size at : ℕ) (rest : List ℕ) → from + length (spell pieces []) ≡ at + size → after (tokens_of from pieces) (tokens_from (from + length (spell pieces [])) rest) ≡ after (tokens_of from pieces) (tokens_from (at + size) rest)
same_end pieces from size at rest e = ap (λ (n : ℕ). after (tokens_of from pieces) (tokens_from n rest)) e

letters_length : (letters : List Letter) (rest : List ℕ) → length (spell_letters letters rest) ≡ letters_size letters + length rest
letters_length [] rest = omega arith
letters_length (plain byte ∷ letters) rest = let h = letters_length letters rest in omega (arith, h)
letters_length (pair byte ∷ letters) rest = let h = letters_length letters rest in omega (arith, h)

pub pieces_found : (pieces : List Piece) (rest : List ℕ) (at : ℕ) → are_proper pieces ≡ true → begins_word rest ≡ false → tokens_from at (spell pieces rest) ≡ after (tokens_of at pieces) (tokens_from (end_of at pieces) rest)
pieces_found [] rest at all e = ap (λ (n : ℕ). tokens_from n rest) (omega arith)
pieces_found (space byte ∷ pieces) rest at all e =
    let parts = and_parts (is_space byte) _ all in
    space_first at byte (spell pieces rest) (space_kind byte parts.0) ∙ pieces_found pieces rest (at + 1) parts.1 e ∙ same_end pieces (at + 1) (length (spell (space byte ∷ pieces) [])) at rest (omega arith)
pieces_found (left ∷ pieces) rest at all e =
    left_first at 123 (spell pieces rest) left_kind ∙ ap (first Left) (pieces_found pieces rest (at + 1) all e ∙ same_end pieces (at + 1) (length (spell (left ∷ pieces) [])) at rest (omega arith))
pieces_found (right ∷ pieces) rest at all e =
    right_first at 125 (spell pieces rest) right_kind ∙ ap (first Right) (pieces_found pieces rest (at + 1) all e ∙ same_end pieces (at + 1) (length (spell (right ∷ pieces) [])) at rest (omega arith))
pieces_found (comma ∷ pieces) rest at all e =
    comma_first at 44 (spell pieces rest) comma_kind ∙ ap (first Comma) (pieces_found pieces rest (at + 1) all e ∙ same_end pieces (at + 1) (length (spell (comma ∷ pieces) [])) at rest (omega arith))
pieces_found (word bytes ∷ pieces) rest at all e =
    let parts = and_parts (is_token_word bytes) _ all in
    let others = and_parts (not (word_is_first pieces)) _ parts.1 in
    let size = length-append bytes (spell pieces []) in
    word_piece bytes (spell pieces rest) at parts.0 (no_word_first pieces rest others.0 others.1 e)
    ∙ ap (first (Word at (at + length bytes))) (pieces_found pieces rest (at + length bytes) others.1 e ∙ same_end pieces (at + length bytes) (length (spell (word bytes ∷ pieces) [])) at rest (omega (arith, size)))
pieces_found (text letters ∷ pieces) rest at all e =
    let parts = and_parts (list_all is_proper_letter letters) _ all in
    let size = letters_length letters (34 ∷ spell pieces []) in
    text_piece letters (spell pieces rest) at parts.0
    ∙ ap (first (Quote (at + 1) (at + 1 + letters_size letters))) (pieces_found pieces rest (at + 1 + letters_size letters + 1) parts.1 e ∙ same_end pieces (at + 1 + letters_size letters + 1) (length (spell (text letters ∷ pieces) [])) at rest (omega (arith, size)))

pub spelled_tokens : (pieces : List Piece) → are_proper pieces ≡ true → file_tokens (spell pieces []) ≡ Ok (tokens_of 0 pieces)
unfolding file_tokens
spelled_tokens pieces all =
    ap (λ (found : Found). all_or_fault found.tokens found.unclosed) (pieces_found pieces [] 0 all refl ∙ ap (after (tokens_of 0 pieces)) (no_tokens (end_of 0 pieces))) ∙ ap (λ (ts : List Token). all_or_fault ts None) (append-nil (tokens_of 0 pieces))

tail_cut : (tail : List ℕ) (opened at : ℕ) → (tail ≡ []) ⊎ (tail ≡ 92 ∷ []) → text_from opened at tail ≡ cut opened
tail_cut tail opened at (inl e) = ap (text_from opened at) e ∙ text_ends opened at
tail_cut tail opened at (inr e) = ap (text_from opened at) e ∙ text_escapes opened at 92 [] refl refl ∙ behind_ends opened (at + 1)

cut_found : (letters : List Letter) (tail : List ℕ) (at : ℕ) → list_all is_proper_letter letters ≡ true → (tail ≡ []) ⊎ (tail ≡ 92 ∷ []) → tokens_from at (34 ∷ spell_letters letters tail) ≡ cut at
cut_found letters tail at all e = quote_first at 34 (spell_letters letters tail) quote_kind ∙ letters_more letters tail at (at + 1) all ∙ tail_cut tail at (at + 1 + letters_size letters) e

pub cut_fault : (pieces : List Piece) (letters : List Letter) (tail : List ℕ) → are_proper pieces ≡ true → list_all is_proper_letter letters ≡ true → (tail ≡ []) ⊎ (tail ≡ 92 ∷ [])
    → file_tokens (spell pieces (34 ∷ spell_letters letters tail)) ≡ Err (Unclosed (length (spell pieces [])))
unfolding file_tokens
cut_fault pieces letters tail all proper e =
    let place : 0 + length (spell pieces []) ≡ length (spell pieces []) = omega arith in
    ap (λ (found : Found). all_or_fault found.tokens found.unclosed) (pieces_found pieces (34 ∷ spell_letters letters tail) 0 all (ap is_of_word quote_kind) ∙ ap (after (tokens_of 0 pieces)) (cut_found letters tail (end_of 0 pieces) proper e))
    ∙ ap (λ (n : ℕ). all_or_fault (tokens_of 0 pieces ++ []) (Some n)) place

pub letters_said : (letters : List Letter) → list_all is_proper_letter letters ≡ true → unescaped (spell_letters letters []) ≡ letters_say letters
unfolding unescaped unescaped_behind
letters_said [] all = refl
letters_said (plain byte ∷ letters) all =
    let parts = and_parts (not (is_escaped byte)) _ all in
    plain_said false byte (spell_letters letters []) (not_either (byte == 34) (byte == 92) (not_escaped byte parts.0)).1 ∙ ap (λ (xs : List ℕ). byte ∷ xs) (letters_said letters parts.1)
letters_said (pair byte ∷ letters) all = ap (λ (xs : List ℕ). backslash_kept byte ++ byte ∷ xs) (letters_said letters all)

-- ---- the pieces of a file

-- what a byte is for
data KindIs (byte : ℕ) : Type 0 where
  for_space : is_space byte ≡ true → KindIs byte
  for_left : byte ≡ 123 → KindIs byte
  for_right : byte ≡ 125 → KindIs byte
  for_comma : byte ≡ 44 → KindIs byte
  for_quote : byte ≡ 34 → KindIs byte
  for_word : is_word_byte byte ≡ true → KindIs byte

kind_by : (a b c d e : Bool) (byte : ℕ) → is_space byte ≡ a → (byte == 123) ≡ b → (byte == 125) ≡ c → (byte == 44) ≡ d → (byte == 34) ≡ e → KindIs byte
unfolding kind
kind_by true b c d e byte p q r s t = for_space p
kind_by false true c d e byte p q r s t = for_left (eqb-true byte 123 q)
kind_by false false true d e byte p q r s t = for_right (eqb-true byte 125 r)
kind_by false false false true e byte p q r s t = for_comma (eqb-true byte 44 s)
kind_by false false false false true byte p q r s t = for_quote (eqb-true byte 34 t)
kind_by false false false false false byte p q r s t = for_word (rw p (rw q (rw r (rw s (rw t refl)))))

kind_is : (byte : ℕ) → KindIs byte
kind_is byte = kind_by (is_space byte) (byte == 123) (byte == 125) (byte == 44) (byte == 34) byte refl refl refl refl refl

-- how a file ends behind its pieces
pub data Ending : Type 0 where
  done : Ending
  open_text : (letters : List Letter) (tail : List ℕ) → list_all is_proper_letter letters ≡ true → (tail ≡ []) ⊎ (tail ≡ 92 ∷ []) → Ending

abbrev ending : Ending → List ℕ
ending done = []
ending (open_text letters tail all e) = 34 ∷ spell_letters letters tail

record Parts (bytes : List ℕ) : Type 0 where
  pieces : List Piece
  end : Ending
  proper : are_proper pieces ≡ true
  same : bytes ≡ spell pieces (ending end)

-- a text from its opening quote on: its letters, and how it goes on behind them
data After (bytes : List ℕ) : Type 0 where
  closed : (letters : List Letter) (rest : List ℕ) → list_all is_proper_letter letters ≡ true → bytes ≡ spell_letters letters (34 ∷ rest) → Parts rest → After bytes
  unclosed : (letters : List Letter) (tail : List ℕ) → list_all is_proper_letter letters ≡ true → (tail ≡ []) ⊎ (tail ≡ 92 ∷ []) → bytes ≡ spell_letters letters tail → After bytes

with_word_byte : (byte : ℕ) (bytes : List ℕ) (pieces : List Piece) (end : Ending) → is_word_byte byte ≡ true → are_proper pieces ≡ true → bytes ≡ spell pieces (ending end) → Parts (byte ∷ bytes)
with_word_byte byte bytes [] end w all e = record {
  pieces = word (byte ∷ []) ∷ [];
  end = end;
  proper = and_from (is_token_word (byte ∷ [])) _ (and_from (is_word_byte byte) true w refl) refl;
  same = ap (λ (xs : List ℕ). byte ∷ xs) e;
}
with_word_byte byte bytes (word [] ∷ pieces) end w all e = cc
with_word_byte byte bytes (word (next ∷ others) ∷ pieces) end w all e =
    let parts = and_parts (is_token_word (next ∷ others)) _ all in
    record {
      pieces = word (byte ∷ next ∷ others) ∷ pieces;
      end = end;
      proper = and_from (is_token_word (byte ∷ next ∷ others)) _ (and_from (is_word_byte byte) _ w parts.0) parts.1;
      same = ap (λ (xs : List ℕ). byte ∷ xs) e;
    }
with_word_byte byte bytes (space b ∷ pieces) end w all e = record {
  pieces = word (byte ∷ []) ∷ space b ∷ pieces;
  end = end;
  proper = and_from (is_token_word (byte ∷ [])) _ (and_from (is_word_byte byte) true w refl) all;
  same = ap (λ (xs : List ℕ). byte ∷ xs) e;
}
with_word_byte byte bytes (left ∷ pieces) end w all e = record {
  pieces = word (byte ∷ []) ∷ left ∷ pieces;
  end = end;
  proper = and_from (is_token_word (byte ∷ [])) _ (and_from (is_word_byte byte) true w refl) all;
  same = ap (λ (xs : List ℕ). byte ∷ xs) e;
}
with_word_byte byte bytes (right ∷ pieces) end w all e = record {
  pieces = word (byte ∷ []) ∷ right ∷ pieces;
  end = end;
  proper = and_from (is_token_word (byte ∷ [])) _ (and_from (is_word_byte byte) true w refl) all;
  same = ap (λ (xs : List ℕ). byte ∷ xs) e;
}
with_word_byte byte bytes (comma ∷ pieces) end w all e = record {
  pieces = word (byte ∷ []) ∷ comma ∷ pieces;
  end = end;
  proper = and_from (is_token_word (byte ∷ [])) _ (and_from (is_word_byte byte) true w refl) all;
  same = ap (λ (xs : List ℕ). byte ∷ xs) e;
}
with_word_byte byte bytes (text letters ∷ pieces) end w all e = record {
  pieces = word (byte ∷ []) ∷ text letters ∷ pieces;
  end = end;
  proper = and_from (is_token_word (byte ∷ [])) _ (and_from (is_word_byte byte) true w refl) all;
  same = ap (λ (xs : List ℕ). byte ∷ xs) e;
}

with_mark : (byte : ℕ) (bytes : List ℕ) (piece : Piece) → Parts bytes → ((pieces : List Piece) → are_proper pieces ≡ true → are_proper (piece ∷ pieces) ≡ true) → ((pieces : List Piece) (rest : List ℕ) → byte ∷ spell pieces rest ≡ spell (piece ∷ pieces) rest) → Parts (byte ∷ bytes)
with_mark byte bytes piece parts proper same = record {
  pieces = piece ∷ parts.pieces;
  end = parts.end;
  proper = proper parts.pieces parts.proper;
  same = ap (λ (xs : List ℕ). byte ∷ xs) parts.same ∙ same parts.pieces (ending parts.end);
}

with_text : (byte : ℕ) (bytes : List ℕ) → byte ≡ 34 → After bytes → Parts (byte ∷ bytes)
with_text byte bytes q (closed letters rest all e parts) = record {
  pieces = text letters ∷ parts.pieces;
  end = parts.end;
  proper = and_from (list_all is_proper_letter letters) _ all parts.proper;
  same = ap (λ (n : ℕ). n ∷ bytes) q ∙ ap (λ (xs : List ℕ). 34 ∷ xs) e ∙ ap (λ (xs : List ℕ). 34 ∷ spell_letters letters (34 ∷ xs)) parts.same;
}
with_text byte bytes q (unclosed letters tail all t e) = record {
  pieces = [];
  end = open_text letters tail all t;
  proper = refl;
  same = ap (λ (n : ℕ). n ∷ bytes) q ∙ ap (λ (xs : List ℕ). 34 ∷ xs) e;
}

by_kind : (byte : ℕ) (bytes : List ℕ) → KindIs byte → Parts bytes → After bytes → Parts (byte ∷ bytes)
by_kind byte bytes (for_space e) parts behind = with_mark byte bytes (space byte) parts (λ ps all. and_from (is_space byte) _ e all) (λ ps rest. refl)
by_kind byte bytes (for_left e) parts behind = with_mark byte bytes left parts (λ ps all. all) (λ ps rest. ap (λ (n : ℕ). n ∷ spell ps rest) e)
by_kind byte bytes (for_right e) parts behind = with_mark byte bytes right parts (λ ps all. all) (λ ps rest. ap (λ (n : ℕ). n ∷ spell ps rest) e)
by_kind byte bytes (for_comma e) parts behind = with_mark byte bytes comma parts (λ ps all. all) (λ ps rest. ap (λ (n : ℕ). n ∷ spell ps rest) e)
by_kind byte bytes (for_quote e) parts behind = with_text byte bytes e behind
by_kind byte bytes (for_word e) parts behind = with_word_byte byte bytes parts.pieces parts.end e parts.proper parts.same

plain_letter : (byte : ℕ) (bytes : List ℕ) → (byte == 34) ≡ false → (byte == 92) ≡ false → After bytes → After (byte ∷ bytes)
plain_letter byte bytes p q (closed letters rest all e parts) = closed (plain byte ∷ letters) rest (and_from (not (is_escaped byte)) _ (neither (byte == 34) (byte == 92) p q) all) (ap (λ (xs : List ℕ). byte ∷ xs) e) parts
plain_letter byte bytes p q (unclosed letters tail all t e) = unclosed (plain byte ∷ letters) tail (and_from (not (is_escaped byte)) _ (neither (byte == 34) (byte == 92) p q) all) t (ap (λ (xs : List ℕ). byte ∷ xs) e)

pair_letter : (byte : ℕ) (bytes : List ℕ) → After bytes → After (92 ∷ byte ∷ bytes)
pair_letter byte bytes (closed letters rest all e parts) = closed (pair byte ∷ letters) rest all (ap (λ (xs : List ℕ). 92 ∷ byte ∷ xs) e) parts
pair_letter byte bytes (unclosed letters tail all t e) = unclosed (pair byte ∷ letters) tail all t (ap (λ (xs : List ℕ). 92 ∷ byte ∷ xs) e)

by_letter : (quote backslash : Bool) (byte : ℕ) (bytes : List ℕ) → (byte == 34) ≡ quote → (byte == 92) ≡ backslash → Parts bytes → After bytes → After (92 ∷ bytes) → After (byte ∷ bytes)
by_letter true backslash byte bytes p q parts plainly paired = closed [] bytes refl (ap (λ (n : ℕ). n ∷ bytes) (eqb-true byte 34 p)) parts
by_letter false true byte bytes p q parts plainly paired = subst (λ (n : ℕ). After (n ∷ bytes)) (sym (eqb-true byte 92 q)) paired
by_letter false false byte bytes p q parts plainly paired = plain_letter byte bytes p q plainly

mutual
  parts_of : (bytes : List ℕ) → Parts bytes
  parts_of [] = record { pieces = []; end = done; proper = refl; same = refl }
  parts_of (byte ∷ bytes) = by_kind byte bytes (kind_is byte) (parts_of bytes) (text_of bytes)

  text_of : (bytes : List ℕ) → After bytes
  text_of [] = unclosed [] [] refl (inl refl) refl
  text_of (byte ∷ bytes) = by_letter (byte == 34) (byte == 92) byte bytes refl refl (parts_of bytes) (text_of bytes) (pair_of bytes)

  pair_of : (bytes : List ℕ) → After (92 ∷ bytes)
  pair_of [] = unclosed [] (92 ∷ []) refl (inr refl) refl
  pair_of (byte ∷ bytes) = pair_letter byte bytes (text_of bytes)

read_by : (bytes : List ℕ) (tokens : List Token) (pieces : List Piece) (end : Ending) → file_tokens bytes ≡ Ok tokens → are_proper pieces ≡ true → bytes ≡ spell pieces (ending end) → IsRowOf bytes tokens
read_by bytes tokens pieces done h all e =
    let found = ap file_tokens e ∙ spelled_tokens pieces all in
    record { pieces = pieces; proper = all; same = e; tokens_are = cc (h, found) }
read_by bytes tokens pieces (open_text letters tail proper t) h all e = let found = ap file_tokens e ∙ cut_fault pieces letters tail all proper t in absurd (cc (h, found))

-- a file with tokens is a row of pieces
pub pieces_of : (bytes : List ℕ) (tokens : List Token) → file_tokens bytes ≡ Ok tokens → IsRowOf bytes tokens
pieces_of bytes tokens h = let parts = parts_of bytes in read_by bytes tokens parts.pieces parts.end h parts.proper parts.same

refused_by : (bytes : List ℕ) (place : ℕ) (pieces : List Piece) (end : Ending) → file_tokens bytes ≡ Err (Unclosed place) → are_proper pieces ≡ true → bytes ≡ spell pieces (ending end) → IsCutAt bytes place
refused_by bytes place pieces done h all e = let found = ap file_tokens e ∙ spelled_tokens pieces all in absurd (cc (h, found))
refused_by bytes place pieces (open_text letters tail proper t) h all e =
    let found = ap file_tokens e ∙ cut_fault pieces letters tail all proper t in
    record { pieces = pieces; proper = all; letters = letters; proper_letters = proper; tail = tail; tail_is = t; same = e; place_is = cc (h, found) }

-- a file that is refused has pieces up to the text that isn't closed
pub pieces_before : (bytes : List ℕ) (place : ℕ) → file_tokens bytes ≡ Err (Unclosed place) → IsCutAt bytes place
pieces_before bytes place h = let parts = parts_of bytes in refused_by bytes place parts.pieces parts.end h parts.proper parts.same
