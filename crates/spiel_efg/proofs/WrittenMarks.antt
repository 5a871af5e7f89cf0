-- Which tokens stand in bytes that are written piece by piece, and what they say.
use Rattle.std.proofs.Common.{◌≡◌, ◌+◌, ℕ, true, false, List, [], ◌∷◌, ◌++◌, length, map, refl, sym, ap, ◌∙◌, arith, append_assoc, append-nil, length-append, Option, Some, None}
use Rattle.spiel_string.specs.Cutting.{after}
use Rattle.spiel_string.specs.Quoting.{escaped, quoted}
use Rattle.spiel_string.specs.Tokens.{Found, all_or_fault, begins_word, file_tokens, is_of_word, is_space, is_token_word, tokens_from}
use Rattle.spiel_string.specs.declared.token.Token.{Token}
use Rattle.spiel_string.specs.declared.token.Token.TheVariants.{Word, Quote, Left, Right, Comma}
use Rattle.spiel_string.proofs.TokenSteps.{comma_first, comma_kind, left_first, left_kind, no_tokens, right_first, right_kind, space_first, space_kind, word_piece}
use Rattle.spiel_string.proofs.Quoted.{quoted_text, quoted_token, word_text}
use Rattle.spiel_efg.specs.Reading.{with_tokens, parts_at}
use Rattle.spiel_efg.specs.ReadingTokens.{Mark, word_mark, text_mark, left_mark, right_mark, comma_mark, mark_of}

-- ---- what is found from a place on
-- what tokens of a file say, and whether a text isn't closed
abbrev pub told : List ℕ → Found → List Mark × Option ℕ
told file found = (map (mark_of file) found.tokens, found.unclosed)

-- the same of the tokens behind these bytes
abbrev pub scan : List ℕ → List ℕ → List Mark × Option ℕ
scan before rest = told (before ++ rest) (tokens_from (length before) rest)

abbrev pub put : List Mark → List Mark × Option ℕ → List Mark × Option ℕ
put marks found = (marks ++ found.0, found.1)

-- bytes whose tokens say this, where no word goes on behind them
abbrev pub IsMarked : List ℕ → List Mark → Type 0
IsMarked bytes marks = (before rest : List ℕ) → begins_word rest ≡ false → scan before (bytes ++ rest) ≡ put marks (scan (before ++ bytes) rest)

-- the same whatever stands behind them
abbrev pub IsMarkedLine : List ℕ → List Mark → Type 0
IsMarkedLine bytes marks = (before rest : List ℕ) → scan before (bytes ++ rest) ≡ put marks (scan (before ++ bytes) rest)

-- no word begins with these bytes
abbrev pub Starts : List ℕ → Type 0
Starts bytes = (rest : List ℕ) → begins_word rest ≡ false → begins_word (bytes ++ rest) ≡ false

-- ---- one token
map_append : (f : Token → Mark) (xs ys : List Token) → map f (xs ++ ys) ≡ map f xs ++ map f ys
map_append f [] ys = refl
map_append f (x ∷ xs) ys = ap (λ more. f x ∷ more) (map_append f xs ys)

told_after : (file : List ℕ) (tokens : List Token) (found : Found) → told file (after tokens found) ≡ put (map (mark_of file) tokens) (told file found)
told_after file tokens found =
    let pair : List Mark → List Mark × Option ℕ = λ marks. (marks, found.unclosed) in
    ap pair (map_append (mark_of file) tokens found.tokens)

moved : (before piece rest : List ℕ) (n : ℕ) (tokens : List Token) → n ≡ length before + length piece → tokens_from (length before) (piece ++ rest) ≡ after tokens (tokens_from n rest)
    → scan before (piece ++ rest) ≡ put (map (mark_of (before ++ (piece ++ rest))) tokens) (scan (before ++ piece) rest)
moved before piece rest n tokens e h =
    let at : n ≡ length (before ++ piece) = omega (arith, e, length-append before piece) in
    let file : before ++ (piece ++ rest) ≡ (before ++ piece) ++ rest = sym (append_assoc before piece rest) in
    ap (told (before ++ (piece ++ rest))) (h ∙ ap (λ (m : ℕ). after tokens (tokens_from m rest)) at)
    ∙ told_after (before ++ (piece ++ rest)) tokens (tokens_from (length (before ++ piece)) rest)
    ∙ ap (λ (bytes : List ℕ). put (map (mark_of (before ++ (piece ++ rest))) tokens) (told bytes (tokens_from (length (before ++ piece)) rest))) file

pub space_line : (byte : ℕ) → is_space byte ≡ true → IsMarkedLine (byte ∷ []) []
space_line byte e before rest = moved before (byte ∷ []) rest (length before + 1) [] refl (space_first (length before) byte rest (space_kind byte e))

pub left_line : IsMarkedLine (123 ∷ []) (left_mark ∷ [])
left_line before rest = moved before (123 ∷ []) rest (length before + 1) (Left ∷ []) refl (left_first (length before) 123 rest left_kind)

pub right_line : IsMarkedLine (125 ∷ []) (right_mark ∷ [])
right_line before rest = moved before (125 ∷ []) rest (length before + 1) (Right ∷ []) refl (right_first (length before) 125 rest right_kind)

pub comma_line : IsMarkedLine (44 ∷ []) (comma_mark ∷ [])
comma_line before rest = moved before (44 ∷ []) rest (length before + 1) (Comma ∷ []) refl (comma_first (length before) 44 rest comma_kind)

pub word_marked : (word : List ℕ) → is_token_word word ≡ true → IsMarked word (word_mark word ∷ [])
word_marked word e before rest none =
    moved before word rest (length before + length word) (Word (length before) (length before + length word) ∷ []) refl (word_piece word rest (length before) e none)
    ∙ ap (λ (said : List ℕ). put (word_mark said ∷ []) (scan (before ++ word) rest)) (word_text before word rest)

pub text_line : (text : List ℕ) → IsMarkedLine (quoted text) (text_mark text ∷ [])
text_line text before rest =
    moved before (quoted text) rest (length before + length (quoted text)) (Quote (length before + 1) (length before + 1 + length (escaped text)) ∷ []) refl (quoted_token text (length before) rest)
    ∙ ap (λ (said : List ℕ). put (text_mark said ∷ []) (scan (before ++ quoted text) rest)) (quoted_text before text rest)

-- ---- one behind another
put_put : (ms ns : List Mark) (found : List Mark × Option ℕ) → put ms (put ns found) ≡ put (ms ++ ns) found
put_put ms ns found =
    let pair : List Mark → List Mark × Option ℕ = λ marks. (marks, found.1) in
    ap pair (sym (append_assoc ms ns found.0))

pub joined_at : (a b : List ℕ) (ms ns : List Mark) (before rest : List ℕ) → scan before (a ++ (b ++ rest)) ≡ put ms (scan (before ++ a) (b ++ rest)) → scan (before ++ a) (b ++ rest) ≡ put ns (scan ((before ++ a) ++ b) rest)
    → scan before ((a ++ b) ++ rest) ≡ put (ms ++ ns) (scan (before ++ (a ++ b)) rest)
joined_at a b ms ns before rest one two =
    ap (scan before) (append_assoc a b rest) ∙ one ∙ ap (put ms) two ∙ put_put ms ns (scan ((before ++ a) ++ b) rest)
    ∙ ap (λ (bytes : List ℕ). put (ms ++ ns) (scan bytes rest)) (append_assoc before a b)

pub join : (a b : List ℕ) (ms ns : List Mark) → IsMarked a ms → Starts b → IsMarked b ns → IsMarked (a ++ b) (ms ++ ns)
join a b ms ns one starts two before rest none = joined_at a b ms ns before rest (one before (b ++ rest) (starts rest none)) (two (before ++ a) rest none)

pub line_then : (a b : List ℕ) (ms ns : List Mark) → IsMarkedLine a ms → IsMarked b ns → IsMarked (a ++ b) (ms ++ ns)
line_then a b ms ns one two before rest none = joined_at a b ms ns before rest (one before (b ++ rest)) (two (before ++ a) rest none)

pub lines_join : (a b : List ℕ) (ms ns : List Mark) → IsMarkedLine a ms → IsMarkedLine b ns → IsMarkedLine (a ++ b) (ms ++ ns)
lines_join a b ms ns one two before rest = joined_at a b ms ns before rest (one before (b ++ rest)) (two (before ++ a) rest)

-- what ends in white space is a line
pub line_of : (a : List ℕ) (ms : List Mark) (byte : ℕ) → is_space byte ≡ true → IsMarked a ms → IsMarkedLine (a ++ byte ∷ []) (ms ++ [])
line_of a ms byte e one before rest =
    joined_at a (byte ∷ []) ms [] before rest (one before (byte ∷ rest) (ap is_of_word (space_kind byte e))) (space_line byte e (before ++ a) rest)

pub as_marked : (a : List ℕ) (ms : List Mark) → IsMarkedLine a ms → IsMarked a ms
as_marked a ms line before rest none = line before rest

pub no_marks : IsMarked [] []
no_marks before rest none = ap (λ (bytes : List ℕ). scan bytes rest) (sym (append-nil before))

pub no_lines : IsMarkedLine [] []
no_lines before rest = ap (λ (bytes : List ℕ). scan bytes rest) (sym (append-nil before))

pub starts_space : (bytes : List ℕ) → Starts (32 ∷ bytes)
starts_space bytes rest none = ap is_of_word (space_kind 32 refl)

-- ---- a whole file
by_parts : (bytes : List ℕ) (marks : List Mark) (tokens : List Token) (unclosed : Option ℕ) → map (mark_of bytes) tokens ≡ marks → unclosed ≡ None
    → with_tokens bytes (all_or_fault tokens unclosed) ≡ parts_at (record { before = 0; marks = marks })
by_parts bytes marks tokens None e f = ap (λ (ms : List Mark). parts_at (record { before = 0; marks = ms })) e
by_parts bytes marks tokens (Some opened) e f = cc

by_found : (bytes : List ℕ) (marks : List Mark) (found : Found) → told bytes found ≡ (marks, None) → with_tokens bytes (all_or_fault found.tokens found.unclosed) ≡ parts_at (record { before = 0; marks = marks })
by_found bytes marks found e =
    let front : List Mark × Option ℕ → List Mark = λ p. p.0 in
    let back : List Mark × Option ℕ → Option ℕ = λ p. p.1 in
    by_parts bytes marks found.tokens found.unclosed (ap front e) (ap back e)

pub file_marks : (bytes : List ℕ) (marks : List Mark) → IsMarkedLine bytes marks → with_tokens bytes (file_tokens bytes) ≡ parts_at (record { before = 0; marks = marks })
unfolding file_tokens
file_marks bytes marks line =
    let end : scan bytes [] ≡ ([], None) = ap (told (bytes ++ [])) (no_tokens (length bytes)) in
    let pair : List Mark → List Mark × Option ℕ = λ more. (more, None) in
    let all : scan [] bytes ≡ (marks, None) = ap (scan []) (sym (append-nil bytes)) ∙ line [] [] ∙ ap (put marks) end ∙ ap pair (append-nil marks) in
    by_found bytes marks (tokens_from 0 bytes) all
