-- The text of lines: one line more, and the lines that it is read as.
use Rattle.std.proofs.Common.{◌≡◌, ℕ, ◌+◌, ◌<◌, Bool, true, false, eqb, List, [], ◌∷◌, ◌++◌, length, map, take, get_or, refl, sym, ◌∙◌, ap, append_assoc}
use Rattle.std.specs.Prelude.{not, if◌then◌else◌}
use Rattle.std.specs.List.{list_all, onto_first}
use Rattle.std.specs.Fmt.{decimal}
use Rattle.std.proofs.lemmas.Bool.{eqb-true, and_from, and_parts, true≢false}
use Rattle.std.proofs.lemmas.List.{map_more}
use Rattle.spiel_save.specs.Lines.{lines_of, lines_text}

-- ---- one line more

lines_text_more : (lines : List (List ℕ)) (line : List ℕ) → lines_text (lines ++ line ∷ []) ≡ lines_text lines ++ (line ++ 10 ∷ [])
lines_text_more [] line = refl
lines_text_more (first ∷ lines) line =
    ap (λ (text : List ℕ). first ++ 10 ∷ text) (lines_text_more lines line) ∙ sym (append_assoc first (10 ∷ lines_text lines) (line ++ 10 ∷ []))

-- the line of one number more
pub number_added : (numbers : List ℕ) (k : ℕ) (old now wrote new : List ℕ) → k < length numbers
    → now ≡ old ++ lines_text (map decimal (take k numbers)) → wrote ≡ now ++ decimal (get_or numbers k 0) → new ≡ wrote ++ 10 ∷ []
    → new ≡ old ++ lines_text (map decimal (take (k + 1) numbers))
number_added numbers k old now wrote new within before number feed =
    let texts = map decimal (take k numbers) in
    let line = decimal (get_or numbers k 0) in
    feed
    ∙ ap (λ (text : List ℕ). text ++ 10 ∷ []) (number ∙ ap (λ (text : List ℕ). text ++ line) before)
    ∙ append_assoc (old ++ lines_text texts) line (10 ∷ [])
    ∙ append_assoc old (lines_text texts) (line ++ 10 ∷ [])
    ∙ ap (λ (text : List ℕ). old ++ text) (sym (lines_text_more texts line) ∙ ap lines_text (sym (map_more decimal numbers k 0 within)))

-- ---- bytes that aren't one byte

pub is_other : (byte other : ℕ) (p : ℕ → Bool) → p byte ≡ true → p other ≡ false → not (eqb byte other) ≡ true
is_other byte other p passes fails = go (eqb byte other) refl
  where
    go : (b : Bool) → eqb byte other ≡ b → not b ≡ true
    go true e = absurd (true≢false (sym passes ∙ ap p (eqb-true byte other e) ∙ fails))
    go false e = refl

-- no line feed in the bytes
abbrev pub is_plain : List ℕ → Bool
is_plain bytes = list_all (λ byte. not (eqb byte 10)) bytes

pub plain_by : (bytes : List ℕ) (p : ℕ → Bool) → p 10 ≡ false → list_all p bytes ≡ true → is_plain bytes ≡ true
plain_by [] p fails all = refl
plain_by (byte ∷ bytes) p fails all =
    let parts = and_parts (p byte) _ all in and_from (not (eqb byte 10)) _ (is_other byte 10 p parts.0 fails) (plain_by bytes p fails parts.1)

-- ---- what is read of the text of lines

one_byte : (feed : Bool) (byte : ℕ) (line rest : List ℕ) (lines : List (List ℕ)) → not feed ≡ true → lines_of rest ≡ line ∷ lines
    → (if feed then [] ∷ lines_of rest else onto_first byte (lines_of rest)) ≡ (byte ∷ line) ∷ lines
one_byte true byte line rest lines none e = absurd (true≢false (sym none))
one_byte false byte line rest lines none e = ap (onto_first byte) e

first_of_text : (line rest : List ℕ) → is_plain line ≡ true → lines_of (line ++ 10 ∷ rest) ≡ line ∷ lines_of rest
first_of_text [] rest plain = refl
first_of_text (byte ∷ line) rest plain =
    let parts = and_parts (not (eqb byte 10)) _ plain in
    one_byte (eqb byte 10) byte line (line ++ 10 ∷ rest) (lines_of rest) parts.0 (first_of_text line rest parts.1)

pub lines_back : (lines : List (List ℕ)) → list_all is_plain lines ≡ true → lines_of (lines_text lines) ≡ lines
lines_back [] plain = refl
lines_back (line ∷ lines) plain =
    let parts = and_parts (is_plain line) _ plain in
    first_of_text line (lines_text lines) parts.0 ∙ ap (λ (more : List (List ℕ)). line ∷ more) (lines_back lines parts.1)
