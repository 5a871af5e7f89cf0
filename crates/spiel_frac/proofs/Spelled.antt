-- A text reads as a number exactly where it is a spelling of it.
use Rattle.std.proofs.Common.{◌≡◌, ◌<◌, ◌+◌, ℕ, Bool, true, false, eqb, List, [], ◌∷◌, ◌++◌, length, Option, Some, None, refl, sym, ap, ◌∙◌, arith, append_assoc}
use Rattle.std.specs.Prelude.{◌&&◌, ◌||◌, nat_lt, if◌then◌else◌}
use Rattle.std.specs.Char.{is_ascii_digit}
use Rattle.std.specs.List.{list_all}
use Rattle.std.proofs.lemmas.Bool.{and_parts, ltb-true}
use Rattle.std.proofs.lemmas.List.{append-nil}
use Rattle.spiel_frac.specs.Spelling.{Sign, absent, plus, minus, Mantissa, whole, pointed, Exponent, without, power, Size, ratio, scaled, Number, Spells, spell, spell_sign, spell_mantissa, spell_exponent, spell_size, are_digits, is_mantissa, is_exponent, is_size}
use Rattle.spiel_frac.specs.Cuts.{cut, with_front}
use Rattle.spiel_frac.specs.Reading.{sign_of, behind_sign, mantissa_by, mantissa_of, exponent_of, scaled_by, scaled_of, size_by, size_of, reading}
use Rattle.spiel_frac.proofs.Cuts.{IsCut, cut-IsCut, same_by, with_fronts, no_mark, cut-digits}

-- ---- the parts of a text spell it

signed_by : (is_plus is_minus : Bool) (byte : ℕ) (bytes : List ℕ) → (is_plus ≡ true → byte ≡ 43) → (is_minus ≡ true → byte ≡ 45)
    → spell_sign (if is_plus then plus else (if is_minus then minus else absent)) (if is_plus || is_minus then bytes else byte ∷ bytes) ≡ byte ∷ bytes
signed_by true other byte bytes p m = ap (λ (x : ℕ). x ∷ bytes) (sym (p refl))
signed_by false true byte bytes p m = ap (λ (x : ℕ). x ∷ bytes) (sym (m refl))
signed_by false false byte bytes p m = refl

signed_back : (text : List ℕ) → spell_sign (sign_of text) (behind_sign text) ≡ text
signed_back [] = refl
signed_back (byte ∷ bytes) = signed_by (eqb byte 43) (eqb byte 45) byte bytes (same_by byte 43) (same_by byte 45)

mantissa_back_by : (text rest : List ℕ) (r : Option (List ℕ × List ℕ)) → IsCut 46 text r → spell_mantissa (mantissa_by text r) rest ≡ text ++ rest
mantissa_back_by text rest None h = refl
mantissa_back_by text rest (Some sides) h = sym (append_assoc sides.0 (46 ∷ sides.1) rest) ∙ ap (λ (xs : List ℕ). xs ++ rest) (sym h)

mantissa_back : (text rest : List ℕ) → spell_mantissa (mantissa_of text) rest ≡ text ++ rest
mantissa_back text rest = mantissa_back_by text rest (cut 46 text) (cut-IsCut 46 text)

powered_back : (text front behind : List ℕ) (letter : ℕ) → text ≡ front ++ letter ∷ behind → spell_mantissa (mantissa_of front) (letter ∷ spell_sign (sign_of behind) (behind_sign behind)) ≡ text
powered_back text front behind letter h = mantissa_back front _ ∙ ap (λ (xs : List ℕ). front ++ letter ∷ xs) (signed_back behind) ∙ sym h

scaled_back_by : (text : List ℕ) (small large : Option (List ℕ × List ℕ)) → IsCut 101 text small → IsCut 69 text large → spell_size (scaled_by text small large) ≡ text
scaled_back_by text (Some small) large h k = powered_back text small.0 small.1 101 h
scaled_back_by text None (Some large) h k = powered_back text large.0 large.1 69 k
scaled_back_by text None None h k = mantissa_back text [] ∙ append-nil text

size_back_by : (text : List ℕ) (r : Option (List ℕ × List ℕ)) → IsCut 47 text r → spell_size (size_by text r) ≡ text
size_back_by text None h = scaled_back_by text (cut 101 text) (cut 69 text) (cut-IsCut 101 text) (cut-IsCut 69 text)
size_back_by text (Some sides) h = sym h

text_back : (text : List ℕ) → text ≡ spell_sign (sign_of text) (spell_size (size_of (behind_sign text)))
text_back text =
    sym (ap (spell_sign (sign_of text)) (size_back_by (behind_sign text) (cut 47 (behind_sign text)) (cut-IsCut 47 (behind_sign text))) ∙ signed_back text)

read_by : (test : Bool) (m n : Number) → (if test then Some m else None) ≡ Some n → (test ≡ true) × (m ≡ n)
read_by true m n e = (refl, cc)
read_by false m n e = let none : ⊥ = cc in absurd none

pub reading-Spells : (text : List ℕ) (n : Number) → reading text ≡ Some n → Spells n text
unfolding reading
reading-Spells text n e =
    let m : Number = record { sign = sign_of text; size = size_of (behind_sign text) } in
    let found = read_by (is_size m.size) m n e in
    record { digits = ap (λ (k : Number). is_size k.size) (sym found.1) ∙ found.0; same = text_back text ∙ ap spell found.1 }

-- ---- the parts of a spelling are those of its number

-- the bytes don't begin with a sign
abbrev IsUnsigned : List ℕ → Type 0
IsUnsigned text = (sign_of text ≡ absent) × (behind_sign text ≡ text)

unsigned_byte : (byte : ℕ) (bytes : List ℕ) → eqb byte 43 ≡ false → eqb byte 45 ≡ false → IsUnsigned (byte ∷ bytes)
unsigned_byte byte bytes p m = rw (p, m) (refl, refl)

unsigned_digits : (digits rest : List ℕ) → 0 < length digits → list_all is_ascii_digit digits ≡ true → IsUnsigned (digits ++ rest)
unsigned_digits [] rest some d = absurd (omega arith)
unsigned_digits (digit ∷ digits) rest some d =
    let parts = and_parts _ _ d in
    unsigned_byte digit (digits ++ rest) (no_mark 43 digit refl parts.0) (no_mark 45 digit refl parts.0)

are_digits-parts : (digits : List ℕ) → are_digits digits ≡ true → (0 < length digits) × (list_all is_ascii_digit digits ≡ true)
are_digits-parts digits h = let parts = and_parts _ _ h in (ltb-true 0 (length digits) parts.0, parts.1)

unsigned_mantissa : (mantissa : Mantissa) (rest : List ℕ) → is_mantissa mantissa ≡ true → IsUnsigned (spell_mantissa mantissa rest)
unsigned_mantissa (whole digits) rest h =
    let parts = and_parts (nat_lt 0 (length digits + 0)) (list_all is_ascii_digit digits && true) h in
    let some = ltb-true 0 (length digits + 0) parts.0 in
    unsigned_digits digits rest (omega (arith, some)) (and_parts (list_all is_ascii_digit digits) true parts.1).0
unsigned_mantissa (pointed [] places) rest h = unsigned_byte 46 (places ++ rest) refl refl
unsigned_mantissa (pointed (digit ∷ digits) places) rest h =
    unsigned_digits (digit ∷ digits) (46 ∷ (places ++ rest)) (omega arith) (and_parts _ _ (and_parts _ _ h).1).0

unsigned_size : (size : Size) → is_size size ≡ true → IsUnsigned (spell_size size)
unsigned_size (ratio above below) h = let digits = are_digits-parts above (and_parts _ _ h).0 in unsigned_digits above (47 ∷ below) digits.0 digits.1
unsigned_size (scaled mantissa exponent) h = unsigned_mantissa mantissa (spell_exponent exponent) (and_parts _ _ h).0

sign_again : (sign : Sign) (rest : List ℕ) → IsUnsigned rest → (sign_of (spell_sign sign rest) ≡ sign) × (behind_sign (spell_sign sign rest) ≡ rest)
sign_again absent rest h = h
sign_again plus rest h = (refl, refl)
sign_again minus rest h = (refl, refl)

-- what is no digit, no sign and no point
record IsMark (mark : ℕ) : Type 0 where
  no_digit : is_ascii_digit mark ≡ false
  no_plus : eqb 43 mark ≡ false
  no_minus : eqb 45 mark ≡ false
  no_point : eqb 46 mark ≡ false

slash : IsMark 47
slash = record { no_digit = refl; no_plus = refl; no_minus = refl; no_point = refl }

small_e : IsMark 101
small_e = record { no_digit = refl; no_plus = refl; no_minus = refl; no_point = refl }

large_e : IsMark 69
large_e = record { no_digit = refl; no_plus = refl; no_minus = refl; no_point = refl }

uncut_digits : (mark : ℕ) (digits : List ℕ) → is_ascii_digit mark ≡ false → list_all is_ascii_digit digits ≡ true → cut mark digits ≡ None
uncut_digits mark digits m d = sym (ap (cut mark) (append-nil digits)) ∙ cut-digits mark digits [] m d

uncut_signed : (mark : ℕ) → IsMark mark → (sign : Sign) (digits : List ℕ) → list_all is_ascii_digit digits ≡ true → cut mark (spell_sign sign digits) ≡ None
uncut_signed mark is absent digits d = uncut_digits mark digits is.no_digit d
uncut_signed mark is plus digits d = rw is.no_plus (ap (with_front 43) (uncut_digits mark digits is.no_digit d))
uncut_signed mark is minus digits d = rw is.no_minus (ap (with_front 45) (uncut_digits mark digits is.no_digit d))

fronts_join : (digits places : List ℕ) (r : Option (List ℕ × List ℕ)) → with_fronts digits (with_front 46 (with_fronts places r)) ≡ with_fronts (digits ++ 46 ∷ (places ++ [])) r
fronts_join digits places None = refl
fronts_join digits places (Some sides) =
    ap (λ (xs : List ℕ). Some (xs, sides.1)) (ap (λ (ys : List ℕ). digits ++ 46 ∷ (ys ++ sides.0)) (sym (append-nil places)) ∙ sym (append_assoc digits (46 ∷ (places ++ [])) sides.0))

cut-mantissa : (mark : ℕ) → IsMark mark → (mantissa : Mantissa) (rest : List ℕ) → is_mantissa mantissa ≡ true → cut mark (spell_mantissa mantissa rest) ≡ with_fronts (spell_mantissa mantissa []) (cut mark rest)
cut-mantissa mark is (whole digits) rest h =
    let all = (and_parts _ _ (and_parts _ _ h).1).0 in
    cut-digits mark digits rest is.no_digit all ∙ ap (λ (xs : List ℕ). with_fronts xs (cut mark rest)) (sym (append-nil digits))
cut-mantissa mark is (pointed digits places) rest h =
    let all = and_parts _ _ (and_parts _ _ h).1 in
    let behind : cut mark (46 ∷ (places ++ rest)) ≡ with_front 46 (with_fronts places (cut mark rest)) = rw is.no_point (ap (with_front 46) (cut-digits mark places rest is.no_digit all.1)) in
    cut-digits mark digits (46 ∷ (places ++ rest)) is.no_digit all.0 ∙ ap (with_fronts digits) behind ∙ fronts_join digits places (cut mark rest)

mantissa_again : (mantissa : Mantissa) → is_mantissa mantissa ≡ true → mantissa_of (spell_mantissa mantissa []) ≡ mantissa
mantissa_again (whole digits) h =
    let all = (and_parts _ _ (and_parts _ _ h).1).0 in
    ap (mantissa_by (digits ++ [])) (cut-digits 46 digits [] refl all) ∙ ap whole (append-nil digits)
mantissa_again (pointed digits places) h =
    let all = (and_parts _ _ (and_parts _ _ h).1).0 in
    ap (mantissa_by (digits ++ 46 ∷ (places ++ []))) (cut-digits 46 digits (46 ∷ (places ++ [])) refl all) ∙ rw (append-nil digits, append-nil places) refl

exponent_again : (capital : Bool) (sign : Sign) (digits : List ℕ) → are_digits digits ≡ true → exponent_of capital (spell_sign sign digits) ≡ power capital sign digits
exponent_again capital sign digits h =
    let parts = are_digits-parts digits h in
    let unsigned : IsUnsigned digits = rw (append-nil digits) at (unsigned_digits digits [] parts.0 parts.1) in
    let again = sign_again sign digits unsigned in
    rw (again.0, again.1) refl

-- the mantissa that was cut off
front_again : (mantissa : Mantissa) → is_mantissa mantissa ≡ true → mantissa_of (spell_mantissa mantissa [] ++ []) ≡ mantissa
front_again mantissa h = ap mantissa_of (append-nil (spell_mantissa mantissa [])) ∙ mantissa_again mantissa h

scaled_again : (mantissa : Mantissa) (exponent : Exponent) → is_mantissa mantissa ≡ true → is_exponent exponent ≡ true → scaled_of (spell_mantissa mantissa (spell_exponent exponent)) ≡ scaled mantissa exponent
scaled_again mantissa without h k =
    rw (cut-mantissa 101 small_e mantissa [] h, cut-mantissa 69 large_e mantissa [] h) (ap (λ (m : Mantissa). scaled m without) (mantissa_again mantissa h))
scaled_again mantissa (power false sign digits) h k =
    rw (cut-mantissa 101 small_e mantissa (101 ∷ spell_sign sign digits) h, front_again mantissa h) (ap (scaled mantissa) (exponent_again false sign digits k))
scaled_again mantissa (power true sign digits) h k =
    let none : cut 101 (69 ∷ spell_sign sign digits) ≡ None = ap (with_front 69) (uncut_signed 101 small_e sign digits (are_digits-parts digits k).1) in
    rw (cut-mantissa 101 small_e mantissa (69 ∷ spell_sign sign digits) h, none, cut-mantissa 69 large_e mantissa (69 ∷ spell_sign sign digits) h, front_again mantissa h)
    (ap (scaled mantissa) (exponent_again true sign digits k))

uncut_exponent : (exponent : Exponent) → is_exponent exponent ≡ true → cut 47 (spell_exponent exponent) ≡ None
uncut_exponent without k = refl
uncut_exponent (power false sign digits) k = ap (with_front 101) (uncut_signed 47 slash sign digits (are_digits-parts digits k).1)
uncut_exponent (power true sign digits) k = ap (with_front 69) (uncut_signed 47 slash sign digits (are_digits-parts digits k).1)

size_again : (size : Size) → is_size size ≡ true → size_of (spell_size size) ≡ size
size_again (ratio above below) h =
    rw (cut-digits 47 above (47 ∷ below) refl (are_digits-parts above (and_parts _ _ h).0).1) (ap (λ (xs : List ℕ). ratio xs below) (append-nil above))
size_again (scaled mantissa exponent) h =
    let parts = and_parts _ _ h in
    rw (cut-mantissa 47 slash mantissa (spell_exponent exponent) parts.0, uncut_exponent exponent parts.1) (scaled_again mantissa exponent parts.0 parts.1)

read_again : (n : Number) (sign : Sign) (size : Size) → is_size n.size ≡ true → sign ≡ n.sign → size ≡ n.size
    → (if is_size size then Some (record { sign = sign; size = size }) else None) ≡ Some n
read_again n sign size h s z = rw (s, z, h) refl

reading-spell : (n : Number) → is_size n.size ≡ true → reading (spell n) ≡ Some n
unfolding reading
reading-spell n h =
    let signed = sign_again n.sign (spell_size n.size) (unsigned_size n.size h) in
    read_again n (sign_of (spell n)) (size_of (behind_sign (spell n))) h signed.0 (ap size_of signed.1 ∙ size_again n.size h)

pub Spells-reading : (text : List ℕ) (n : Number) → Spells n text → reading text ≡ Some n
Spells-reading text n h = ap reading h.same ∙ reading-spell n h.digits
