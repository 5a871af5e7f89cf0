-- The value of a text by its parts, and a fraction that is written and read.
use Rattle.std.proofs.Common.{◌≡◌, ◌<◌, ◌+◌, ◌^◌, ℕ, Bool, true, false, eqb, List, [], ◌∷◌, ◌++◌, length, Some, None, Result, Ok, Err, inl, inr, refl, sym, ap, ◌∙◌, arith, Option, None}
use Rattle.std.specs.Prelude.{if◌then◌else◌, ℤ, pos, negsuc, unsigned_abs, ◌↔◌}
use Rattle.std.specs.Fmt.{decimal, signed_decimal}
use Rattle.std.specs.Option.{ok_or}
use Rattle.std.proofs.Math.Nat.{div-one, mul-one}
use Rattle.std.proofs.lemmas.Bool.{and_from, le-leb, lt-ltb}
use Rattle.std.proofs.lemmas.Bool.Decides.{eqb_tells}
use Rattle.std.proofs.lemmas.List.{append-nil}
use Rattle.spiel_frac.specs.Fraction.{Fraction, IsLowest, frac_text, greatest_common_divisor, lowest_terms, quotient, signed_as}
use Rattle.spiel_frac.specs.Spelling.{Sign, absent, minus, whole, without, Size, ratio, scaled, Number, Spells, spell, is_size}
use Rattle.spiel_frac.specs.Cuts.{cut}
use Rattle.spiel_frac.specs.Reading.{HasShortParts, behind_sign, frac_of, reading, scaled_of, sign_of, size_by, size_fraction, size_of, value_or_shape}
use Rattle.spiel_frac.specs.Values.{fraction_of, is_minus, is_short, signed, size_value, value_of}
use Rattle.spiel_frac.specs.declared.fault.BadNumber.{BadNumber}
use Rattle.spiel_frac.specs.declared.fault.BadNumber.TheVariants.{Shape, Digits, ZeroDenominator}
use Rattle.spiel_frac.proofs.Cuts.{same_by}
use Rattle.spiel_frac.proofs.Divisors.{greatest_common_divisor-is}
use Rattle.spiel_frac.proofs.Quotients.{quotient-fits}
use Rattle.spiel_frac.proofs.Numerals.{decimal-are_digits, decimal_digits, decimal_some, decimal_short, decimal_value}
use Rattle.spiel_frac.proofs.Spelled.{Spells-reading, reading-Spells}

-- ---- the value by the parts

value_by : (test : Bool) (n : Number) → value_or_shape (if test then Some n else None) ≡ (if test then value_of n else Err Shape)
value_by true n = refl
value_by false n = refl

pub frac_of-parts : (text : List ℕ) → size_fraction (is_minus (sign_of text)) (size_of (behind_sign text)) ≡ frac_of text
unfolding frac_of reading
frac_of-parts text = sym (value_by (is_size (size_of (behind_sign text))) (record { sign = sign_of text; size = size_of (behind_sign text) }))

pub frac_of-ratio : (r : Result Fraction BadNumber) (text size above below : List ℕ) (negative : Bool) → negative ≡ is_minus (sign_of text) → size ≡ behind_sign text
    → cut 47 size ≡ Some (above, below) → r ≡ size_fraction negative (ratio above below) → r ≡ frac_of text
frac_of-ratio r text size above below negative n s found e =
    e ∙ ap (λ (b : Bool). size_fraction b (ratio above below)) n
    ∙ ap (size_fraction (is_minus (sign_of text))) (sym (ap (size_by size) found) ∙ ap size_of s)
    ∙ frac_of-parts text

pub frac_of-scaled : (r : Result Fraction BadNumber) (text size : List ℕ) (negative : Bool) → negative ≡ is_minus (sign_of text) → size ≡ behind_sign text
    → cut 47 size ≡ None → r ≡ size_fraction negative (scaled_of size) → r ≡ frac_of text
frac_of-scaled r text size negative n s found e =
    e ∙ ap (λ (b : Bool). size_fraction b (scaled_of size)) n
    ∙ ap (size_fraction (is_minus (sign_of text))) (sym (ap (size_by size) found) ∙ ap size_of s)
    ∙ frac_of-parts text

-- ---- the value of a spelling

frac_of-spelled : (text : List ℕ) (n : Number) → Spells n text → frac_of text ≡ value_of n
unfolding frac_of
frac_of-spelled text n h = ap value_or_shape (Spells-reading text n h)

pub spelled-is : (r : Result Fraction BadNumber) (text : List ℕ) → r ≡ frac_of text → (n : Number) → Spells n text → r ≡ value_of n
spelled-is r text value n h = value ∙ frac_of-spelled text n h

answer_by : (q : Option Fraction) → ok_or {E = BadNumber} q Digits ≡ Err Shape → ⊥
answer_by None e = cc
answer_by (Some f) e = cc

fraction_by_zero : (is_zero : Bool) (q : Option Fraction) → (if is_zero then Err ZeroDenominator else ok_or {E = BadNumber} q Digits) ≡ Err Shape → ⊥
fraction_by_zero true q e = cc
fraction_by_zero false q e = answer_by q e

value_by_length : (short : Bool) (r : Result Fraction BadNumber) → (r ≡ Err Shape → ⊥) → (if short then r else Err Digits) ≡ Err Shape → ⊥
value_by_length true r never e = never e
value_by_length false r never e = cc

-- no number of the grammar has the fault of a text that is none
value_has_shape : (n : Number) → value_of n ≡ Err Shape → ⊥
value_has_shape n e =
    value_by_length (is_short n.size) (fraction_of (is_minus n.sign) (size_value n.size))
    (fraction_by_zero (eqb (size_value n.size).1 0) (quotient (signed (is_minus n.sign) (size_value n.size).0) (pos (size_value n.size).1))) e

unread_by : (o : Option Number) → ((n : Number) → o ≡ Some n → ⊥) → value_or_shape o ≡ Err Shape
unread_by None never = refl
unread_by (Some n) never = absurd (never n refl)

frac_of-unspelled : (text : List ℕ) → ((n : Number) → ¬ (Spells n text)) → frac_of text ≡ Err Shape
unfolding frac_of
frac_of-unspelled text none = unread_by (reading text) (λ n e. none n (reading-Spells text n e))

pub shape-is : (r : Result Fraction BadNumber) (text : List ℕ) → r ≡ frac_of text → ((r ≡ Err Shape) ↔ ((n : Number) → ¬ (Spells n text)))
shape-is r text value = (λ e n h. value_has_shape n (sym (spelled-is r text value n h) ∙ e), λ none. value ∙ frac_of-unspelled text none)

-- ---- what is written of a fraction

signed_as-same : (num : ℤ) (den : ℕ) → signed_as num (pos den) (unsigned_abs num) ≡ num
signed_as-same (pos n) den = refl
signed_as-same (negsuc n) den = refl

-- in lowest terms already
lowest_terms-same : (f : Fraction) → IsLowest f → lowest_terms f.num (pos f.den) ≡ f
unfolding lowest_terms
lowest_terms-same f low =
    let one : greatest_common_divisor (unsigned_abs f.num) f.den ≡ 1 = sym (greatest_common_divisor-is (unsigned_abs f.num) f.den 1 low.lowest) in
    rw (one, div-one (unsigned_abs f.num), div-one f.den, signed_as-same f.num f.den) refl

nonzero : (d : ℕ) → 0 < d → pos d ≡ pos 0 → ⊥
nonzero d h e = let none : d ≡ 0 = ap unsigned_abs e in omega arith

quotient-same : (f : Fraction) → IsLowest f → quotient f.num (pos f.den) ≡ Some f
quotient-same f low = quotient-fits f.num (pos f.den) (nonzero f.den low.positive) low.num_fits low.den_fits ∙ ap (λ (g : Fraction). Some g) (lowest_terms-same f low)

fraction_by : (f : Fraction) (negative : Bool) (top bottom : ℕ) → IsLowest f → signed negative top ≡ f.num → bottom ≡ f.den → fraction_of negative (top, bottom) ≡ Ok f
fraction_by f negative top bottom low n d =
    let some : eqb f.den 0 ≡ false = elim (eqb_tells f.den 0) [ inl e ↦ absurd (let positive = low.positive in let none = e.1 in omega arith) | inr e ↦ e.0 ] in
    rw (n, d, some, quotient-same f low) refl

-- the sign and the size of a whole number
abbrev sign_as : ℤ → Sign
sign_as (pos n) = absent
sign_as (negsuc n) = minus

signed-same : (z : ℤ) → signed (is_minus (sign_as z)) (unsigned_abs z) ≡ z
signed-same (pos n) = refl
signed-same (negsuc n) = refl

-- the number that is written
abbrev written_size : Bool → ℕ → ℕ → Size
written_size true top bottom = scaled (whole (decimal top)) without
written_size false top bottom = ratio (decimal top) (decimal bottom)

abbrev written : Fraction → Number
written f = record { sign = sign_as f.num; size = written_size (eqb f.den 1) (unsigned_abs f.num) f.den }

spelled_by : (is_whole : Bool) (num : ℤ) (bottom : ℕ)
    → signed_decimal num ++ (if is_whole then [] else 47 ∷ [] ++ decimal bottom) ≡ spell (record { sign = sign_as num; size = written_size is_whole (unsigned_abs num) bottom })
spelled_by true (pos n) bottom = refl
spelled_by true (negsuc n) bottom = refl
spelled_by false (pos n) bottom = refl
spelled_by false (negsuc n) bottom = refl

written_digits : (is_whole : Bool) (top bottom : ℕ) → top < 2 ^ 64 → bottom < 2 ^ 64 → is_size (written_size is_whole top bottom) ≡ true
written_digits true top bottom h k =
    let some = decimal_some top h in
    and_from _ _ (and_from _ _ (lt-ltb 0 (length (decimal top) + 0) (omega (arith, some))) (and_from _ _ (decimal_digits top h) refl)) refl
written_digits false top bottom h k = and_from _ _ (decimal-are_digits top h) (decimal-are_digits bottom k)

written_short : (is_whole : Bool) (top bottom : ℕ) → top < 10 ^ 18 → bottom < 10 ^ 18 → is_short (written_size is_whole top bottom) ≡ true
written_short true top bottom h k = and_from _ _ (and_from _ _ (le-leb _ 18 (decimal_short top h)) refl) refl
written_short false top bottom h k = and_from _ _ (le-leb _ 18 (decimal_short top h)) (le-leb _ 18 (decimal_short bottom k))

-- its numerator and denominator
written_value : (is_whole : Bool) (top bottom : ℕ) → top < 2 ^ 64 → bottom < 2 ^ 64 → (is_whole ≡ true → bottom ≡ 1) → size_value (written_size is_whole top bottom) ≡ (top, bottom)
written_value true top bottom h k one = rw (append-nil (decimal top), decimal_value top h, one refl) (ap (λ (x : ℕ). (x, 1)) (mul-one top))
written_value false top bottom h k one = rw (decimal_value top h, decimal_value bottom k) refl

frac_of-written : (f : Fraction) → IsLowest f → HasShortParts f → frac_of (frac_text f) ≡ Ok f
unfolding frac_of
frac_of-written f low short =
    let n = written f in
    let top : unsigned_abs f.num < 2 ^ 64 = omega (arith, short.num) in
    let bottom : f.den < 2 ^ 64 = omega (arith, short.den) in
    let spells : Spells n (frac_text f) = record { digits = written_digits (eqb f.den 1) (unsigned_abs f.num) f.den top bottom; same = spelled_by (eqb f.den 1) f.num f.den } in
    ap value_or_shape (Spells-reading (frac_text f) n spells)
    ∙ rw (written_short (eqb f.den 1) (unsigned_abs f.num) f.den short.num short.den, written_value (eqb f.den 1) (unsigned_abs f.num) f.den top bottom (same_by f.den 1))
    (fraction_by f (is_minus (sign_as f.num)) (unsigned_abs f.num) f.den low (signed-same f.num) refl)

-- a fraction that was written is read
pub frac_of-frac_text : (r : Result Fraction BadNumber) (text : List ℕ) (f : Fraction) → r ≡ frac_of text → IsLowest f → HasShortParts f → text ≡ frac_text f → r ≡ Ok f
frac_of-frac_text r text f value low short same = value ∙ ap frac_of same ∙ frac_of-written f low short
