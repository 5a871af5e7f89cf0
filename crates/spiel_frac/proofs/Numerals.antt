-- Decimal digits: the number that they write, how `parse` reads them, and the digits of a number.
use Rattle.std.proofs.Common.{◌≡◌, ◌<◌, ◌≤◌, ◌+◌, ◌*◌, ◌^◌, ℕ, true, List, [], ◌∷◌, ◌++◌, length, Option, Some, None, Result, Ok, Err, refl, sym, ap, ◌∙◌, arith}
use Rattle.std.specs.Prelude.{◌&&◌, unwrap_or}
use Rattle.std.specs.List.{list_all}
use Rattle.std.specs.Option.{SomeIff}
use Rattle.std.specs.Result.{IsOk, MatchResult, OkIff, result_ok}
use Rattle.std.specs.Char.{is_ascii_digit, digit_value}
use Rattle.std.specs.Fmt.{decimal}
use Rattle.std.specs.Str.{IsUtf8, all_ascii_digits}
use Rattle.std.specs.Str.Parse.{ParsesUnsigned, digits_value, digits_value_after}
use Rattle.std.proofs.lemmas.Str.{IsUtf8-from_ascii}
use Rattle.std.proofs.lemmas.Str.Parse.{IsNumeralModel, numerals_by_value, tells_all_ascii_digits, parse_digits, digits_value_short}
use Rattle.std.proofs.lemmas.Fmt.{IsAscii-from_digits, digits_decimal, digits_value-decimal, decimal_nonempty, length-decimal-le}
use Rattle.std.proofs.lemmas.Bool.{and_from, lt-ltb}
use Rattle.std.proofs.Math.Nat.{le_refl, pow-suc}
use Rattle.spiel_frac.specs.Spelling.{are_digits}

by_value : IsNumeralModel (λ bytes. all_ascii_digits bytes ≡ true) (digits_value 10)
by_value = numerals_by_value (λ bytes. all_ascii_digits bytes ≡ true) tells_all_ascii_digits

all_digits : (bytes : List ℕ) → all_ascii_digits bytes ≡ list_all is_ascii_digit bytes
all_digits [] = refl
all_digits (byte ∷ bytes) = ap (λ b. is_ascii_digit byte && b) (all_digits bytes)

-- digits and their value, in the words of the definitions here
pub numerals : IsNumeralModel (λ bytes. list_all is_ascii_digit bytes ≡ true) (digits_value 10)
numerals = record {
  to = λ bytes h. by_value.to bytes (all_digits bytes ∙ h);
  from = λ bytes h. sym (all_digits bytes) ∙ by_value.from bytes h;
  same = λ bytes h. refl;
}

-- ---- `from_utf8` and `parse`

-- digits are text
pub digits_are_text : (bytes : List ℕ) → list_all is_ascii_digit bytes ≡ true → IsUtf8 bytes
digits_are_text bytes h = IsUtf8-from_ascii bytes (IsAscii-from_digits bytes (numerals.to bytes h))

-- what is text is answered as text
pub text_is_ok : {A E : Type 0} (r : Result A E) (bytes : List ℕ) (P : A → Type 0) (Q : E → Type 0) → MatchResult r P (λ e. ¬ (IsUtf8 bytes) × Q e) → IsUtf8 bytes → IsOk r
text_is_ok (Ok text) bytes P Q h utf8 = refl
text_is_ok (Err e) bytes P Q h utf8 = absurd (h.0 utf8)

-- the text has the bytes
pub text_same : {A E : Type 0} (now : A → List ℕ) (r : Result A E) (text : A) (bytes : List ℕ) (P : Type 0) (Q : E → Type 0)
    → MatchResult r (λ s. (now s ≡ bytes) × P) Q → r ≡ Ok text → now text ≡ bytes
text_same now (Ok s) text bytes P Q h e = let same : text ≡ s = cc in ap now same ∙ h.0
text_same now (Err fault) text bytes P Q h e = let none : ⊥ = cc in absurd none

ok_some : {E : Type 0} (r : Result ℕ E) (P : Type 0) (n : ℕ) → OkIff r P n → SomeIff (result_ok r) P n
ok_some (Ok x) P n h = h
ok_some (Err e) P n h = h

-- what `parse` reads of digits, as a number of so many bits
pub digits_parsed : {E : Type 0} (width : ℕ) (bytes : List ℕ) (r : Result ℕ E) → list_all is_ascii_digit bytes ≡ true → ParsesUnsigned width 10 bytes r
    → SomeIff (result_ok r) ((0 < length bytes) × (digits_value 10 bytes < 2 ^ width)) (digits_value 10 bytes)
digits_parsed width bytes r h parsed = ok_some r _ _ (parse_digits numerals width bytes r parsed h)

-- ---- up to 18 digits

-- digits write a number below ten to their count
pub digits_small : (bytes : List ℕ) → list_all is_ascii_digit bytes ≡ true → digits_value 10 bytes < 10 ^ length bytes
digits_small bytes h = digits_value_short numerals bytes (length bytes) h (le_refl _)

-- so 18 digits write one below 2^64
digits_narrow : (bytes : List ℕ) → list_all is_ascii_digit bytes ≡ true → length bytes ≤ 18 → digits_value 10 bytes < 2 ^ 64
digits_narrow bytes h short = let small = digits_value_short numerals bytes 18 h short in omega (arith, small)

-- what is parsed of them, or 0 for none, is what they write
pub short_parsed : (bytes : List ℕ) (r : Option ℕ) → list_all is_ascii_digit bytes ≡ true → length bytes ≤ 18
    → SomeIff r ((0 < length bytes) × (digits_value 10 bytes < 2 ^ 64)) (digits_value 10 bytes) → unwrap_or r 0 ≡ digits_value 10 bytes
short_parsed bytes (Some n) h short s = s.1
short_parsed [] None h short s = refl
short_parsed (byte ∷ bytes) None h short s = absurd (s (omega arith, digits_narrow (byte ∷ bytes) h short))

-- ---- digits behind digits

after-is : (n : ℕ) (ds : List ℕ) → digits_value_after 10 n ds ≡ n * 10 ^ length ds + digits_value 10 ds
after-is n [] = omega arith
after-is n (d ∷ ds) =
    let one = after-is (n * 10 + digit_value d) ds in
    let other = after-is (0 * 10 + digit_value d) ds in
    omega (arith, ap (λ x. n * x) (pow-suc 10 (length ds)))

after-append : (n : ℕ) (xs ys : List ℕ) → digits_value_after 10 n (xs ++ ys) ≡ digits_value_after 10 (digits_value_after 10 n xs) ys
after-append n [] ys = refl
after-append n (x ∷ xs) ys = after-append (n * 10 + digit_value x) xs ys

-- the first are worth as many tens as there are others
pub digits_value-append : (xs ys : List ℕ) → digits_value 10 (xs ++ ys) ≡ digits_value 10 xs * 10 ^ length ys + digits_value 10 ys
digits_value-append xs ys = after-append 0 xs ys ∙ after-is _ ys

-- ---- the digits of a number

pub decimal_digits : (n : ℕ) → n < 2 ^ 64 → list_all is_ascii_digit (decimal n) ≡ true
decimal_digits n h = digits_decimal numerals n h

pub decimal_value : (n : ℕ) → n < 2 ^ 64 → digits_value 10 (decimal n) ≡ n
decimal_value n h = digits_value-decimal numerals n h

pub decimal_some : (n : ℕ) → n < 2 ^ 64 → 0 < length (decimal n)
decimal_some n h = decimal_nonempty n h

pub decimal-are_digits : (n : ℕ) → n < 2 ^ 64 → are_digits (decimal n) ≡ true
decimal-are_digits n h = and_from _ _ (lt-ltb 0 (length (decimal n)) (decimal_some n h)) (decimal_digits n h)

-- a number below 10^18 has at most 18
pub decimal_short : (n : ℕ) → n < 10 ^ 18 → length (decimal n) ≤ 18
decimal_short n h = length-decimal-le 18 n (omega arith) h (omega arith)
