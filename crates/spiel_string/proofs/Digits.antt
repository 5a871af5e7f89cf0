-- 1 to 18 digits, and the number that they are.
use Rattle.std.proofs.Common.{◌≡◌, ◌<◌, ◌≤◌, ◌^◌, ℕ, true, List, length, Some, None, sym, ap, ◌∙◌}
use Rattle.std.specs.Prelude.{if◌then◌else◌, nat_lt, nat_le}
use Rattle.std.specs.List.{list_all}
use Rattle.std.specs.Char.{is_ascii_digit}
use Rattle.std.specs.Str.Parse.{digits_value}
use Rattle.std.proofs.lemmas.Bool.{and_parts, leb-true, ltb-true}
use Rattle.std.proofs.lemmas.Str.Parse.{digits_value_short}
use Rattle.spiel_frac.proofs.Numerals.{numerals}
use Rattle.spiel_string.specs.Values.{are_digits, digits_of}

pub are_digits-parts : (bytes : List ℕ) → are_digits bytes ≡ true → (0 < length bytes) × (length bytes ≤ 18) × (list_all is_ascii_digit bytes ≡ true)
are_digits-parts bytes h =
    let some = and_parts (nat_lt 0 (length bytes)) _ h in
    let few = and_parts (nat_le (length bytes) 18) _ some.1 in
    (ltb-true 0 (length bytes) some.0, leb-true (length bytes) 18 few.0, few.1)

pub digits_small : (bytes : List ℕ) → are_digits bytes ≡ true → digits_value 10 bytes < 10 ^ 18
digits_small bytes h = let parts = are_digits-parts bytes h in digits_value_short numerals bytes 18 parts.2 parts.1

pub digits_found : (bytes : List ℕ) (n : ℕ) → are_digits bytes ≡ true → n ≡ digits_value 10 bytes → Some n ≡ digits_of bytes
digits_found bytes n h is = ap (λ k. Some k) is ∙ sym (ap (λ b. if b then Some (digits_value 10 bytes) else None) h)
