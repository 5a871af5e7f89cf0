-- The number below 2^32 whose decimal text the bytes are.
use Rattle.std.proofs.Common.{◌≡◌, ℕ, ◌^◌, ◌<◌, inl, inr, Bool, true, false, List, [], ◌∷◌, length, get_or, Option, Some, None, refl, sym, ap, ◌∙◌, arith}
use Rattle.std.specs.Prelude.{◌↔◌, if◌then◌else◌}
use Rattle.std.specs.List.{list_all}
use Rattle.std.specs.Option.{SomeIff}
use Rattle.std.specs.Char.{is_ascii_digit}
use Rattle.std.specs.Str.Parse.{digits_value}
use Rattle.std.specs.Fmt.{decimal}
use Rattle.std.proofs.lemmas.Bool.{and_parts, and_from, ltb-true, lt-ltb, true≢false, cases_lt}
use Rattle.std.proofs.lemmas.Slice.Eq.{bytes_eq-Decides}
use Rattle.std.proofs.lemmas.Fmt.{first_decimal, decimal_digit, decimal-digits_value}
use Rattle.spiel_frac.specs.Numbers.{decimal_number}
use Rattle.spiel_frac.proofs.Numerals.{numerals, decimal_digits, decimal_some, decimal_value}

none_by : (test : Bool) (n : ℕ) → (test ≡ true → ⊥) → None ≡ (if test then Some n else None)
none_by true n never = absurd (never refl)
none_by false n never = refl

some_by : (test : Bool) (n : ℕ) → test ≡ true → Some n ≡ (if test then Some n else None)
some_by true n passes = refl
some_by false n passes = let none : ⊥ = cc in absurd none

found_by : (test : Bool) (n k : ℕ) → (if test then Some k else None) ≡ Some n → (test ≡ true) × (k ≡ n)
found_by true n k e = (refl, cc)
found_by false n k e = let none : ⊥ = cc in absurd none

-- no number prints as the text
no_number : (text : List ℕ) → ((n : ℕ) → n < 2 ^ 32 → decimal n ≡ text → ⊥) → None ≡ decimal_number text
unfolding decimal_number
no_number text never = none_by _ (digits_value 10 text) (λ test.
    let parts = and_parts _ _ test in
    never (digits_value 10 text) (ltb-true (digits_value 10 text) (2 ^ 32) parts.1) ((bytes_eq-Decides (decimal (digits_value 10 text)) text).0 parts.0))

one_digit : (n : ℕ) → n < 10 → length (decimal n) ≡ 1
one_digit n h = ap length (decimal_digit n h)

-- a text of more than one byte that begins with 0 is no number's
pub no_number_zero : (text : List ℕ) → 1 < length text → get_or text 0 0 ≡ 48 → None ≡ decimal_number text
no_number_zero text long first = no_number text (λ n small e.
    elim (cases_lt 0 n) as (λ _. ⊥) [
      | inl positive ↦ (let high = first_decimal n positive (omega arith) in let same : get_or (decimal n) 0 0 ≡ get_or text 0 0 = ap (λ (xs : List ℕ). get_or xs 0 0) e in omega (arith, high, same, first))
      | inr none ↦ (let one = one_digit n (omega arith) in let same : length (decimal n) ≡ length text = ap length e in omega (arith, one, same, long))
    ])

-- what has a byte that is no digit is no number's text
pub no_number_letter : (text : List ℕ) → list_all is_ascii_digit text ≡ false → None ≡ decimal_number text
no_number_letter text h = no_number text (λ n small e. true≢false (sym (decimal_digits n (omega arith)) ∙ ap (list_all is_ascii_digit) e ∙ h))

empty_number : None ≡ decimal_number []
empty_number = no_number [] (λ n small e. let some = decimal_some n (omega arith) in let same : length (decimal n) ≡ 0 = ap length e in omega (arith, some, same))

-- digits with no leading zero are the text of their value
pub number_is : (text : List ℕ) (r : Option ℕ) → list_all is_ascii_digit text ≡ true → (1 < length text → get_or text 0 0 ≡ 48 → ⊥)
    → SomeIff r ((0 < length text) × (digits_value 10 text < 2 ^ 32)) (digits_value 10 text) → r ≡ decimal_number text
unfolding decimal_number
number_is text (Some n) digits plain h =
    let prints : decimal (digits_value 10 text) ≡ text = decimal-digits_value numerals text digits h.0.0
    (λ zero. elim (cases_lt 1 (length text)) as (λ _. length text ≡ 1) [ inl more ↦ absurd (plain more zero) | inr few ↦ omega (arith, few, h.0.0) ]) (omega (arith, h.0.1)) in
    ap (λ x. Some x) h.1 ∙ some_by _ (digits_value 10 text) (and_from _ _ ((bytes_eq-Decides (decimal (digits_value 10 text)) text).1 prints) (lt-ltb (digits_value 10 text) (2 ^ 32) h.0.1))
number_is [] None digits plain h = empty_number
number_is (byte ∷ text) None digits plain h = none_by _ (digits_value 10 (byte ∷ text)) (λ test. h (omega arith, ltb-true (digits_value 10 (byte ∷ text)) (2 ^ 32) (and_parts _ _ test).1))

-- the text of a number reads as that number
pub decimal_number-decimal : (n : ℕ) → n < 2 ^ 32 → decimal_number (decimal n) ≡ Some n
unfolding decimal_number
decimal_number-decimal n h =
    let value : digits_value 10 (decimal n) ≡ n = decimal_value n (omega (arith, h)) in
    let small : digits_value 10 (decimal n) < 2 ^ 32 = omega (arith, value, h) in
    sym (some_by _ (digits_value 10 (decimal n)) (and_from _ _ ((bytes_eq-Decides (decimal (digits_value 10 (decimal n))) (decimal n)).1 (ap decimal value)) (lt-ltb (digits_value 10 (decimal n)) (2 ^ 32) small)))
    ∙ ap (λ (m : ℕ). Some m) value

-- and what reads as a number is its text
pub decimal_number-text : (text : List ℕ) (n : ℕ) → decimal_number text ≡ Some n → text ≡ decimal n
unfolding decimal_number
decimal_number-text text n e =
    let found = found_by _ n (digits_value 10 text) e in
    sym ((bytes_eq-Decides (decimal (digits_value 10 text)) text).0 (and_parts _ _ found.0).0) ∙ ap decimal found.1

-- both, of what is answered
pub decimal_number-is_text : (r : Option ℕ) (text : List ℕ) (n : ℕ) → r ≡ decimal_number text → n < 2 ^ 32 → ((r ≡ Some n) ↔ (text ≡ decimal n))
decimal_number-is_text r text n e h = (λ s. decimal_number-text text n (sym e ∙ s), λ t. e ∙ ap decimal_number t ∙ decimal_number-decimal n h)
