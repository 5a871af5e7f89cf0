-- Pairs noted in the table of an information state's numbers.
use Rattle.std.proofs.Common.{◌≡◌, ℕ, zero, suc, ◌+◌, ◌<◌, Bool, true, false, cond, ◌||◌, ◌&&◌, ◌==◌, List, [], ◌∷◌, ◌++◌, length, map, take, drop, eq-eqb, ne_eqb, eqb-true, refl, sym, ap, ap₂, ◌∙◌, subst, Option, Some, None, arith, add-one}
use Rattle.std.specs.Prelude.{slice_index, slice_index_or, slice_set, is_none, is_some, replicate}
use Rattle.std.specs.Option.{option_or}
use Rattle.std.specs.List.Sorted.{IsStrictlyIncreasing}
use Rattle.std.proofs.Math.Seq.{drop-cons}
use Rattle.std.proofs.lemmas.List.{take_more, get_or-map}
use Rattle.std.proofs.lemmas.List.Folds.{find-append}
use Rattle.spiel_policy.specs.Weighing.{are_choices, choices_of, is_choice, is_in, pair_for}
use Rattle.spiel_policy.specs.declared.entries.Pair.{Pair}

-- ---- one of the numbers
pub is_in-false : (xs : List ℕ) (a : ℕ) → ((k : ℕ) → k < length xs → slice_index xs k ≡ a → ⊥) → is_in xs a ≡ false
is_in-false [] a none = refl
is_in-false (x ∷ xs) a none = by (x == a) refl (is_in-false xs a (λ k l e. none (suc k) (omega arith) e))
  where
    by : (b : Bool) → (x == a) ≡ b → is_in xs a ≡ false → (b || is_in xs a) ≡ false
    by true e more = absurd (none 0 (omega arith) (eqb-true x a e))
    by false e more = more

pub is_in-true : (xs : List ℕ) (a k : ℕ) → k < length xs → slice_index xs k ≡ a → is_in xs a ≡ true
is_in-true [] a k l e = absurd (omega arith)
is_in-true (x ∷ xs) a zero l e = ap (λ (b : Bool). b || is_in xs a) (eq-eqb x a e)
is_in-true (x ∷ xs) a (suc k) l e = by (x == a) (is_in-true xs a k (omega arith) e)
  where
    by : (b : Bool) → is_in xs a ≡ true → (b || is_in xs a) ≡ true
    by true more = refl
    by false more = more

-- ---- rising numbers
pub rises_on : (x : ℕ) (xs : List ℕ) → IsStrictlyIncreasing (x ∷ xs) → IsStrictlyIncreasing xs
rises_on x xs rises k l =
    let after : suc k + 1 ≡ suc (k + 1) = omega arith in
    subst (λ (n : ℕ). slice_index xs k < slice_index (x ∷ xs) n) after (rises (suc k) (omega arith))

pub first_least : (x : ℕ) (xs : List ℕ) (j : ℕ) → IsStrictlyIncreasing (x ∷ xs) → j < length xs → x < slice_index xs j
first_least x [] j rises l = absurd (omega arith)
first_least x (y ∷ xs) zero rises l = rises 0 (omega arith)
first_least x (y ∷ xs) (suc j) rises l =
    let here : x < y = rises 0 (omega arith) in
    let more = first_least y xs j (rises_on x (y ∷ xs) rises) (omega arith) in omega arith

-- ---- a pair more
or_none : (o : Option Pair) → option_or o None ≡ o
or_none None = refl
or_none (Some p) = refl

-- it is the one for its number
own_pair : (before : List Pair) (pair : Pair) → pair_for before pair.number ≡ None → pair_for (before ++ pair ∷ []) pair.number ≡ Some pair
own_pair before pair free =
    find-append (λ (p : Pair). p.number == pair.number) before (pair ∷ [])
    ∙ ap₂ (λ (found : Option Pair) (b : Bool). option_or found (cond b (Some pair) None)) free (eq-eqb pair.number pair.number refl)

-- and changes nothing for others
other_pair : (before : List Pair) (pair : Pair) (n : ℕ) → (pair.number ≡ n → ⊥) → pair_for before n ≡ pair_for (before ++ pair ∷ []) n
other_pair before pair n other =
    sym (find-append (λ (p : Pair). p.number == n) before (pair ∷ [])
    ∙ ap (λ (b : Bool). option_or (pair_for before n) (cond b (Some pair) None)) (ne_eqb pair.number n other)
    ∙ or_none (pair_for before n))

others_same : (before : List Pair) (pair : Pair) (xs : List ℕ) → ((j : ℕ) → j < length xs → pair.number < slice_index xs j)
    → map (pair_for before) xs ≡ map (pair_for (before ++ pair ∷ [])) xs
others_same before pair [] above = refl
others_same before pair (x ∷ xs) above =
    ap₂ (λ (y : Option Pair) (ys : List (Option Pair)). y ∷ ys) (other_pair before pair x (λ e. let l = above 0 (omega arith) in omega arith))
    (others_same before pair xs (λ j l. above (suc j) (omega arith)))

noted : (before : List Pair) (pair : Pair) (numbers : List ℕ) (i : ℕ) → IsStrictlyIncreasing numbers → i < length numbers → slice_index numbers i ≡ pair.number
    → pair_for before pair.number ≡ None → slice_set (map (pair_for before) numbers) i (Some pair) ≡ map (pair_for (before ++ pair ∷ [])) numbers
noted before pair [] i rises l e free = absurd (omega arith)
noted before pair (x ∷ xs) zero rises l e free =
    ap₂ (λ (y : Option Pair) (ys : List (Option Pair)). y ∷ ys) (subst (λ (n : ℕ). Some pair ≡ pair_for (before ++ pair ∷ []) n) (sym e) (sym (own_pair before pair free)))
    (others_same before pair xs (λ j m. subst (λ (n : ℕ). n < slice_index xs j) e (first_least x xs j rises m)))
noted before pair (x ∷ xs) (suc i) rises l e free =
    let less : x < slice_index xs i = first_least x xs i rises (omega arith) in
    ap₂ (λ (y : Option Pair) (ys : List (Option Pair)). y ∷ ys) (other_pair before pair x (λ f. absurd (omega (arith, less, e, f))))
    (noted before pair xs i (rises_on x xs rises) (omega arith) e free)

-- ---- what noting answers
-- at a place with a pair already
there_already : (numbers : List ℕ) (before : List Pair) (pair : Pair) (table : List (Option Pair)) (i : ℕ) (d : Option Pair) → table ≡ map (pair_for before) numbers
    → i < length numbers → slice_index numbers i ≡ pair.number → slice_index_or table i d ≡ pair_for before pair.number
there_already numbers before pair table i d is l e =
    ap (λ (xs : List (Option Pair)). slice_index_or xs i d) is ∙ get_or-map (pair_for before) numbers i 0 d l ∙ ap (pair_for before) e

pub refused_there : (numbers : List ℕ) (before : List Pair) (pair : Pair) (table : List (Option Pair)) (i : ℕ) (d : Option Pair) → table ≡ map (pair_for before) numbers
    → i < length numbers → slice_index numbers i ≡ pair.number → is_some (slice_index_or table i d) ≡ true → is_choice numbers before pair ≡ false
refused_there numbers before pair table i d is l e some =
    by (pair_for before pair.number) (ap is_some (sym (there_already numbers before pair table i d is l e)) ∙ some) (is_in numbers pair.number)
  where
    by : (o : Option Pair) → is_some o ≡ true → (b : Bool) → (b && is_none o) ≡ false
    by None s b = cc
    by (Some p) s true = refl
    by (Some p) s false = refl

pub refused_absent : (numbers : List ℕ) (before : List Pair) (pair : Pair) → is_in numbers pair.number ≡ false → is_choice numbers before pair ≡ false
refused_absent numbers before pair e = ap (λ (b : Bool). b && is_none (pair_for before pair.number)) e

pub record IsNoted (numbers : List ℕ) (before : List Pair) (pair : Pair) (table : List (Option Pair)) : Type 0 where
  pub choice : is_choice numbers before pair ≡ true
  pub entries : table ≡ map (pair_for (before ++ pair ∷ [])) numbers

pub taken : (numbers : List ℕ) (before : List Pair) (pair : Pair) (table : List (Option Pair)) (i : ℕ) (d : Option Pair) → IsStrictlyIncreasing numbers → table ≡ map (pair_for before) numbers
    → i < length numbers → slice_index numbers i ≡ pair.number → is_some (slice_index_or table i d) ≡ false → IsNoted numbers before pair (slice_set table i (Some pair))
taken numbers before pair table i d rises is l e none =
    let there = there_already numbers before pair table i d is l e in
    let free : pair_for before pair.number ≡ None = no_pair (pair_for before pair.number) (ap is_some (sym there) ∙ none) in
    record {
      choice = ap₂ (λ (b : Bool) (o : Option Pair). b && is_none o) (is_in-true numbers pair.number i l e) free;
      entries = ap (λ (xs : List (Option Pair)). slice_set xs i (Some pair)) is ∙ noted before pair numbers i rises l e free;
    }
  where
    no_pair : (o : Option Pair) → is_some o ≡ false → o ≡ None
    no_pair None s = refl
    no_pair (Some p) s = cc

-- ---- all pairs
pub empty_is : (numbers : List ℕ) → replicate (length numbers) None ≡ map (pair_for []) numbers
empty_is [] = refl
empty_is (x ∷ xs) = ap (λ (ys : List (Option Pair)). None ∷ ys) (empty_is xs)

first_choice : (numbers : List ℕ) (pairs : List Pair) (k : ℕ) (d : Pair) → k < length pairs
    → are_choices numbers (take k pairs) (drop k pairs) ≡ (is_choice numbers (take k pairs) (slice_index_or pairs k d) && are_choices numbers (take (k + 1) pairs) (drop (k + 1) pairs))
first_choice numbers pairs k d l =
    let pair = slice_index_or pairs k d in
    ap (are_choices numbers (take k pairs)) (drop-cons pairs k d l)
    ∙ ap₂ (λ (front rest : List Pair). is_choice numbers (take k pairs) pair && are_choices numbers front rest) (sym (take_more pairs k d l)) (ap (λ (n : ℕ). drop n pairs) (sym (add-one k)))

pub choices_go_on : (numbers : List ℕ) (pairs : List Pair) (k : ℕ) (d : Pair) → k < length pairs → is_choice numbers (take k pairs) (slice_index_or pairs k d) ≡ true
    → are_choices numbers (take (k + 1) pairs) (drop (k + 1) pairs) ≡ are_choices numbers (take k pairs) (drop k pairs)
choices_go_on numbers pairs k d l e =
    sym (first_choice numbers pairs k d l ∙ ap (λ (b : Bool). b && are_choices numbers (take (k + 1) pairs) (drop (k + 1) pairs)) e)

pub choices_stop : (numbers : List ℕ) (pairs : List Pair) (k : ℕ) (d : Pair) → k < length pairs → is_choice numbers (take k pairs) (slice_index_or pairs k d) ≡ false
    → are_choices numbers (take k pairs) (drop k pairs) ≡ are_choices numbers [] pairs → choices_of numbers pairs ≡ None
choices_stop numbers pairs k d l e same =
    let none : are_choices numbers [] pairs ≡ false = sym same ∙ first_choice numbers pairs k d l ∙ ap (λ (b : Bool). b && are_choices numbers (take (k + 1) pairs) (drop (k + 1) pairs)) e in
    ap (λ (b : Bool). cond b (Some (map (pair_for pairs) numbers)) None) none
