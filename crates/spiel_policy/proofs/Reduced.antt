-- The weights of an entry are as small as they can be.
use Rattle.std.proofs.Common.{◌≡◌, ℕ, zero, suc, ◌*◌, ◌/◌, ◌<◌, ◌≤◌, Bool, true, false, cond, ◌||◌, ◌==◌, List, [], ◌∷◌, ◌++◌, length, map, take, drop, nat_lt, ltb-false, eq-eqb, eqb-true, refl, sym, ap, ap₂, ◌∙◌, subst, Option, Some, None, arith, append_assoc}
use Rattle.std.specs.Prelude.{All, IfSome, sum, slice_index, slice_index_or, unsigned_abs, is_none, if◌then◌else◌}
use Rattle.std.specs.Int.{◌∣◌, IsGcd}
use Rattle.std.specs.List.{find}
use Rattle.std.specs.Option.{option_or}
use Rattle.std.proofs.lemmas.Bool.{and_parts}
use Rattle.std.proofs.lemmas.List.{get_or-map, length-map, take-append-drop}
use Rattle.std.proofs.lemmas.List.Elements.{All-cons, All-from_get_or, All-get_or, All-head, All-nil, All-tail}
use Rattle.std.proofs.lemmas.List.Folds.{find-append}
use Rattle.std.proofs.Math.Seq.{drop-cons}
use Rattle.std.proofs.Math.Nat.{dvd-mul_left, mul-div_cancel', mul_comm, mul-div_cancel_left}
use Rattle.spiel_frac.specs.Fraction.{greatest_common_divisor, most}
use Rattle.spiel_frac.specs.Multiples.{IsLeastMultiple, IsMultiple}
use Rattle.spiel_frac.proofs.CommonMultiples.{divides_least, least_multiple-is, multiple_at}
use Rattle.spiel_frac.proofs.Divisors.{IsGcd-greatest, gcd_times, greatest_common_divisor-is}
use Rattle.spiel_frac.proofs.Quotients.{lowest_terms-den}
use Rattle.spiel_policy.specs.Entries.{IsFair}
use Rattle.spiel_policy.specs.Reading.{small_whole}
use Rattle.spiel_policy.specs.Profiles.{AreReduced, denominator}
use Rattle.spiel_policy.specs.Weighing.{IsPart, are_choices, choices_of, is_choice, is_in, pair_for, parts_of, weights_of_whole, whole_weight}
use Rattle.spiel_policy.specs.declared.entries.Pair.{Pair}
use Rattle.spiel_policy.proofs.Weights.{AreFair, dens, dens_positive, whole_positive}

-- ---- what was computed
pub record IsSmallWhole (pairs : List Pair) (n : ℕ) : Type 0 where
  pub is : n ≡ whole_weight pairs
  pub small : n ≤ most

pub small_whole-is : (pairs : List Pair) (n : ℕ) → Some n ≡ small_whole pairs → IsSmallWhole pairs n
small_whole-is pairs n e = by (nat_lt most (whole_weight pairs)) refl e
  where
    by : (b : Bool) → nat_lt most (whole_weight pairs) ≡ b → Some n ≡ (if b then None else Some (whole_weight pairs)) → IsSmallWhole pairs n
    by true t f = cc
    by false t f = let is : n ≡ whole_weight pairs = cc in record { is = is; small = omega (arith, is, ltb-false most (whole_weight pairs) t) }

pub record IsTable (numbers : List ℕ) (pairs : List Pair) (table : List (Option Pair)) : Type 0 where
  pub is : table ≡ map (pair_for pairs) numbers
  pub choices : are_choices numbers [] pairs ≡ true

pub table_is : (numbers : List ℕ) (pairs : List Pair) (table : List (Option Pair)) → Some table ≡ choices_of numbers pairs → IsTable numbers pairs table
table_is numbers pairs table e = by (are_choices numbers [] pairs) refl e
  where
    by : (b : Bool) → are_choices numbers [] pairs ≡ b → Some table ≡ (if b then Some (map (pair_for pairs) numbers) else None) → IsTable numbers pairs table
    by true t f = record { is = cc; choices = t }
    by false t f = cc

-- ---- each pair is counted in parts of the whole
pairs_divide : (pairs : List Pair) → AreFair pairs → All (IsPart (whole_weight pairs)) pairs
pairs_divide [] fair = All-nil (IsPart (whole_weight []))
pairs_divide (first ∷ rest) fair =
    let pairs = first ∷ rest in
    All-from_get_or (IsPart (whole_weight pairs)) pairs first (λ k l. record {
      fair = All-get_or (λ (p : Pair). IsFair p.weight) pairs k first l fair;
      divides = subst (λ (n : ℕ). n ∣ whole_weight pairs) (get_or-map (λ (p : Pair). p.weight.den) pairs k first 1 l)
          (divides_least (dens pairs) k (dens_positive pairs fair) (omega (arith, l, length-map pairs (λ (p : Pair). p.weight.den))));
    })

find_all : (P : Pair → Type 0) (test : Pair → Bool) (pairs : List Pair) → All P pairs → IfSome (find test pairs) P
find_all P test [] all = tt
find_all P test (p ∷ pairs) all = by (test p) (find_all P test pairs (All-tail P p pairs all))
  where
    by : (b : Bool) → IfSome (find test pairs) P → IfSome (cond b (Some p) (find test pairs)) P
    by true more = All-head P p pairs all
    by false more = more

pub parts_divide : (pairs : List Pair) (numbers : List ℕ) → AreFair pairs → All (λ (choice : Option Pair). IfSome choice (IsPart (whole_weight pairs))) (map (pair_for pairs) numbers)
parts_divide pairs numbers fair = by numbers
  where
    P : Option Pair → Type 0
    P choice = IfSome choice (IsPart (whole_weight pairs))

    by : (numbers : List ℕ) → All (λ (choice : Option Pair). IfSome choice (IsPart (whole_weight pairs))) (map (pair_for pairs) numbers)
    by [] = All-nil (λ (choice : Option Pair). IfSome choice (IsPart (whole_weight pairs)))
    by (n ∷ ns) =
        All-cons (λ (choice : Option Pair). IfSome choice (IsPart (whole_weight pairs))) (pair_for pairs n) (map (pair_for pairs) ns)
        (find_all (IsPart (whole_weight pairs)) (λ (p : Pair). p.number == n) pairs (pairs_divide pairs fair)) (by ns)

-- ---- each pair is the one for its number
choice_at : (numbers : List ℕ) (before pairs : List Pair) (k : ℕ) (d : Pair) → are_choices numbers before pairs ≡ true → k < length pairs
    → is_choice numbers (before ++ take k pairs) (slice_index_or pairs k d) ≡ true
choice_at numbers before [] k d e l = absurd (omega arith)
choice_at numbers before (p ∷ pairs) zero d e l =
    let parts = and_parts (is_choice numbers before p) (are_choices numbers (before ++ p ∷ []) pairs) e in
    subst (λ (front : List Pair). is_choice numbers front p ≡ true) (sym (nothing before)) parts.0
  where
    nothing : (xs : List Pair) → xs ++ [] ≡ xs
    nothing [] = refl
    nothing (x ∷ xs) = ap (λ (ys : List Pair). x ∷ ys) (nothing xs)
choice_at numbers before (p ∷ pairs) (suc k) d e l =
    let parts = and_parts (is_choice numbers before p) (are_choices numbers (before ++ p ∷ []) pairs) e in
    subst (λ (front : List Pair). is_choice numbers front (slice_index_or pairs k d) ≡ true) (append_assoc before (p ∷ []) (take k pairs))
    (choice_at numbers (before ++ p ∷ []) pairs k d parts.1 (omega arith))

none_is : (o : Option Pair) → is_none o ≡ true → o ≡ None
none_is None e = refl
none_is (Some p) e = cc

own_pair : (numbers : List ℕ) (pairs : List Pair) (k : ℕ) (d : Pair) → are_choices numbers [] pairs ≡ true → k < length pairs
    → pair_for pairs (slice_index_or pairs k d).number ≡ Some (slice_index_or pairs k d)
own_pair numbers pairs k d e l =
    let pair = slice_index_or pairs k d in
    let test : Pair → Bool = λ (p : Pair). p.number == pair.number in
    let parts = and_parts (is_in numbers pair.number) (is_none (pair_for (take k pairs) pair.number)) (choice_at numbers [] pairs k d e l) in
    let split : pairs ≡ take k pairs ++ pair ∷ drop (suc k) pairs = sym (take-append-drop k pairs) ∙ ap (λ (rest : List Pair). take k pairs ++ rest) (drop-cons pairs k d l) in
    ap (λ (ps : List Pair). find test ps) split ∙ find-append test (take k pairs) (pair ∷ drop (suc k) pairs)
    ∙ ap₂ (λ (found : Option Pair) (b : Bool). option_or found (cond b (Some pair) (find test (drop (suc k) pairs)))) (none_is (pair_for (take k pairs) pair.number) parts.1) (eq-eqb pair.number pair.number refl)

-- where a number stands
pub record IsAt (numbers : List ℕ) (n : ℕ) : Type 0 where
  pub index : ℕ
  pub within : index < length numbers
  pub is : slice_index numbers index ≡ n

pub is_in-at : (numbers : List ℕ) (n : ℕ) → is_in numbers n ≡ true → IsAt numbers n
is_in-at [] n e = cc
is_in-at (x ∷ xs) n e = by (x == n) refl (λ f. is_in-at xs n f) e
  where
    later : IsAt xs n → IsAt (x ∷ xs) n
    later at = record { index = suc at.index; within = omega (arith, at.within); is = at.is }

    by : (b : Bool) → (x == n) ≡ b → (is_in xs n ≡ true → IsAt xs n) → (b || is_in xs n) ≡ true → IsAt (x ∷ xs) n
    by true t rest f = record { index = 0; within = omega arith; is = eqb-true x n t }
    by false t rest f = later (rest f)

-- ---- denominators
-- that of a fraction's parts of the whole is the fraction's own
denominator_of_parts : (whole num den : ℕ) → 0 < den → den ∣ whole → 0 < whole → IsGcd num den 1 → denominator whole (num * (whole / den)) ≡ den
denominator_of_parts whole num den low divides positive lowest =
    let q = whole / den in
    let all : den * q ≡ whole = mul-div_cancel' den divides in
    let scaled : IsGcd (q * num) (q * den) (q * 1) = gcd_times num den 1 q lowest in
    let same : IsGcd (num * q) whole q = subst (λ (g : ℕ). IsGcd (num * q) whole g) (let one : q * 1 ≡ q = omega arith in one)
    (subst (λ (b : ℕ). IsGcd (num * q) b (q * 1)) (mul_comm q den ∙ all) (subst (λ (a : ℕ). IsGcd a (q * den) (q * 1)) (mul_comm q num) scaled)) in
    let some : 0 < q = positive_quotient q all in
    lowest_terms-den (num * q) whole ∙ ap (λ (g : ℕ). whole / g) (sym (greatest_common_divisor-is (num * q) whole q same))
    ∙ ap (λ (n : ℕ). n / q) (sym all ∙ mul_comm den q) ∙ mul-div_cancel_left den some
  where
    positive_quotient : (q : ℕ) → den * q ≡ whole → 0 < q
    positive_quotient zero e = absurd (omega (arith, e, positive, mul_comm den 0))
    positive_quotient (suc q) e = omega arith

-- all denominators divide the whole
denominators_divide : (whole : ℕ) (weights : List ℕ) → IsMultiple (map (denominator whole) weights) whole
denominators_divide whole [] = tt
denominators_divide whole (w ∷ weights) =
    let g = greatest_common_divisor w whole in
    let divides : whole / g ∣ g * (whole / g) = dvd-mul_left (whole / g) g in
    (subst (λ (n : ℕ). n ∣ whole) (sym (lowest_terms-den w whole)) (subst (λ (n : ℕ). whole / g ∣ n) (mul-div_cancel' g (IsGcd-greatest w whole).1) divides), denominators_divide whole weights)

multiple_by : (pairs : List Pair) (m : ℕ) → All (λ (p : Pair). p.weight.den ∣ m) pairs → IsMultiple (dens pairs) m
multiple_by [] m all = tt
multiple_by (p ∷ pairs) m all = (All-head (λ (q : Pair). q.weight.den ∣ m) p pairs all, multiple_by pairs m (All-tail (λ (q : Pair). q.weight.den ∣ m) p pairs all))

-- a multiple of the denominators of all weights is one of the denominator of each pair
den_divides : (numbers : List ℕ) (pairs : List Pair) (m k : ℕ) (d : Pair) → AreFair pairs → are_choices numbers [] pairs ≡ true → k < length pairs
    → IsMultiple (map (denominator (whole_weight pairs)) (map (parts_of (whole_weight pairs)) (map (pair_for pairs) numbers))) m → (slice_index_or pairs k d).weight.den ∣ m
den_divides numbers pairs m k d fair choices l h =
    let whole = whole_weight pairs in
    let pair = slice_index_or pairs k d in
    let weights = map (parts_of whole) (map (pair_for pairs) numbers) in
    let parts = and_parts (is_in numbers pair.number) (is_none (pair_for (take k pairs) pair.number)) (choice_at numbers [] pairs k d choices l) in
    let at = is_in-at numbers pair.number parts.0 in
    let part : IsPart whole pair = All-get_or (IsPart whole) pairs k d l (pairs_divide pairs fair) in
    let choice : slice_index_or (map (pair_for pairs) numbers) at.index None ≡ Some pair =
    get_or-map (pair_for pairs) numbers at.index 0 None at.within ∙ ap (pair_for pairs) at.is ∙ own_pair numbers pairs k d choices l in
    let long : length (map (pair_for pairs) numbers) ≡ length numbers = length-map numbers (pair_for pairs) in
    let weight : slice_index weights at.index ≡ unsigned_abs pair.weight.num * (whole / pair.weight.den) =
    get_or-map (parts_of whole) (map (pair_for pairs) numbers) at.index None 0 (omega (arith, at.within, long)) ∙ ap (parts_of whole) choice in
    let longer : length weights ≡ length (map (pair_for pairs) numbers) = length-map (map (pair_for pairs) numbers) (parts_of whole) in
    let all : length (map (denominator whole) weights) ≡ length weights = length-map weights (denominator whole) in
    let den : slice_index_or (map (denominator whole) weights) at.index 1 ≡ pair.weight.den =
    get_or-map (denominator whole) weights at.index 0 1 (omega (arith, at.within, long, longer)) ∙ ap (denominator whole) weight
    ∙ denominator_of_parts whole (unsigned_abs pair.weight.num) pair.weight.den part.fair.lowest.positive part.divides (whole_positive pairs fair) part.fair.lowest.lowest in
    subst (λ (n : ℕ). n ∣ m) den (multiple_at (map (denominator whole) weights) m at.index h (omega (arith, at.within, long, longer, all)))

dens_divide : (numbers : List ℕ) (pairs : List Pair) (m : ℕ) → AreFair pairs → are_choices numbers [] pairs ≡ true
    → IsMultiple (map (denominator (whole_weight pairs)) (map (parts_of (whole_weight pairs)) (map (pair_for pairs) numbers))) m → All (λ (p : Pair). p.weight.den ∣ m) pairs
dens_divide numbers [] m fair choices h = All-nil (λ (p : Pair). p.weight.den ∣ m)
dens_divide numbers (first ∷ rest) m fair choices h =
    All-from_get_or (λ (p : Pair). p.weight.den ∣ m) (first ∷ rest) first (λ k l. den_divides numbers (first ∷ rest) m k first fair choices l h)

-- ---- the whole is the least
least_whole : (numbers : List ℕ) (pairs : List Pair) → AreFair pairs → are_choices numbers [] pairs ≡ true
    → IsLeastMultiple (map (denominator (whole_weight pairs)) (map (parts_of (whole_weight pairs)) (map (pair_for pairs) numbers))) (whole_weight pairs)
least_whole numbers pairs fair choices = record {
  positive = whole_positive pairs fair;
  multiple = denominators_divide (whole_weight pairs) (map (parts_of (whole_weight pairs)) (map (pair_for pairs) numbers));
  least = λ m h. (least_multiple-is (dens pairs) (dens_positive pairs fair)).least m (multiple_by pairs m (dens_divide numbers pairs m fair choices h));
}

-- what is answered for a table of pairs
pub weights_reduced : (numbers : List ℕ) (pairs : List Pair) (table : List (Option Pair)) (whole : ℕ) (weights : List ℕ) → AreFair pairs → IsTable numbers pairs table → IsSmallWhole pairs whole
    → Some weights ≡ weights_of_whole table whole → AreReduced weights
weights_reduced numbers pairs table whole weights fair table_is whole_is e =
    by (sum (map (parts_of whole) table) == whole) refl e
  where
    all : map (parts_of whole) table ≡ map (parts_of (whole_weight pairs)) (map (pair_for pairs) numbers)
    all = ap₂ (λ (n : ℕ) (t : List (Option Pair)). map (parts_of n) t) whole_is.is table_is.is

    reduced : sum (map (parts_of whole) table) ≡ whole → AreReduced (map (parts_of whole) table)
    reduced total =
        let same : sum (map (parts_of whole) table) ≡ whole_weight pairs = total ∙ whole_is.is in
        record {
          least = subst (λ (n : ℕ). IsLeastMultiple (map (denominator n) (map (parts_of whole) table)) n) (sym same)
              (subst (λ (ws : List ℕ). IsLeastMultiple (map (denominator (whole_weight pairs)) ws) (whole_weight pairs)) (sym all) (least_whole numbers pairs fair table_is.choices));
          small = omega (arith, total, whole_is.small);
        }

    by : (b : Bool) → (sum (map (parts_of whole) table) == whole) ≡ b → Some weights ≡ (if b then Some (map (parts_of whole) table) else None) → AreReduced weights
    by true t f =
        let is : weights ≡ map (parts_of whole) table = cc in
        subst AreReduced (sym is) (reduced (eqb-true (sum (map (parts_of whole) table)) whole t))
    by false t f = cc
