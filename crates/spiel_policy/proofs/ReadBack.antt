-- What is written of a profile reads as that profile.
use Rattle.std.proofs.Common.{◌≡◌, ℕ, zero, suc, ◌*◌, ◌/◌, ◌^◌, ◌<◌, ◌≤◌, Bool, true, cond, ◌&&◌, List, [], ◌∷◌, ◌++◌, length, map, lt-ltb, eq-eqb, ne_eqb, refl, sym, ap, ap₂, ◌∙◌, subst, Option, Some, None, Ok, arith}
use Rattle.std.specs.Prelude.{All, IfSome, sum, slice_index, unsigned_abs, pos, is_none, if◌then◌else◌}
use Rattle.std.specs.Int.{is_negative}
use Rattle.std.specs.List.Sorted.{IsStrictlyIncreasing}
use Rattle.std.specs.Option.{ok_or, option_and_then, option_map}
use Rattle.std.proofs.Math.Nat.{div-le_self, mul-div_cancel', mul-div_cancel_left, mul_comm}
use Rattle.std.proofs.lemmas.List.{get_or-set_same, get_or-set_other, length-map, length-replicate, length-set, same_lists, get_or-map}
use Rattle.std.proofs.lemmas.List.Elements.{All-cons, All-get_or, All-head, All-nil, All-tail}
use Rattle.serde_json.specs.Data.{number, unsigned, string}
use Rattle.serde_json.specs.View.{items_of}
use Rattle.spiel_frac.specs.Fraction.{Fraction, IsLowest, frac_text, greatest_common_divisor, lowest_terms, most, quotient, ratio_text}
use Rattle.spiel_frac.specs.Multiples.{ArePositive, IsLeastMultiple, least_multiple}
use Rattle.spiel_frac.specs.Reading.{frac_of}
use Rattle.spiel_frac.proofs.CommonMultiples.{least_multiple-is, one_least}
use Rattle.spiel_frac.proofs.Divisors.{IsGcd-greatest, positive_part}
use Rattle.spiel_frac.proofs.Quotients.{lowest_terms-den, lowest_terms-den_positive, quotient-IfSome, quotient-fits}
use Rattle.spiel_frac.proofs.ReadBack.{frac_of-frac_text}
use Rattle.spiel_policy.specs.Entries.{not_negative, pair_of, pairs_in, small_of, text_weight, weight_of, entry_of}
use Rattle.spiel_policy.specs.Profiles.{AreReduced, denominator}
use Rattle.spiel_policy.specs.Reading.{small_whole, weights_at}
use Rattle.spiel_policy.specs.Weighing.{are_choices, choices_of, is_choice, is_in, pair_for, parts_of, weights_of_whole, whole_weight}
use Rattle.spiel_policy.specs.Writing.{pair_data, pairs_data}
use Rattle.spiel_policy.specs.declared.entries.Pair.{Pair}
use Rattle.spiel_policy.specs.declared.fault.PolicyFault.TheVariants.{Action, Overflow, Sum}
use Rattle.spiel_policy.proofs.Choices.{first_least, is_in-true, rises_on}
use Rattle.spiel_policy.proofs.Weights.{dens, sum_whole, whole_small}
use Rattle.spiel_policy.proofs.Shapes.{not_below}

-- ---- a weight
abbrev pub ratio_of : ℕ → ℕ → Fraction
ratio_of w total = lowest_terms (pos w) (pos total)

ratio_num : (w total : ℕ) → (ratio_of w total).num ≡ pos (w / greatest_common_divisor w total)
unfolding lowest_terms
ratio_num w total = refl

ratio_size : (w total : ℕ) → unsigned_abs (ratio_of w total).num ≡ w / greatest_common_divisor w total
ratio_size w total = ap unsigned_abs (ratio_num w total)

-- it is not 0 that is divided by
not_zero : (n : ℕ) → 0 < n → pos n ≡ pos 0 → ⊥
not_zero zero l e = absurd (omega arith)
not_zero (suc n) l e = cc

ratio_lowest : (w total : ℕ) → w ≤ most → total ≤ most → 0 < total → IsLowest (ratio_of w total)
ratio_lowest w total l m positive =
    let facts = subst (λ (o : Option Fraction). IfSome o (λ f. (pos total ≡ pos 0 → ⊥) × IsLowest f × Rattle.spiel_frac.specs.Fraction.IsQuotient f (pos w) (pos total)))
    (quotient-fits (pos w) (pos total) (not_zero total positive) l m) (quotient-IfSome (pos w) (pos total)) in
    facts.1

ratio_read : (w total : ℕ) → w ≤ total → total < 10 ^ 18 → 0 < total → frac_of (ratio_text w total) ≡ Ok (ratio_of w total)
unfolding ratio_text
ratio_read w total l short positive =
    let g = greatest_common_divisor w total in
    let num : unsigned_abs (ratio_of w total).num < 10 ^ 18 = omega (arith, ratio_size w total, div-le_self w g, l, short) in
    let den : (ratio_of w total).den < 10 ^ 18 = omega (arith, lowest_terms-den w total, div-le_self total g, short) in
    frac_of-frac_text (frac_of (frac_text (ratio_of w total))) (frac_text (ratio_of w total)) (ratio_of w total) refl
    (ratio_lowest w total (omega (arith, l, short)) (omega (arith, short)) positive) (record { num = num; den = den }) refl

ratio_weight : (w total : ℕ) → w ≤ total → total < 10 ^ 18 → 0 < total → text_weight (string (ratio_text w total)) ≡ Some (ratio_of w total)
ratio_weight w total l short positive =
    ap not_negative (ratio_read w total l short positive)
    ∙ ap (λ (b : Bool). if b then None else Some (ratio_of w total)) (ap is_negative (ratio_num w total) ∙ not_below (w / greatest_common_divisor w total))

-- its parts of the total
ratio_parts : (w total n : ℕ) → 0 < total → parts_of total (Some (record { number = n; weight = ratio_of w total })) ≡ w
ratio_parts w total n positive =
    let g = greatest_common_divisor w total in
    let divides = IsGcd-greatest w total in
    let q = total / g in
    let all : g * q ≡ total = mul-div_cancel' g divides.1 in
    let some : 0 < q = positive_part total g positive divides.1 in
    let back : total / q ≡ g = ap (λ (m : ℕ). m / q) (sym all ∙ mul_comm g q) ∙ mul-div_cancel_left g some in
    ap₂ (λ (a b : ℕ). a * (total / b)) (ratio_size w total) (lowest_terms-den w total)
    ∙ ap (λ (m : ℕ). w / g * m) back ∙ mul_comm (w / g) g ∙ mul-div_cancel' g divides.0

-- ---- pairs
abbrev pub pairs_for : ℕ → List ℕ → List ℕ → List Pair
pairs_for total [] weights = []
pairs_for total (n ∷ numbers) [] = []
pairs_for total (n ∷ numbers) (w ∷ weights) = record { number = n; weight = ratio_of w total } ∷ pairs_for total numbers weights

pub small_read : (n : ℕ) → n < 2 ^ 32 → small_of (number (unsigned n)) ≡ Some n
small_read n l = ap (λ (b : Bool). if b then Some n else None) (lt-ltb n (2 ^ 32) l)

pair_read : (total n w : ℕ) → n < 2 ^ 32 → w ≤ total → total < 10 ^ 18 → 0 < total → pair_of (pair_data total n w) ≡ Some (record { number = n; weight = ratio_of w total })
pair_read total n w l m short positive = ap₂ Rattle.spiel_policy.specs.Entries.pair_with (small_read n l) (ratio_weight w total m short positive)

pub pairs_read : (total : ℕ) (numbers weights : List ℕ) → All (λ n. n < 2 ^ 32) numbers → All (λ w. w ≤ total) weights → total < 10 ^ 18 → 0 < total
    → pairs_in (items_of (pairs_data total numbers weights)) ≡ Some (pairs_for total numbers weights)
pairs_read total [] weights small low short positive = refl
pairs_read total (n ∷ numbers) [] small low short positive = refl
pairs_read total (n ∷ numbers) (w ∷ weights) small low short positive =
    let first = pair_read total n w (All-head (λ n. n < 2 ^ 32) n numbers small) (All-head (λ w. w ≤ total) w weights low) short positive in
    let rest = pairs_read total numbers weights (All-tail (λ n. n < 2 ^ 32) n numbers small) (All-tail (λ w. w ≤ total) w weights low) short positive in
    ap₂ (λ (p : Option Pair) (ps : Option (List Pair)). option_and_then (λ pair. option_map (λ pairs. pair ∷ pairs) ps) p) first rest

-- ---- each number has its pair, and no other
behind : (n : ℕ) (before : List Pair) → All (λ (p : Pair). p.number < n) before → pair_for before n ≡ None
behind n [] all = refl
behind n (p ∷ before) all =
    let less = All-head (λ (q : Pair). q.number < n) p before all in
    ap (λ (b : Bool). cond b (Some p) (pair_for before n)) (ne_eqb p.number n (λ e. omega (arith, less, e)))
    ∙ behind n before (All-tail (λ (q : Pair). q.number < n) p before all)

later_all : (m n : ℕ) (before : List Pair) → m < n → All (λ (p : Pair). p.number < m) before → All (λ (p : Pair). p.number < n) before
later_all m n before l all = Rattle.std.proofs.lemmas.List.Elements.All-weaker (λ (p : Pair). p.number < m) (λ (p : Pair). p.number < n) (λ p less. omega (arith, less, l)) before all

all_choices : (all : List ℕ) (total : ℕ) (before : List Pair) (numbers weights : List ℕ) → ((k : ℕ) → k < length numbers → is_in all (slice_index numbers k) ≡ true)
    → IsStrictlyIncreasing numbers → ((j : ℕ) → j < length numbers → All (λ (p : Pair). p.number < slice_index numbers j) before)
    → are_choices all before (pairs_for total numbers weights) ≡ true
all_choices all total before [] weights there rises below = refl
all_choices all total before (n ∷ numbers) [] there rises below = refl
all_choices all total before (n ∷ numbers) (w ∷ weights) there rises below =
    let pair : Pair = record { number = n; weight = ratio_of w total } in
    let here : is_choice all before pair ≡ true = ap₂ (λ (b : Bool) (o : Option Pair). b && is_none o) (there 0 (omega arith)) (behind n before (below 0 (omega arith))) in
    let rest = all_choices all total (before ++ pair ∷ []) numbers weights (λ k l. there (suc k) (omega arith)) (rises_on n numbers rises)
    (λ j l. Rattle.std.proofs.lemmas.List.Elements.All-push (λ (p : Pair). p.number < slice_index numbers j) before pair (below (suc j) (omega arith)) (first_least n numbers j rises l)) in
    ap₂ (λ (a b : Bool). a && b) here rest

same_for : (p : Pair) (pairs : List Pair) (numbers : List ℕ) → ((j : ℕ) → j < length numbers → p.number < slice_index numbers j) → map (pair_for (p ∷ pairs)) numbers ≡ map (pair_for pairs) numbers
same_for p pairs [] above = refl
same_for p pairs (n ∷ numbers) above =
    let less = above 0 (omega arith) in
    ap₂ (λ (x : Option Pair) (xs : List (Option Pair)). x ∷ xs) (ap (λ (b : Bool). cond b (Some p) (pair_for pairs n)) (ne_eqb p.number n (λ e. omega (arith, less, e))))
    (same_for p pairs numbers (λ j l. above (suc j) (omega arith)))

own_pairs : (total : ℕ) (numbers weights : List ℕ) → IsStrictlyIncreasing numbers → length weights ≡ length numbers
    → map (pair_for (pairs_for total numbers weights)) numbers ≡ map Some (pairs_for total numbers weights)
own_pairs total [] weights rises long = refl
own_pairs total (n ∷ numbers) [] rises long = absurd (omega arith)
own_pairs total (n ∷ numbers) (w ∷ weights) rises long =
    let pair : Pair = record { number = n; weight = ratio_of w total } in
    let pairs = pairs_for total numbers weights in
    ap₂ (λ (x : Option Pair) (xs : List (Option Pair)). x ∷ xs) (ap (λ (b : Bool). cond b (Some pair) (pair_for pairs n)) (eq-eqb n n refl))
    (same_for pair pairs numbers (λ j l. first_least n numbers j rises l) ∙ own_pairs total numbers weights (rises_on n numbers rises) (omega arith))

choices_read : (total : ℕ) (numbers weights : List ℕ) → IsStrictlyIncreasing numbers → length weights ≡ length numbers
    → choices_of numbers (pairs_for total numbers weights) ≡ Some (map Some (pairs_for total numbers weights))
choices_read total numbers weights rises long =
    let pairs = pairs_for total numbers weights in
    ap₂ (λ (b : Bool) (t : List (Option Pair)). if b then Some t else None)
    (all_choices numbers total [] numbers weights (λ k l. is_in-true numbers (slice_index numbers k) k l refl) rises (λ j l. All-nil (λ (p : Pair). p.number < slice_index numbers j)))
    (own_pairs total numbers weights rises long)

-- ---- the whole is the total
dens_for : (total : ℕ) (numbers weights : List ℕ) → length weights ≡ length numbers → dens (pairs_for total numbers weights) ≡ map (denominator total) weights
dens_for total [] [] long = refl
dens_for total [] (w ∷ weights) long = absurd (omega arith)
dens_for total (n ∷ numbers) [] long = absurd (omega arith)
dens_for total (n ∷ numbers) (w ∷ weights) long = ap (λ (ds : List ℕ). denominator total w ∷ ds) (dens_for total numbers weights (omega arith))

denominators_positive : (total : ℕ) (weights : List ℕ) → 0 < total → ArePositive (map (denominator total) weights)
denominators_positive total [] positive = tt
denominators_positive total (w ∷ weights) positive = (lowest_terms-den_positive w total positive, denominators_positive total weights positive)

whole_for : (total : ℕ) (numbers weights : List ℕ) → length weights ≡ length numbers → IsLeastMultiple (map (denominator total) weights) total → whole_weight (pairs_for total numbers weights) ≡ total
whole_for total numbers weights long least =
    ap least_multiple (dens_for total numbers weights long)
    ∙ one_least (map (denominator total) weights) (least_multiple (map (denominator total) weights)) total (least_multiple-is (map (denominator total) weights) (denominators_positive total weights least.positive)) least

-- ---- the weights come back
parts_back : (total : ℕ) (numbers weights : List ℕ) → 0 < total → length weights ≡ length numbers → map (parts_of total) (map Some (pairs_for total numbers weights)) ≡ weights
parts_back total [] [] positive long = refl
parts_back total [] (w ∷ weights) positive long = absurd (omega arith)
parts_back total (n ∷ numbers) [] positive long = absurd (omega arith)
parts_back total (n ∷ numbers) (w ∷ weights) positive long =
    ap₂ (λ (x : ℕ) (xs : List ℕ). x ∷ xs) (ratio_parts w total n positive) (parts_back total numbers weights positive (omega arith))

pub weights_read : (numbers weights : List ℕ) (n : ℕ) → IsStrictlyIncreasing numbers → length weights ≡ length numbers → AreReduced weights
    → weights_at numbers n (pairs_for (sum weights) numbers weights) ≡ Ok weights
weights_read numbers weights n rises long reduced =
    let total = sum weights in
    let pairs = pairs_for total numbers weights in
    let table = map Some pairs in
    let whole : whole_weight pairs ≡ total = whole_for total numbers weights long reduced.least in
    let small : small_whole pairs ≡ Some total = whole_small pairs (omega (arith, whole, reduced.small)) ∙ ap Some whole in
    let back = parts_back total numbers weights reduced.least.positive long in
    let all : weights_of_whole table total ≡ Some weights = sum_whole total table (ap sum back) ∙ ap Some back in
    ap (λ (o : Option (List (Option Pair))). Rattle.spiel_policy.specs.Reading.go_on (λ choices. Rattle.spiel_policy.specs.Reading.go_on (λ w. ok_or (weights_of_whole choices w) (Sum n)) (ok_or (small_whole pairs) (Overflow n))) (ok_or o (Action n)))
    (choices_read total numbers weights rises long)
    ∙ ap (λ (o : Option ℕ). Rattle.spiel_policy.specs.Reading.go_on (λ w. ok_or (weights_of_whole table w) (Sum n)) (ok_or o (Overflow n))) small
    ∙ ap (λ (o : Option (List ℕ)). ok_or o (Sum n)) all
