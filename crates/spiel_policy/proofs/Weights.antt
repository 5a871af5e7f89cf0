-- The whole of an entry, and the parts of it that its numbers get.
use Rattle.std.proofs.Common.{◌≡◌, ℕ, zero, suc, ◌+◌, ◌*◌, ◌/◌, ◌<◌, ◌≤◌, Bool, true, false, List, [], ◌∷◌, ◌++◌, length, map, take, drop, nat_le, nat_lt, leb-true, leb-false, ltb-true, ltb-false, eq-eqb, eqb-true, refl, sym, ap, ◌∙◌, Option, Some, None, arith}
use Rattle.std.specs.Prelude.{All, sum, slice_index_or, unsigned_abs, ◌==◌, if◌then◌else◌}
use Rattle.std.proofs.lemmas.List.{take_more, map-append, take-append-drop}
use Rattle.std.proofs.lemmas.List.Elements.{All-drop, All-head, All-tail, All-take}
use Rattle.std.proofs.lemmas.List.Sums.{sum-map, sum_by-take-le, sum_by-append, sum_by-cons}
use Rattle.std.proofs.Math.Nat.{mul-div_cancel', mul-le-mul_right, suc-mul, mul_comm}
use Rattle.spiel_frac.specs.Fraction.{most}
use Rattle.spiel_frac.specs.Multiples.{ArePositive, least_common_multiple, least_multiple}
use Rattle.spiel_frac.proofs.CommonMultiples.{least_multiple-grows, least_multiple-is, least_multiple-push}
use Rattle.spiel_policy.specs.Entries.{IsFair}
use Rattle.spiel_policy.specs.Reading.{small_whole}
use Rattle.spiel_policy.specs.Weighing.{IsPart, parts_of, weights_of_whole, whole_weight}
use Rattle.spiel_policy.specs.declared.entries.Pair.{Pair}

-- ---- the whole
abbrev pub AreFair : List Pair → Type 0
AreFair pairs = All (λ (pair : Pair). IsFair pair.weight) pairs

abbrev pub dens : List Pair → List ℕ
dens pairs = map (λ (pair : Pair). pair.weight.den) pairs

pub dens_positive : (pairs : List Pair) → AreFair pairs → ArePositive (dens pairs)
dens_positive [] fair = tt
dens_positive (pair ∷ pairs) fair =
    ((All-head (λ (p : Pair). IsFair p.weight) pair pairs fair).lowest.positive, dens_positive pairs (All-tail (λ (p : Pair). IsFair p.weight) pair pairs fair))

pub whole_positive : (pairs : List Pair) → AreFair pairs → 0 < whole_weight pairs
whole_positive pairs fair = (least_multiple-is (dens pairs) (dens_positive pairs fair)).positive

-- a pair more
pub whole_more : (pairs : List Pair) (k : ℕ) (d : Pair) → k < length pairs
    → least_common_multiple (whole_weight (take k pairs)) (slice_index_or pairs k d).weight.den ≡ whole_weight (take (k + 1) pairs)
whole_more pairs k d l =
    let pair = slice_index_or pairs k d in
    sym (ap (λ (ps : List Pair). whole_weight ps) (take_more pairs k d l)
    ∙ ap least_multiple (map-append (λ (p : Pair). p.weight.den) (take k pairs) (pair ∷ []))
    ∙ least_multiple-push (dens (take k pairs)) pair.weight.den)

-- that of some pairs isn't above that of all
pub whole_grows : (pairs : List Pair) (k : ℕ) → AreFair pairs → whole_weight (take k pairs) ≤ whole_weight pairs
whole_grows pairs k fair =
    let split : take k pairs ++ drop k pairs ≡ pairs = take-append-drop k pairs in
    let front : AreFair (take k pairs) = All-take (λ (p : Pair). IsFair p.weight) k pairs fair in
    let rest : AreFair (drop k pairs) = All-drop (λ (p : Pair). IsFair p.weight) k pairs fair in
    let all : whole_weight pairs ≡ least_multiple (dens (take k pairs) ++ dens (drop k pairs)) =
    ap (λ (ps : List Pair). whole_weight ps) (sym split) ∙ ap least_multiple (map-append (λ (p : Pair). p.weight.den) (take k pairs) (drop k pairs)) in
    rw all (least_multiple-grows (dens (take k pairs)) (dens (drop k pairs)) (dens_positive (take k pairs) front) (dens_positive (drop k pairs) rest))

pub whole_large : (pairs : List Pair) → most < whole_weight pairs → small_whole pairs ≡ None
whole_large pairs l = by (nat_lt most (whole_weight pairs)) refl
  where
    by : (b : Bool) → nat_lt most (whole_weight pairs) ≡ b → (if b then None else Some (whole_weight pairs)) ≡ None
    by true e = refl
    by false e = absurd (omega (arith, l, ltb-false most (whole_weight pairs) e))

pub whole_small : (pairs : List Pair) → whole_weight pairs ≤ most → small_whole pairs ≡ Some (whole_weight pairs)
whole_small pairs l = by (nat_lt most (whole_weight pairs)) refl
  where
    by : (b : Bool) → nat_lt most (whole_weight pairs) ≡ b → (if b then None else Some (whole_weight pairs)) ≡ Some (whole_weight pairs)
    by true e = absurd (omega (arith, l, ltb-true most (whole_weight pairs) e))
    by false e = refl

-- ---- the parts of a number
-- a fraction above 1 has more parts than the whole
pub parts_above : (whole : ℕ) (pair : Pair) → 0 < whole → IsPart whole pair → pair.weight.den < unsigned_abs pair.weight.num → whole < parts_of whole (Some pair)
parts_above whole pair positive part above =
    let q = whole / pair.weight.den in
    let all : pair.weight.den * q ≡ whole = mul-div_cancel' pair.weight.den part.divides in
    let more : suc pair.weight.den * q ≤ unsigned_abs pair.weight.num * q = mul-le-mul_right q (omega (arith, above)) in
    let next : suc pair.weight.den * q ≡ pair.weight.den * q + q = suc-mul pair.weight.den q in
    let some : 0 < q = positive_quotient q all in
    omega (arith, all, more, next, some)
  where
    positive_quotient : (q : ℕ) → pair.weight.den * q ≡ whole → 0 < q
    positive_quotient zero e = absurd (omega (arith, e, positive, mul_comm pair.weight.den 0))
    positive_quotient (suc q) e = omega arith

pub parts_refused : (whole : ℕ) (choice : Option Pair) → whole < parts_of whole choice → None ≡ (if nat_le (parts_of whole choice) whole then Some (parts_of whole choice) else None)
parts_refused whole choice above = by (nat_le (parts_of whole choice) whole) refl
  where
    by : (b : Bool) → nat_le (parts_of whole choice) whole ≡ b → None ≡ (if b then Some (parts_of whole choice) else None)
    by true e = absurd (omega (arith, above, leb-true (parts_of whole choice) whole e))
    by false e = refl

-- what is told of the parts of a number
pub parts_some : (parts whole p : ℕ) → Some p ≡ (if nat_le parts whole then Some parts else None) → p ≡ parts
parts_some parts whole p e = by (nat_le parts whole) e
  where
    by : (b : Bool) → Some p ≡ (if b then Some parts else None) → p ≡ parts
    by true f = cc
    by false f = cc

pub parts_none : (parts whole : ℕ) → None ≡ (if nat_le parts whole then Some parts else None) → whole < parts
parts_none parts whole e = by (nat_le parts whole) refl e
  where
    by : (b : Bool) → nat_le parts whole ≡ b → None ≡ (if b then Some parts else None) → whole < parts
    by true t f = cc
    by false t f = leb-false parts whole t

-- ---- the parts of all numbers
pub parts_more : (whole : ℕ) (choices : List (Option Pair)) (k : ℕ) (d : Option Pair) → k < length choices
    → map (parts_of whole) (take k choices) ++ parts_of whole (slice_index_or choices k d) ∷ [] ≡ map (parts_of whole) (take (k + 1) choices)
parts_more whole choices k d l = sym (ap (map (parts_of whole)) (take_more choices k d l) ∙ map-append (parts_of whole) (take k choices) (slice_index_or choices k d ∷ []))

sum_of_parts : (whole : ℕ) (choices : List (Option Pair)) (k : ℕ) → sum (map (parts_of whole) (take k choices)) ≤ sum (map (parts_of whole) choices)
sum_of_parts whole choices k =
    omega (arith, sum-map (parts_of whole) (take k choices), sum-map (parts_of whole) choices, sum_by-take-le (parts_of whole) choices k)

pub sum_more : (whole : ℕ) (choices : List (Option Pair)) (k : ℕ) (d : Option Pair) → k < length choices
    → sum (map (parts_of whole) (take (k + 1) choices)) ≡ sum (map (parts_of whole) (take k choices)) + parts_of whole (slice_index_or choices k d)
sum_more whole choices k d l =
    let xs = map (parts_of whole) (take k choices) in
    let x = parts_of whole (slice_index_or choices k d) in
    let one : sum (x ∷ []) ≡ x + sum [] = sum_by-cons (λ (n : ℕ). n) x [] in
    let both : sum (xs ++ x ∷ []) ≡ sum xs + sum (x ∷ []) = sum_by-append (λ (n : ℕ). n) xs (x ∷ []) in
    ap sum (sym (parts_more whole choices k d l)) ∙ omega (arith, one, both)

-- too many parts
pub sum_above : (whole : ℕ) (choices : List (Option Pair)) (k : ℕ) (d : Option Pair) → k < length choices
    → whole < sum (map (parts_of whole) (take k choices)) + parts_of whole (slice_index_or choices k d) → weights_of_whole choices whole ≡ None
sum_above whole choices k d l above = by (sum (map (parts_of whole) choices) == whole) refl
  where
    by : (b : Bool) → (sum (map (parts_of whole) choices) == whole) ≡ b → (if b then Some (map (parts_of whole) choices) else None) ≡ None
    by true e =
        absurd (omega (arith, above, sum_more whole choices k d l, sum_of_parts whole choices (k + 1), eqb-true (sum (map (parts_of whole) choices)) whole e))
    by false e = refl

-- too few
pub sum_below : (whole : ℕ) (choices : List (Option Pair)) → sum (map (parts_of whole) choices) < whole → weights_of_whole choices whole ≡ None
sum_below whole choices below = by (sum (map (parts_of whole) choices) == whole) refl
  where
    by : (b : Bool) → (sum (map (parts_of whole) choices) == whole) ≡ b → (if b then Some (map (parts_of whole) choices) else None) ≡ None
    by true e = absurd (omega (arith, below, eqb-true (sum (map (parts_of whole) choices)) whole e))
    by false e = refl

pub sum_whole : (whole : ℕ) (choices : List (Option Pair)) → sum (map (parts_of whole) choices) ≡ whole → weights_of_whole choices whole ≡ Some (map (parts_of whole) choices)
sum_whole whole choices e = ap (λ (b : Bool). if b then Some (map (parts_of whole) choices) else None) (eq-eqb (sum (map (parts_of whole) choices)) whole e)
