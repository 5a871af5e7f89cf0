-- Products that aren't too large.
use Rattle.std.proofs.Common.{◌≡◌, ℕ, zero, suc, ◌+◌, ◌*◌, ◌<◌, ◌≤◌, Bool, true, false, List, [], ◌∷◌, length, drop, Some, None, refl, sym, ap, ◌∙◌, arith, nat_le, nat_lt, if◌then◌else◌, add-one}
use Rattle.std.specs.Prelude.{slice_index_or}
use Rattle.std.proofs.lemmas.Bool.{and_parts, leb-true, leb-false}
use Rattle.std.proofs.Math.Nat.{mul-le-mul_left, mul-one, mul_assoc}
use Rattle.spiel_matrix.specs.Contingencies.{contingencies}
use Rattle.spiel_matrix.specs.Parts.{are_filled, most_pays}
use Rattle.spiel_matrix.specs.MatrixPlays.{contingencies_low}

-- ---- a number, unless it passes a bound
pub some_within : {A : Type 0} (number bound : ℕ) (x y : A) → Some x ≡ (if nat_le number bound then Some y else None) → (x ≡ y) × (number ≤ bound)
some_within {A} number bound x y e = by (nat_le number bound) refl e
  where
    by : (b : Bool) → nat_le number bound ≡ b → Some x ≡ (if b then Some y else None) → (x ≡ y) × (number ≤ bound)
    by true t e = (cc, leb-true number bound t)
    by false t e = absurd cc

pub none_beyond : {A : Type 0} (number bound : ℕ) (y : A) → None ≡ (if nat_le number bound then Some y else None) → bound < number
none_beyond {A} number bound y e = by (nat_le number bound) refl e
  where
    by : (b : Bool) → nat_le number bound ≡ b → None ≡ (if b then Some y else None) → bound < number
    by true t e = absurd cc
    by false t e = leb-false number bound t

pub beyond_none : {A : Type 0} (number bound : ℕ) (y : A) → bound < number → None ≡ (if nat_le number bound then Some y else None)
beyond_none {A} number bound y l = by (nat_le number bound) refl
  where
    by : (b : Bool) → nat_le number bound ≡ b → None ≡ (if b then Some y else None)
    by true t = absurd (omega (arith, leb-true number bound t))
    by false t = refl

-- ---- contingencies of the later players
later_contingencies : (strategies : List (List (List ℕ))) (k : ℕ) (d : List (List ℕ)) → k < length strategies → contingencies (drop k strategies) ≡ length (slice_index_or strategies k d) * contingencies (drop (suc k) strategies)
later_contingencies [] k d l = absurd (omega arith)
later_contingencies (own ∷ others) zero d l = refl
later_contingencies (own ∷ others) (suc k) d l = later_contingencies others k d (omega arith)

later_low : (strategies : List (List (List ℕ))) (k : ℕ) → are_filled strategies ≡ true → 0 < contingencies (drop k strategies)
later_low strategies zero e = contingencies_low strategies e
later_low [] (suc k) e = omega arith
later_low (own ∷ others) (suc k) e = later_low others k (and_parts (nat_lt 0 (length own)) (are_filled others) e).1

-- one player more
pub count_more : (strategies : List (List (List ℕ))) (k count total : ℕ) (d : List (List ℕ)) → k < length strategies → count * contingencies (drop k strategies) ≡ total
    → count * length (slice_index_or strategies k d) * contingencies (drop (k + 1) strategies) ≡ total
count_more strategies k count total d l e =
    let own : ℕ = length (slice_index_or strategies k d) in
    let rest : ℕ = contingencies (drop (suc k) strategies) in
    let next : contingencies (drop (k + 1) strategies) ≡ rest = ap (λ n. contingencies (drop n strategies)) (add-one k) in
    ap (λ n. count * own * n) next ∙ mul_assoc count own rest ∙ ap (λ n. count * n) (sym (later_contingencies strategies k d l)) ∙ e

-- what passes the bound on the way passes it in the end
pub count_beyond : (strategies : List (List (List ℕ))) (k count total : ℕ) (d : List (List ℕ)) → are_filled strategies ≡ true → k < length strategies → count * contingencies (drop k strategies) ≡ total
    → most_pays < count * length (slice_index_or strategies k d) → most_pays < total
count_beyond strategies k count total d filled l e above =
    let now : ℕ = count * length (slice_index_or strategies k d) in
    let some : 1 ≤ contingencies (drop (k + 1) strategies) = omega (arith, later_low strategies (k + 1) filled) in
    let more : now * 1 ≤ now * contingencies (drop (k + 1) strategies) = mul-le-mul_left now some in
    omega (arith, above, more, mul-one now, count_more strategies k count total d l e)
