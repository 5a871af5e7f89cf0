-- A written answer is the response with that action put.
use Rattle.std.proofs.Common.{◌≡◌, ◌≢◌, ℕ, ◌<◌, Bool, true, false, cond, List, length, eqb, arith, refl, ap, sym, subst₂, ◌∙◌, eqb-true, get_or-set_same, get_or-set_other, ℤ, ◌≤ℤ◌, ◌<ℤ◌}
use Rattle.std.specs.Prelude.{slice_index, slice_set}
use Rattle.std.proofs.lemmas.Bool.{eqb-false}
use Rattle.spiel_response.specs.Responses.{Leaf, earns_from, put, IsFirstBest}
use Rattle.spiel_response.proofs.LocalRule.{agreeing_earns_from}
use Rattle.spiel_response.specs.Greatest.{IsBestSoFar}
use Rattle.spiel_response.specs.Slots.{index_of}

pub written : (xs ys : List ℕ) (i a : ℕ) → i < length xs → ((j : ℕ) → j ≢ i → slice_index xs j ≡ slice_index ys j) → (j : ℕ) → index_of (slice_set xs i a) j ≡ put (index_of ys) i a j
written xs ys i a l same j = by (eqb j i) refl
  where
    by : (t : Bool) → eqb j i ≡ t → slice_index (slice_set xs i a) j ≡ cond t a (slice_index ys j)
    by true e = ap (slice_index (slice_set xs i a)) (eqb-true j i e) ∙ get_or-set_same xs i a 0 l
    by false e = let apart : j ≢ i = eqb-false j i e in get_or-set_other xs i j a 0 apart ∙ same j apart

pub written_earns : (leaves : List Leaf) (xs ys : List ℕ) (i a : ℕ) → i < length xs → ((j : ℕ) → j ≢ i → slice_index xs j ≡ slice_index ys j) → earns_from (index_of (slice_set xs i a)) i leaves ≡ earns_from (put (index_of ys) i a) i leaves
written_earns leaves xs ys i a l same = agreeing_earns_from _ _ i leaves (written xs ys i a l same)

-- what is put last counts
pub written_put : (xs ys : List ℕ) (i b a : ℕ) → i < length xs → ((j : ℕ) → j ≢ i → slice_index xs j ≡ slice_index ys j) → (j : ℕ) → put (index_of (slice_set xs i b)) i a j ≡ put (index_of ys) i a j
written_put xs ys i b a l same j = by (eqb j i) refl
  where
    by : (t : Bool) → eqb j i ≡ t → cond t a (slice_index (slice_set xs i b) j) ≡ cond t a (slice_index ys j)
    by true e = refl
    by false e = let apart : j ≢ i = eqb-false j i e in get_or-set_other xs i j b 0 apart ∙ same j apart

pub written_put_earns : (leaves : List Leaf) (xs ys : List ℕ) (i b a : ℕ) → i < length xs → ((j : ℕ) → j ≢ i → slice_index xs j ≡ slice_index ys j) → earns_from (put (index_of (slice_set xs i b)) i a) i leaves ≡ earns_from (put (index_of ys) i a) i leaves
written_put_earns leaves xs ys i b a l same = agreeing_earns_from _ _ i leaves (written_put xs ys i b a l same)

-- once all actions were tried, the best is put
pub best_put : (leaves : List Leaf) (xs ys : List ℕ) (i n count best : ℕ) (most : ℤ) → i < length xs → ((j : ℕ) → j ≢ i → slice_index xs j ≡ slice_index ys j) → IsBestSoFar (λ a. earns_from (put (index_of ys) i a) i leaves) n best most → n ≡ count → IsFirstBest (index_of (slice_set xs i best)) leaves i count
best_put leaves xs ys i n count best most l same so e =
    let here : slice_index (slice_set xs i best) i ≡ best = get_or-set_same xs i best 0 l in
    let whole : most ≡ earns_from (index_of (slice_set xs i best)) i leaves = so.most_is ∙ sym (written_earns leaves xs ys i best l same) in
    let with = λ (a : ℕ). sym (written_put_earns leaves xs ys i best a l same) in
    let below = so.best_below in
    record {
      legal = omega arith;
      best = λ a k. subst₂ (λ (x y : ℤ). x ≤ℤ y) (with a) whole (so.at_most a (omega arith));
      first = λ a k. subst₂ (λ (x y : ℤ). x <ℤ y) (with a) whole (so.less_before a (omega arith));
    }
