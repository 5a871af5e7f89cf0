-- What the leaves bring to the slots: to each slot those of one player, and no more than fits.
use Rattle.std.proofs.Common.{◌≡◌, ◌≢◌, ℕ, zero, suc, ◌+◌, ◌-◌, ◌<◌, ◌≤◌, ◌⊎◌, inl, inr, ⊎_elim, Bool, true, false, cond, List, [], ◌∷◌, ◌++◌, length, map, take, ℤ, pos, ◌+ℤ◌, refl, ap, ap₂, sym, subst, ◌∙◌, arith, eqb, ne_eqb, eq-eqb, take_all, get_or-set_same, get_or-set_other}
use Rattle.std.specs.Prelude.{slice_index_or, slice_set, sum_by, nat_abs}
use Rattle.std.specs.List.{AllByRecursion}
use Rattle.std.proofs.lemmas.Bool.{cases_eq, cases_order, false≢true}
use Rattle.std.proofs.lemmas.List.{map-append}
use Rattle.std.proofs.lemmas.List.Sums.{sum_by-cons, sum_by-append}
use Rattle.std.proofs.lemmas.Int.{ints}
use Rattle.std.proofs.Math.IntN.{+ℤ_assoc}
use Rattle.spiel_tree.specs.Rows.{Row}
use Rattle.spiel_tree.specs.Flat.{row_at}
use Rattle.spiel_tree.proofs.StateNumbers.{one_player_more}
use Rattle.spiel_response.specs.Reach.{is_end, leaves}
use Rattle.spiel_response.specs.Values.{Judged, counterfactual_at, size_below, size_for, sum_over}
use Rattle.spiel_response.specs.Weighed.{IsJudgeable}
use Rattle.spiel_response.specs.Responses.{Leaf}
use Rattle.spiel_response.specs.BestResponses.{first_state, own_leaf, player_leaves}
use Rattle.spiel_response.specs.Slots.{IsOwnSlot, last_slot, last_sum}
use Rattle.spiel_response.specs.SlotTable.{AreCollected, AreCollectedBefore, collected, collected_before, collected_below, own_slot, slot_count, slot_start}
use Rattle.spiel_response.proofs.Integers.{none_plus, plus_none}
use Rattle.spiel_response.proofs.LeafSums.{parts}
use Rattle.spiel_response.proofs.Leaves.{leaf_more, leaves_split, no_leaf_more}
use Rattle.spiel_response.proofs.OwnSlots.{own_slot_below, own_slot_own, starts_rise}
use Rattle.spiel_response.proofs.PlayerLeaves.{each_leaf}
use Rattle.spiel_response.proofs.SlotSums.{some_fit}

-- ---- the slots of other players
-- the information states of a player below another come before
first_states_rise : (j : Judged) (p n : ℕ) → first_state j p ≤ first_state j (p + n)
first_states_rise j p zero = let same : p ≡ p + 0 = omega arith in let e = ap (first_state j) same in omega arith
first_states_rise j p (suc n) =
    let next : p + suc n ≡ suc (p + n) = omega arith in
    let e = ap (first_state j) next in
    omega (arith, first_states_rise j p n, one_player_more (p + n) j.tree.rows, e)

pub players_apart : (j : Judged) (p q : ℕ) → p < q → first_state j (suc p) ≤ first_state j q
players_apart j p q l =
    let end : suc p + (q - suc p) ≡ q = omega arith in
    let e = ap (first_state j) end in
    omega (arith, first_states_rise j (suc p) (q - suc p), e)

-- a slot of a player, below those of the next
pub record IsSlotOf (j : Judged) (p k : ℕ) : Type 0 where
  pub own : IsOwnSlot p (slot_start j) (first_state j p) k
  pub below : k < slot_start j (first_state j (suc p))

apart_by : (j : Judged) (p q k : ℕ) → p < j.tree.players → q < j.tree.players → p < q → IsSlotOf j p k → IsSlotOf j q k → ⊥
apart_by j p q k m n l a b = ⊎_elim
    (λ (e : k ≡ p). ⊎_elim (λ (f : k ≡ q). absurd (omega arith)) (λ (g : slot_start j (first_state j q) ≤ k). absurd (omega arith)) b.own)
    (λ (g : slot_start j (first_state j p) ≤ k). ⊎_elim
    (λ (f : k ≡ q). absurd (omega arith))
    (λ (h : slot_start j (first_state j q) ≤ k). let order = starts_rise j (first_state j (suc p)) (first_state j q) (players_apart j p q l) in let end = a.below in absurd (omega arith)) b.own)
    a.own

pub one_player : (j : Judged) (p q k : ℕ) → p < j.tree.players → q < j.tree.players → IsSlotOf j p k → IsSlotOf j q k → p ≡ q
one_player j p q k m n a b = ⊎_elim
    (λ (e : p ≡ q). e)
    (λ o. absurd (⊎_elim (λ (l : p < q). apart_by j p q k m n l a b) (λ (l : q < p). apart_by j q p k n m l b a) o))
    (cases_order p q)

pub row_slot : (j : Judged) → IsJudgeable j → (p k : ℕ) → p < j.tree.players → k < length j.tree.rows → IsSlotOf j p (own_slot j p (row_at j.tree.rows k))
row_slot j ok p k m l = record { own = own_slot_own j ok p k l; below = own_slot_below j ok p k m l }

sum_over_none : (f : Leaf → ℤ) (xs : List Leaf) → AllByRecursion (λ z. f z ≡ pos 0) xs → sum_over f xs ≡ pos 0
sum_over_none f [] h = refl
sum_over_none f (x ∷ xs) h = ap₂ (λ (a b : ℤ). a +ℤ b) h.0 (sum_over_none f xs h.1)

-- another player's leaves bring nothing
others_bring_none : (j : Judged) → IsJudgeable j → (p q k : ℕ) → p < j.tree.players → q < j.tree.players → IsSlotOf j p k → p ≢ q → collected j q k ≡ pos 0
others_bring_none j ok p q k m n own apart =
    sum_over_none (λ (z : Leaf). cond (eqb (last_slot (slot_start j) q z.steps) k) z.pay (pos 0)) (player_leaves j q)
    (each_leaf (λ (z : Leaf). cond (eqb (last_slot (slot_start j) q z.steps) k) z.pay (pos 0) ≡ pos 0) (own_leaf j q) j.tree.rows
    (λ r l. ap (λ (b : Bool). cond b (counterfactual_at j.tree.rows j.profile q (row_at j.tree.rows r)) (pos 0))
    (ne_eqb (own_slot j q (row_at j.tree.rows r)) k (λ e. apart (one_player j p q k m n own (subst (IsSlotOf j q) e (row_slot j ok q r n l)))))))

-- so what is collected there are the player's
before_player : (j : Judged) → IsJudgeable j → (p k n : ℕ) → p < j.tree.players → n ≤ p → IsSlotOf j p k → collected_below j n k ≡ pos 0
before_player j ok p k zero m l own = refl
before_player j ok p k (suc n) m l own =
    ap₂ (λ (a b : ℤ). a +ℤ b) (before_player j ok p k n m (omega arith) own) (others_bring_none j ok p n k m (omega arith) own (λ e. omega arith))

from_player : (j : Judged) → IsJudgeable j → (p k n : ℕ) → p < n → n ≤ j.tree.players → IsSlotOf j p k → collected_below j n k ≡ collected j p k
from_player j ok p k zero l m own = absurd (omega arith)
from_player j ok p k (suc n) l m own = by (from_player j ok p k n) (cases_eq p n)
  where
    by : (p < n → n ≤ j.tree.players → IsSlotOf j p k → collected_below j n k ≡ collected j p k) → (p ≡ n) ⊎ (p ≡ n → ⊥) → collected_below j n k +ℤ collected j n k ≡ collected j p k
    by ih (inl e) =
        ap (λ (a : ℤ). a +ℤ collected j n k) (before_player j ok p k n (omega arith) (omega arith) own) ∙ none_plus (collected j n k) ∙ ap (λ (q : ℕ). collected j q k) (sym e)
    by ih (inr o) =
        ap₂ (λ (a b : ℤ). a +ℤ b) (ih (omega arith) (omega arith) own) (others_bring_none j ok p n k (omega arith) (omega arith) own o) ∙ plus_none (collected j p k)

pub collected_is : (j : Judged) → IsJudgeable j → (p k : ℕ) → p < j.tree.players → IsSlotOf j p k → collected_below j j.tree.players k ≡ collected j p k
collected_is j ok p k m own = from_player j ok p k j.tree.players m (omega arith) own

-- ---- sizes
-- a player's parts are within the sizes that are counted
parts_fit : (j : Judged) (p : ℕ) (xs : List Row) → sum_by (λ z. nat_abs z.pay) (map (own_leaf j p) xs) ≤ sum_by (parts j p) xs
parts_fit j p [] = omega arith
parts_fit j p (x ∷ xs) =
    omega (arith, sum_by-cons (λ (z : Leaf). nat_abs z.pay) (own_leaf j p x) (map (own_leaf j p) xs), sum_by-cons (parts j p) x xs, parts_fit j p xs)

pub own_leaves_fit : (j : Judged) (p : ℕ) → sum_by (λ z. nat_abs z.pay) (player_leaves j p) ≤ size_for j p
own_leaves_fit j p = parts_fit j p (leaves j.tree.rows)

before_fits : (j : Judged) (p k n : ℕ) → nat_abs (collected_before j p k n) ≤ size_for j p
before_fits j p k n =
    let some = some_fit (λ (z : Leaf). eqb (last_slot (slot_start j) p z.steps) k) (map (own_leaf j p) (leaves (take n j.tree.rows))) in
    let whole = ap (sum_by (parts j p)) (leaves_split j.tree.rows n) ∙ sum_by-append (parts j p) (leaves (take n j.tree.rows)) (leaves (Rattle.std.proofs.Common.drop n j.tree.rows)) in
    omega (arith, some, parts_fit j p (leaves (take n j.tree.rows)), whole)

pub collected_all : (j : Judged) (p k n : ℕ) → length j.tree.rows ≤ n → collected_before j p k n ≡ collected j p k
collected_all j p k n l = ap (λ (rows : List Row). last_sum p (slot_start j) k (map (own_leaf j p) (leaves rows))) (take_all n j.tree.rows l)

size-plus : (a b : ℤ) → nat_abs (a +ℤ b) ≤ nat_abs a + nat_abs b
size-plus a b = omega (arith, ints)

pub collected_fits : (j : Judged) (p k : ℕ) → nat_abs (collected j p k) ≤ size_for j p
collected_fits j p k = omega (arith, before_fits j p k (length j.tree.rows), ap nat_abs (collected_all j p k (length j.tree.rows) (omega arith)))

pub below_fits : (j : Judged) (n k : ℕ) → nat_abs (collected_below j n k) ≤ size_below j n
below_fits j zero k = omega arith
below_fits j (suc n) k = omega (arith, below_fits j n k, collected_fits j n k, size-plus (collected_below j n k) (collected j n k))

-- ---- leaf by leaf
sum_over_append : (f : Leaf → ℤ) (xs ys : List Leaf) → sum_over f (xs ++ ys) ≡ sum_over f xs +ℤ sum_over f ys
sum_over_append f [] ys = sym (none_plus (sum_over f ys))
sum_over_append f (x ∷ xs) ys = ap (λ (y : ℤ). f x +ℤ y) (sum_over_append f xs ys) ∙ sym (+ℤ_assoc (f x) (sum_over f xs) (sum_over f ys))

abbrev part_at : Judged → ℕ → ℕ → ℕ → ℤ
part_at j p k n = cond (eqb (own_slot j p (row_at j.tree.rows n)) k) (counterfactual_at j.tree.rows j.profile p (row_at j.tree.rows n)) (pos 0)

-- a leaf more
before_more : (j : Judged) (p k n : ℕ) → n < length j.tree.rows → is_end (row_at j.tree.rows n).here.place ≡ true → collected_before j p k (n + 1) ≡ collected_before j p k n +ℤ part_at j p k n
before_more j p k n l e =
    let f : Leaf → ℤ = λ z. cond (eqb (last_slot (slot_start j) p z.steps) k) z.pay (pos 0) in
    ap (λ (rows : List Row). sum_over f (map (own_leaf j p) rows)) (leaf_more j.tree.rows n l e)
    ∙ ap (sum_over f) (map-append (own_leaf j p) (leaves (take n j.tree.rows)) (row_at j.tree.rows n ∷ []))
    ∙ sum_over_append f (map (own_leaf j p) (leaves (take n j.tree.rows))) (own_leaf j p (row_at j.tree.rows n) ∷ [])
    ∙ ap (λ (y : ℤ). collected_before j p k n +ℤ y) (plus_none (part_at j p k n))

pub before_same : (j : Judged) (p k n : ℕ) → n < length j.tree.rows → is_end (row_at j.tree.rows n).here.place ≡ false → collected_before j p k n ≡ collected_before j p k (n + 1)
before_same j p k n l e = ap (λ (rows : List Row). last_sum p (slot_start j) k (map (own_leaf j p) rows)) (sym (no_leaf_more j.tree.rows n l e))

-- it fits
pub leaf_fits : (j : Judged) → IsJudgeable j → (p n : ℕ) (c : ℤ) (sums : List ℤ) → p < j.tree.players → n < length j.tree.rows → is_end (row_at j.tree.rows n).here.place ≡ true
    → own_slot j p (row_at j.tree.rows n) < slot_count j → c ≡ counterfactual_at j.tree.rows j.profile p (row_at j.tree.rows n) → AreCollectedBefore j p n sums
    → nat_abs (slice_index_or sums (own_slot j p (row_at j.tree.rows n)) (pos 0) +ℤ c) ≤ size_below j p + size_for j p
leaf_fits j ok p n c sums m l e within is are =
    let k = own_slot j p (row_at j.tree.rows n) in
    let before = collected_below j p k in
    let here : slice_index_or sums k (pos 0) +ℤ c ≡ before +ℤ collected_before j p k (n + 1) =
    ap₂ (λ (a b : ℤ). a +ℤ b) (are k within) is ∙ +ℤ_assoc before (collected_before j p k n) (counterfactual_at j.tree.rows j.profile p (row_at j.tree.rows n))
    ∙ ap (λ (y : ℤ). before +ℤ y) (ap (λ (b : Bool). collected_before j p k n +ℤ cond b (counterfactual_at j.tree.rows j.profile p (row_at j.tree.rows n)) (pos 0)) (sym (eq-eqb k k refl)) ∙ sym (before_more j p k n l e)) in
    omega (arith, ap nat_abs here, size-plus before (collected_before j p k (n + 1)), below_fits j p k, before_fits j p k (n + 1))

-- it is added at the leaf's slot
pub leaf_added : (j : Judged) (p n : ℕ) (c : ℤ) (sums after : List ℤ) → n < length j.tree.rows → is_end (row_at j.tree.rows n).here.place ≡ true
    → own_slot j p (row_at j.tree.rows n) < length sums → c ≡ counterfactual_at j.tree.rows j.profile p (row_at j.tree.rows n) → AreCollectedBefore j p n sums
    → after ≡ slice_set sums (own_slot j p (row_at j.tree.rows n)) (slice_index_or sums (own_slot j p (row_at j.tree.rows n)) (pos 0) +ℤ c)
    → AreCollectedBefore j p (n + 1) after
leaf_added j p n c sums after l e within is are set k m =
    ap (λ (t : List ℤ). slice_index_or t k (pos 0)) set ∙ ⊎_elim
    (λ (same : slot ≡ k).
    ap (λ (i : ℕ). slice_index_or (slice_set sums slot (slice_index_or sums slot (pos 0) +ℤ c)) i (pos 0)) (sym same)
    ∙ get_or-set_same sums slot (slice_index_or sums slot (pos 0) +ℤ c) (pos 0) within
    ∙ ap₂ (λ (i : ℕ) (y : ℤ). slice_index_or sums i (pos 0) +ℤ y) same is
    ∙ ap (λ (y : ℤ). y +ℤ part) (are k m) ∙ +ℤ_assoc before sofar part
    ∙ ap (λ (b : Bool). before +ℤ (sofar +ℤ cond b part (pos 0))) (sym (eq-eqb slot k same))
    ∙ ap (λ (y : ℤ). before +ℤ y) (sym (before_more j p k n l e)))
    (λ (other : slot ≡ k → ⊥).
    get_or-set_other sums slot k (slice_index_or sums slot (pos 0) +ℤ c) (pos 0) (λ q. other (sym q))
    ∙ are k m ∙ ap (λ (y : ℤ). before +ℤ y) (sym (plus_none sofar))
    ∙ ap (λ (b : Bool). before +ℤ (sofar +ℤ cond b part (pos 0))) (sym (ne_eqb slot k other))
    ∙ ap (λ (y : ℤ). before +ℤ y) (sym (before_more j p k n l e)))
    (cases_eq slot k)
  where
    slot : ℕ
    slot = own_slot j p (row_at j.tree.rows n)

    before : ℤ
    before = collected_below j p k

    sofar : ℤ
    sofar = collected_before j p k n

    part : ℤ
    part = counterfactual_at j.tree.rows j.profile p (row_at j.tree.rows n)

-- a row that is no leaf changes nothing
pub row_passed : (j : Judged) (p n : ℕ) (sums : List ℤ) → n < length j.tree.rows → is_end (row_at j.tree.rows n).here.place ≡ false → AreCollectedBefore j p n sums → AreCollectedBefore j p (n + 1) sums
row_passed j p n sums l e are k m = are k m ∙ ap (λ (y : ℤ). collected_below j p k +ℤ y) (before_same j p k n l e)

-- from one player to the next
pub collected_start : (j : Judged) (p : ℕ) (sums : List ℤ) → AreCollected j p sums → AreCollectedBefore j p 0 sums
collected_start j p sums are k m = are.each k m ∙ sym (plus_none (collected_below j p k))

pub collected_end : (j : Judged) (p n : ℕ) (sums : List ℤ) → length j.tree.rows ≤ n → length sums ≡ slot_count j → AreCollectedBefore j p n sums → AreCollected j (p + 1) sums
collected_end j p n sums l count are =
    let next : suc p ≡ p + 1 = omega arith in
    record {
      count = count;
      each = λ k m. are k m ∙ ap (λ (y : ℤ). collected_below j p k +ℤ y) (collected_all j p k n l) ∙ ap (λ (q : ℕ). collected_below j q k) next;
    }

-- a leaf's part is no greater than the sizes that are counted
part_in : (j : Judged) (p : ℕ) (rows : List Row) (k : ℕ) → k < length rows → is_end (row_at rows k).here.place ≡ true → parts j p (row_at rows k) ≤ sum_by (parts j p) (leaves rows)
part_in j p [] k l e = absurd (omega arith)
part_in j p (row ∷ rows) zero l e = by (is_end row.here.place) e
  where
    by : (b : Bool) → b ≡ true → parts j p row ≤ sum_by (parts j p) (cond b (row ∷ leaves rows) (leaves rows))
    by true e = omega (arith, sum_by-cons (parts j p) row (leaves rows))
    by false e = absurd (false≢true e)
part_in j p (row ∷ rows) (suc k) l e = by (is_end row.here.place) (part_in j p rows k (omega arith) e)
  where
    by : (b : Bool) → parts j p (row_at rows k) ≤ sum_by (parts j p) (leaves rows) → parts j p (row_at rows k) ≤ sum_by (parts j p) (cond b (row ∷ leaves rows) (leaves rows))
    by true m = omega (arith, m, sum_by-cons (parts j p) row (leaves rows))
    by false m = m

pub part_small : (j : Judged) (p k : ℕ) → k < length j.tree.rows → is_end (row_at j.tree.rows k).here.place ≡ true
    → nat_abs (counterfactual_at j.tree.rows j.profile p (row_at j.tree.rows k)) ≤ size_for j p
part_small j p k l e = omega (arith, part_in j p j.tree.rows k l e)
