-- The sums over the leaves before a history, with one history more, and at the end.
use Rattle.std.proofs.Common.{◌≡◌, ℕ, zero, suc, ◌+◌, ◌<◌, ◌≤◌, ◌⊎◌, inl, inr, List, [], ◌∷◌, ◌++◌, length, take, drop, Option, Some, None, refl, sym, ap, ap₂, subst, ◌∙◌, arith}
use Rattle.std.specs.Prelude.{sum_by, IfSome, IfNone, ℤ, pos, ◌+ℤ◌, ◌*ℤ◌, nat_abs}
use Rattle.std.proofs.Math.IntN.{+ℤ_assoc, +ℤ_comm}
use Rattle.std.proofs.lemmas.Bool.{cases_lt}
use Rattle.std.proofs.lemmas.List.{take_all}
use Rattle.std.proofs.lemmas.List.Sums.{sum_by-append, sum_by_push}
use Rattle.spiel_api.specs.declared.place.Place.TheVariants.{End}
use Rattle.spiel_frac.specs.Fraction.{most}
use Rattle.spiel_tree.specs.Rows.{Row}
use Rattle.spiel_tree.specs.Flat.{row_at}
use Rattle.spiel_response.specs.Reach.{is_end, leaves, reach}
use Rattle.spiel_response.specs.Values.{Judged, counterfactual_at, expected_at, return_to, size_below, size_for, sum_over, value_of, values_below}
use Rattle.spiel_response.specs.Weighed.{size_before, value_before}
use Rattle.spiel_response.specs.Summed.{AreSums, ArePlayerSums}
use Rattle.spiel_response.specs.declared.sums.Sums.{Sums}
use Rattle.spiel_response.proofs.Leaves.{leaf_more, leaves_split}

-- ---- sums
-- one number more
pub sum_over_push : {A : Type 0} (f : A → ℤ) (xs : List A) (x : A) → sum_over f (xs ++ x ∷ []) ≡ sum_over f xs +ℤ f x
sum_over_push f [] x = +ℤ_comm (f x) (pos 0)
sum_over_push f (y ∷ xs) x = ap (λ s. f y +ℤ s) (sum_over_push f xs x) ∙ sym (+ℤ_assoc (f y) (sum_over f xs) (f x))

-- the sizes of a leaf's two parts
abbrev pub parts : Judged → ℕ → Row → ℕ
parts j p leaf = nat_abs (expected_at j.tree.rows j.profile p leaf) + nat_abs (counterfactual_at j.tree.rows j.profile p leaf)

pub value_more : (j : Judged) (p k : ℕ) → k < length j.tree.rows → (row_at j.tree.rows k).here.place ≡ End
    → value_before j p (k + 1) ≡ value_before j p k +ℤ expected_at j.tree.rows j.profile p (row_at j.tree.rows k)
value_more j p k l e =
    ap (sum_over (expected_at j.tree.rows j.profile p)) (leaf_more j.tree.rows k l (ap is_end e))
    ∙ sum_over_push (expected_at j.tree.rows j.profile p) (leaves (take k j.tree.rows)) (row_at j.tree.rows k)

pub size_more : (j : Judged) (p k : ℕ) → k < length j.tree.rows → (row_at j.tree.rows k).here.place ≡ End
    → size_before j p (k + 1) ≡ size_before j p k + parts j p (row_at j.tree.rows k)
size_more j p k l e =
    ap (sum_by (parts j p)) (leaf_more j.tree.rows k l (ap is_end e)) ∙ sum_by_push (parts j p) (leaves (take k j.tree.rows)) (row_at j.tree.rows k)

-- the sizes up to a history are at most those of all leaves
pub size_before-le : (j : Judged) (p k : ℕ) → size_before j p k ≤ size_for j p
size_before-le j p k =
    let rows = j.tree.rows in
    let whole : size_for j p ≡ size_before j p k + sum_by (parts j p) (leaves (drop k rows)) =
    ap (sum_by (parts j p)) (leaves_split rows k) ∙ sum_by-append (parts j p) (leaves (take k rows)) (leaves (drop k rows)) in
    omega (arith, whole)

-- ---- one leaf more
-- a leaf's part is a product of its reach weight and its return
pub leaf_some : (j : Judged) (p k before : ℕ) (sums : Sums) (reached counterfactual : ℕ) (pay : ℤ) (result : Option Sums)
    → k < length j.tree.rows → (row_at j.tree.rows k).here.place ≡ End
    → reached ≡ reach j.tree.rows j.profile None (row_at j.tree.rows k)
    → counterfactual ≡ reach j.tree.rows j.profile (Some p) (row_at j.tree.rows k)
    → pay ≡ return_to p (row_at j.tree.rows k)
    → AreSums j p k before sums
    → IfSome result (λ next. next.value ≡ sums.value +ℤ (pos reached *ℤ pay))
    → IfSome result (λ next. next.size ≡ sums.size + (nat_abs (pos reached *ℤ pay) + nat_abs (pos counterfactual *ℤ pay)))
    → IfSome result (λ next. (nat_abs next.value ≤ next.size) × (next.size ≤ most))
    → IfSome result (AreSums j p (k + 1) before)
leaf_some j p k before sums reached counterfactual pay None l e r c q h value size within = tt
leaf_some j p k before sums reached counterfactual pay (Some next) l e r c q h value size within =
    let leaf = row_at j.tree.rows k in
    let expected : pos reached *ℤ pay ≡ expected_at j.tree.rows j.profile p leaf = ap₂ (λ (n : ℕ) (z : ℤ). pos n *ℤ z) r q in
    let certain : pos counterfactual *ℤ pay ≡ counterfactual_at j.tree.rows j.profile p leaf = ap₂ (λ (n : ℕ) (z : ℤ). pos n *ℤ z) c q in
    let both : nat_abs (pos reached *ℤ pay) + nat_abs (pos counterfactual *ℤ pay) ≡ parts j p leaf = ap₂ (λ (a b : ℤ). nat_abs a + nat_abs b) expected certain in
    record {
      value_is = value ∙ ap₂ (λ (a b : ℤ). a +ℤ b) h.value_is expected ∙ sym (value_more j p k l e);
      size_is = size ∙ ap (λ (n : ℕ). sums.size + n) both ∙ omega (arith, h.size_is, size_more j p k l e);
      within = within.0;
      small = within.1;
    }

pub leaf_none : (j : Judged) (p k before : ℕ) (sums : Sums) (reached counterfactual : ℕ) (pay : ℤ) (result : Option Sums)
    → k < length j.tree.rows → (row_at j.tree.rows k).here.place ≡ End
    → reached ≡ reach j.tree.rows j.profile None (row_at j.tree.rows k)
    → counterfactual ≡ reach j.tree.rows j.profile (Some p) (row_at j.tree.rows k)
    → pay ≡ return_to p (row_at j.tree.rows k)
    → AreSums j p k before sums
    → IfNone result (most < sums.size + (nat_abs (pos reached *ℤ pay) + nat_abs (pos counterfactual *ℤ pay)))
    → IfNone result (most < before + size_before j p (k + 1))
leaf_none j p k before sums reached counterfactual pay (Some next) l e r c q h large = tt
leaf_none j p k before sums reached counterfactual pay None l e r c q h large =
    let leaf = row_at j.tree.rows k in
    let expected : pos reached *ℤ pay ≡ expected_at j.tree.rows j.profile p leaf = ap₂ (λ (n : ℕ) (z : ℤ). pos n *ℤ z) r q in
    let certain : pos counterfactual *ℤ pay ≡ counterfactual_at j.tree.rows j.profile p leaf = ap₂ (λ (n : ℕ) (z : ℤ). pos n *ℤ z) c q in
    let both : nat_abs (pos reached *ℤ pay) + nat_abs (pos counterfactual *ℤ pay) ≡ parts j p leaf = ap₂ (λ (a b : ℤ). nat_abs a + nat_abs b) expected certain in
    let sum : sums.size + parts j p leaf ≡ before + size_before j p (k + 1) = omega (arith, h.size_is, size_more j p k l e) in
    subst (λ (n : ℕ). most < n) (ap (λ (n : ℕ). sums.size + n) both ∙ sum) large

-- ---- all leaves
pub sums_at_start : (j : Judged) (p before : ℕ) → before ≤ most → AreSums j p 0 before (record { value = pos 0; size = before })
sums_at_start j p before small = record { value_is = refl; size_is = omega arith; within = omega arith; small = small }

pub sums_at_end : (j : Judged) (p k before : ℕ) (sums : Sums) → length j.tree.rows ≤ k → AreSums j p k before sums → ArePlayerSums j p before sums
sums_at_end j p k before sums l h =
    let all = take_all k j.tree.rows l in
    record {
      value_is = h.value_is ∙ ap (λ (rows : List Row). sum_over (expected_at j.tree.rows j.profile p) (leaves rows)) all;
      size_is = h.size_is ∙ ap (λ (rows : List Row). before + sum_by (parts j p) (leaves rows)) all;
      small = h.small;
    }

-- ---- players
-- one player more
pub values_more : (j : Judged) (p : ℕ) (values : List ℤ) (value : ℤ) → values ≡ values_below j p → value ≡ value_of j p → values ++ value ∷ [] ≡ values_below j (p + 1)
values_more j p values value e g =
    ap₂ (λ (xs : List ℤ) (x : ℤ). xs ++ x ∷ []) e g ∙ ap (values_below j) (let next : suc p ≡ p + 1 = omega arith in next)

pub size_below_more : (j : Judged) (p size more : ℕ) → size ≡ size_below j p → more ≡ size + size_for j p → more ≡ size_below j (p + 1)
size_below_more j p size more e g =
    g ∙ ap (λ (n : ℕ). n + size_for j p) e ∙ ap (size_below j) (let next : suc p ≡ p + 1 = omega arith in next)

-- the sizes of a player and those below are at most those of all players
pub size_below-le : (j : Judged) (n p : ℕ) → p < n → size_below j p + size_for j p ≤ size_below j n
size_below-le j zero p l = absurd (omega arith)
size_below-le j (suc n) p l = by (size_below-le j n p) (cases_lt p n)
  where
    by : (p < n → size_below j p + size_for j p ≤ size_below j n) → (p < n) ⊎ (n ≤ p) → size_below j p + size_for j p ≤ size_below j n + size_for j n
    by before (inl m) = omega (arith, before m)
    by before (inr m) =
        let same : p ≡ n = omega arith in
        omega (arith, ap (λ (k : ℕ). size_below j k + size_for j k) same)
