-- The local rule at a state looks at what a response does from that state on.
use Rattle.std.proofs.Common.{◌≡◌, ℕ, ◌<◌, ◌≤◌, Bool, cond, List, ℤ, pos, ◌≤ℤ◌, ◌<ℤ◌, eqb, arith, ap, sym, subst, subst₂}
use Rattle.std.specs.List.{AllByRecursion}
use Rattle.spiel_response.specs.Responses.{Leaf, earns_from, put, IsFirstBest}
use Rattle.spiel_response.specs.Remembered.{IsRising}
use Rattle.spiel_response.proofs.PolicySteps.{agreeing_follows_from, later_follows_from}
use Rattle.spiel_response.proofs.PolicySums.{sum_over_same}
use Rattle.spiel_response.proofs.Exchange.{every_leaf, all_contained}

pub agreeing_earns_from : (d e : ℕ → ℕ) (i : ℕ) (leaves : List Leaf) → ((j : ℕ) → d j ≡ e j) → earns_from d i leaves ≡ earns_from e i leaves
agreeing_earns_from d e i leaves h = sum_over_same _ _ leaves (every_leaf _ _ (λ z k. ap (λ (t : Bool). cond t z.pay (pos 0)) (agreeing_follows_from d e i z.steps h)) leaves (all_contained leaves))

pub later_earns_from : (d e : ℕ → ℕ) (i : ℕ) (count : ℕ → ℕ) (low high : ℕ) (leaves : List Leaf) → AllByRecursion (λ z. IsRising count low high z.steps) leaves → ((j : ℕ) → i ≤ j → d j ≡ e j) → earns_from d i leaves ≡ earns_from e i leaves
later_earns_from d e i count low high leaves r h = sum_over_same _ _ leaves (every_leaf _ _ (λ z k. ap (λ (t : Bool). cond t z.pay (pos 0)) (later_follows_from d e i count low high z.steps k h)) leaves r)

-- so a change before state i leaves the rule at i as it was
pub later_first_best : (d e : ℕ → ℕ) (i : ℕ) (count : ℕ → ℕ) (low high : ℕ) (leaves : List Leaf) → AllByRecursion (λ z. IsRising count low high z.steps) leaves → ((j : ℕ) → i ≤ j → d j ≡ e j) → IsFirstBest d leaves i (count i) → IsFirstBest e leaves i (count i)
later_first_best d e i count low high leaves r h f =
    let whole = later_earns_from d e i count low high leaves r h in
    let with = λ (a : ℕ). later_earns_from (put d i a) (put e i a) i count low high leaves r (λ j k. ap (λ (x : ℕ). cond (eqb j i) a x) (h j k)) in
    record {
      legal = subst (λ (x : ℕ). x < count i) (h i (omega arith)) f.legal;
      best = λ a k. subst₂ (λ (x y : ℤ). x ≤ℤ y) (with a) whole (f.best a k);
      first = λ a k. subst₂ (λ (x y : ℤ). x <ℤ y) (with a) whole (f.first a (subst (λ (x : ℕ). a < x) (sym (h i (omega arith))) k));
    }
