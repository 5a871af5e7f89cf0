-- One response obeys the local rule.
use Rattle.std.proofs.Common.{◌≡◌, ℕ, zero, suc, ◌+◌, ◌<◌, ◌≤◌, Bool, true, false, cond, ◌&&◌, List, [], ◌∷◌, pos, eqb, arith, refl, ap, ap₂, sym, ◌∙◌, ⊎_elim, eq-eqb, eqb-true}
use Rattle.std.specs.List.{AllByRecursion}
use Rattle.std.proofs.lemmas.Int.{ints}
use Rattle.std.proofs.lemmas.Bool.{cond-true, cases_order}
use native.Mathlib.Nat.{le_refl}
use Rattle.spiel_response.specs.Responses.{OwnStep, Leaf, follows, follows_from, earns_from, put, IsFirstBest, ObeysLocalRule}
use Rattle.spiel_response.specs.Remembered.{IsRising}
use Rattle.spiel_response.proofs.Laws.{OneResponseObeys}
use Rattle.spiel_response.proofs.PolicySteps.{put_same_from}
use Rattle.spiel_response.proofs.PolicySums.{sum_over_same}
use Rattle.spiel_response.proofs.Exchange.{every_leaf, all_contained}

-- ---- two responses that agree from state i to the last
pub within_follows : (d e : ℕ → ℕ) (count : ℕ → ℕ) (low high : ℕ) (steps : List OwnStep) → IsRising count low high steps → ((j : ℕ) → low ≤ j → j < high → d j ≡ e j) → follows d steps ≡ follows e steps
within_follows d e count low high [] r h = refl
within_follows d e count low high (s ∷ rest) r h =
    ap₂ (λ (x : ℕ) (f : Bool). eqb x s.index && f) (h s.state r.0 r.1) (within_follows d e count (suc s.state) high rest r.3 (λ j k m. let l = r.0 in h j (omega arith) m))

within_follows_from : (d e : ℕ → ℕ) (i : ℕ) (count : ℕ → ℕ) (low high : ℕ) (steps : List OwnStep) → IsRising count low high steps → ((j : ℕ) → i ≤ j → j < high → d j ≡ e j) → follows_from d i steps ≡ follows_from e i steps
within_follows_from d e i count low high [] r h = refl
within_follows_from d e i count low high (s ∷ rest) r h = by (within_follows_from d e i count (suc s.state) high rest r.3 h) (eqb s.state i) refl
  where
    by : follows_from d i rest ≡ follows_from e i rest → (t : Bool) → eqb s.state i ≡ t → cond t (follows d (s ∷ rest)) (follows_from d i rest) ≡ cond t (follows e (s ∷ rest)) (follows_from e i rest)
    by ih true x =
        let same = eqb-true s.state i x in
        within_follows d e count s.state high (s ∷ rest) (le_refl s.state, r.1, r.2, r.3) (λ j k m. h j (omega arith) m)
    by ih false x = ih

within_earns_from : (d e : ℕ → ℕ) (i : ℕ) (count : ℕ → ℕ) (low high : ℕ) (leaves : List Leaf) → AllByRecursion (λ z. IsRising count low high z.steps) leaves → ((j : ℕ) → i ≤ j → j < high → d j ≡ e j) → earns_from d i leaves ≡ earns_from e i leaves
within_earns_from d e i count low high leaves r h = sum_over_same _ _ leaves (every_leaf _ _ (λ z k. ap (λ (t : Bool). cond t z.pay (pos 0)) (within_follows_from d e i count low high z.steps k h)) leaves r)

pub put_same_earns : (d : ℕ → ℕ) (i : ℕ) (leaves : List Leaf) → earns_from (put d i (d i)) i leaves ≡ earns_from d i leaves
put_same_earns d i leaves = sum_over_same _ _ leaves (every_leaf _ _ (λ z h. ap (λ (t : Bool). cond t z.pay (pos 0)) (put_same_from d i z.steps)) leaves (all_contained leaves))

-- two responses that agree after state i are not unlike at i
not_before : (d e : ℕ → ℕ) (i : ℕ) (count : ℕ → ℕ) (low high : ℕ) (leaves : List Leaf) → AllByRecursion (λ z. IsRising count low high z.steps) leaves → ((j : ℕ) → i < j → j < high → d j ≡ e j) → IsFirstBest d leaves i (count i) → IsFirstBest e leaves i (count i) → d i < e i → ⊥
not_before d e i count low high leaves r same f g less =
    let one = g.first (d i) less in
    let two = f.best (e i) g.legal in
    let three = within_earns_from (put d i (d i)) (put e i (d i)) i count low high leaves r (puts (d i)) in
    let four = within_earns_from (put d i (e i)) (put e i (e i)) i count low high leaves r (puts (e i)) in
    let five = put_same_earns d i leaves in
    let six = put_same_earns e i leaves in
    omega (arith, ints)
  where
    puts : (a j : ℕ) → i ≤ j → j < high → put d i a j ≡ put e i a j
    puts a j k m = ⊎_elim
        (λ (q : j ≡ i). let t = eq-eqb j i q in cond-true (eqb j i) a (d j) t ∙ sym (cond-true (eqb j i) a (e j) t))
        (λ h. ap (λ (x : ℕ). cond (eqb j i) a x) (same j (⊎_elim (λ (l : j < i). absurd (omega arith)) (λ (l : i < j). l) h) m))
        (cases_order j i)

-- n states from the end
agree : (d e : ℕ → ℕ) (count : ℕ → ℕ) (low high : ℕ) (leaves : List Leaf) → AllByRecursion (λ z. IsRising count low high z.steps) leaves → ObeysLocalRule d leaves count low high → ObeysLocalRule e leaves count low high → (n i : ℕ) → low ≤ i → i < high → high ≤ i + n → d i ≡ e i
agree d e count low high leaves r f g zero i h k l = absurd (omega arith)
agree d e count low high leaves r f g (suc n) i h k l =
    let later : (j : ℕ) → i < j → j < high → d j ≡ e j = λ j m o. agree d e count low high leaves r f g n j (omega arith) o (omega arith) in
    ⊎_elim (λ (q : d i ≡ e i). q)
    (λ q. absurd (⊎_elim (λ (m : d i < e i). not_before d e i count low high leaves r later (f i h k) (g i h k) m)
    (λ (m : e i < d i). not_before e d i count low high leaves r (λ j o u. sym (later j o u)) (g i h k) (f i h k) m) q))
    (cases_order (d i) (e i))

pub one_response_obeys : OneResponseObeys
one_response_obeys leaves count low high d e players f g i h k = agree d e count low high leaves players.rising f g high i h k (omega arith)
