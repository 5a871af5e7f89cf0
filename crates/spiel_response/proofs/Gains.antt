-- What players gain: it fits, and it is never less than nothing.
use Rattle.std.proofs.Common.{◌≡◌, ℕ, zero, suc, ◌+◌, ◌<◌, ◌≤◌, List, [], ◌∷◌, ℤ, pos, ◌+ℤ◌, ◌-ℤ◌, ◌≤ℤ◌, refl, ap, sym, subst, ◌∙◌, arith}
use Rattle.std.specs.Prelude.{sum_by, nat_abs}
use Rattle.std.proofs.lemmas.List.Sums.{sum_by-cons}
use Rattle.std.proofs.lemmas.Int.{ints}
use Rattle.spiel_tree.specs.Rows.{Row}
use Rattle.spiel_response.specs.Reach.{leaves}
use Rattle.spiel_response.specs.Values.{Judged, expected_at, size_below, size_for, value_of}
use Rattle.spiel_response.specs.Weighed.{IsJudgeable}
use Rattle.spiel_response.specs.Responses.{Leaf, follows}
use Rattle.spiel_response.specs.BestResponses.{best_value, gains_below, own_leaf, player_leaves, response}
use Rattle.spiel_response.proofs.BestResponses.{response_is, response_is_best}
use Rattle.spiel_response.proofs.Fitting.{sum_over-le}
use Rattle.spiel_response.proofs.LeafSums.{parts}
use Rattle.spiel_response.proofs.SlotSums.{some_fit}

-- the sizes of both parts
sizes_split : (j : Judged) (p : ℕ) (xs : List Row) → sum_by (λ x. nat_abs (expected_at j.tree.rows j.profile p x)) xs + sum_by (λ z. nat_abs z.pay) (Rattle.std.proofs.Common.map (own_leaf j p) xs) ≡ sum_by (parts j p) xs
sizes_split j p [] = refl
sizes_split j p (x ∷ xs) =
    omega (arith, sum_by-cons (λ (y : Row). nat_abs (expected_at j.tree.rows j.profile p y)) x xs, sum_by-cons (λ (z : Leaf). nat_abs z.pay) (own_leaf j p x) (Rattle.std.proofs.Common.map (own_leaf j p) xs), sum_by-cons (parts j p) x xs, sizes_split j p xs)

pub gain_small : (j : Judged) (p : ℕ) → nat_abs (best_value j p -ℤ value_of j p) ≤ size_for j p
gain_small j p =
    let best : nat_abs (best_value j p) ≤ sum_by (λ z. nat_abs z.pay) (player_leaves j p) = some_fit (λ (z : Leaf). follows (response j p) z.steps) (player_leaves j p) in
    let own : nat_abs (value_of j p) ≤ sum_by (λ x. nat_abs (expected_at j.tree.rows j.profile p x)) (leaves j.tree.rows) =
    sum_over-le (expected_at j.tree.rows j.profile p) (λ (x : Row). nat_abs (expected_at j.tree.rows j.profile p x)) (λ x. omega arith) (leaves j.tree.rows) in
    let both = sizes_split j p (leaves j.tree.rows) in
    let less : nat_abs (best_value j p -ℤ value_of j p) ≤ nat_abs (best_value j p) + nat_abs (value_of j p) = omega (arith, ints) in
    omega (arith, best, own, both, less)

-- a player more
pub gains_more : (j : Judged) (p : ℕ) (gains gain : ℤ) → gains ≡ gains_below j p → gain ≡ best_value j p -ℤ value_of j p → gains +ℤ gain ≡ gains_below j (p + 1)
gains_more j p gains gain e f =
    Rattle.std.proofs.Common.ap₂ (λ (a b : ℤ). a +ℤ b) e f ∙ ap (gains_below j) (let next : suc p ≡ p + 1 = omega arith in next)

pub gains_small : (j : Judged) (n : ℕ) → nat_abs (gains_below j n) ≤ size_below j n
gains_small j zero = omega arith
gains_small j (suc n) =
    let both : nat_abs (gains_below j n +ℤ (best_value j n -ℤ value_of j n)) ≤ nat_abs (gains_below j n) + nat_abs (best_value j n -ℤ value_of j n) = omega (arith, ints) in
    omega (arith, gains_small j n, gain_small j n, both)

-- nobody loses by the best response
gain_low : (a b : ℤ) → a ≤ℤ b → pos 0 ≤ℤ (b -ℤ a)
gain_low a b l = omega (arith, ints)

add_low : (a b : ℤ) → pos 0 ≤ℤ a → pos 0 ≤ℤ b → pos 0 ≤ℤ (a +ℤ b)
add_low a b l m = omega (arith, ints)

pub gains_low : (j : Judged) → IsJudgeable j → (n : ℕ) → n ≤ j.tree.players → pos 0 ≤ℤ gains_below j n
gains_low j ok zero l = omega (arith, ints)
gains_low j ok (suc n) l =
    let best = response_is_best j ok n (response j n) (omega arith) (response_is j ok n (omega arith)) in
    add_low (gains_below j n) (best_value j n -ℤ value_of j n) (gains_low j ok n (omega arith)) (gain_low (value_of j n) (best_value j n) best.profile)
