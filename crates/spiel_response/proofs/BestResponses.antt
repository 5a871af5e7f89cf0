-- A response that takes the first of the best at each information state is best, one does, and it is the
-- one that backward induction gives.
use Rattle.std.proofs.Common.{◌≡◌, ℕ, zero, suc, ◌+◌, ◌-◌, ◌*◌, ◌/◌, ◌<◌, ◌≤◌, Bool, true, false, cond, List, [], ◌∷◌, length, map, ℤ, pos, ◌+ℤ◌, ◌*ℤ◌, ◌≤ℤ◌, refl, ap, ap₂, sym, subst, subst₂, ◌∙◌, arith, eqb-true}
use Rattle.std.specs.Prelude.{slice_index, sum, Some, None}
use Rattle.std.specs.Int.{◌∣◌}
use Rattle.std.proofs.Math.Nat.{mul-div_cancel', mul-div_right}
use Rattle.std.proofs.lemmas.Bool.{false≢true}
use Rattle.std.proofs.lemmas.List.Elements.{All-get_or}
use Rattle.std.proofs.lemmas.List.Sums.{sum_by-cons}
use Rattle.spiel_api.specs.declared.place.Place.{Place}
use Rattle.spiel_api.specs.declared.place.Place.TheVariants.{End, Chance, Move, Joint}
use Rattle.spiel_tree.specs.Rows.{Node, Row, Step}
use Rattle.spiel_tree.specs.Flat.{moves, row_at}
use Rattle.spiel_tree.specs.States.{state_number, states_below}
use Rattle.spiel_tree.proofs.StateChoices.{state_goes_on}
use Rattle.spiel_tree.proofs.StateNumbers.{one_player_more, players_within}
use Rattle.spiel_policy.specs.Profiles.{AreReduced, Profile, total, weight, weights_of}
use Rattle.spiel_response.specs.Reach.{leaves, product, scale_of, total_by, total_of, totals_to, weight_by, weight_of, weights_to}
use Rattle.spiel_response.specs.Values.{Judged, expected_at, return_to, sum_over}
use Rattle.spiel_response.specs.Weighed.{IsJudgeable}
use Rattle.spiel_response.specs.Responses.{OwnStep, Leaf, ObeysLocalRule, realization, response_from, sum_below}
use Rattle.spiel_response.specs.BestResponses.{IsBest, IsResponse, count_at, first_state, own_leaf, own_steps, player_leaves, response}
use Rattle.spiel_response.proofs.BackwardInduction.{response_obeys}
use Rattle.spiel_response.proofs.Exchange.{no_policy_earns_more, no_response_earns_more}
use Rattle.spiel_response.proofs.Integers.{times_times}
use Rattle.spiel_response.proofs.Laws.{IsEarned, IsOwnPart, Played, leaves_of, wholes}
use Rattle.spiel_response.proofs.OneResponse.{one_response_obeys}
use Rattle.spiel_response.proofs.OwnPart.{no_profile_earns_more}
use Rattle.spiel_response.proofs.PlayerLeaves.{each_leaf, players_leaves}
use Rattle.spiel_response.proofs.Products.{scale_is_least, totals_divide}

-- ---- the information states of a player
pub states_within : (j : Judged) (p : ℕ) → p < j.tree.players → first_state j (suc p) ≤ length (states_below j.tree.players j.tree.rows)
states_within j p l = omega (arith, one_player_more p j.tree.rows, players_within j.tree.players p j.tree.rows l)

pub some_numbers : (j : Judged) → IsJudgeable j → (p i : ℕ) → p < j.tree.players → i < first_state j (suc p) → 0 < count_at j i
some_numbers j ok p i l m = state_goes_on j.tree ok.game i (omega (arith, states_within j p l))

-- ---- one response obeys the local rule
pub response_is : (j : Judged) → IsJudgeable j → (p : ℕ) → p < j.tree.players → IsResponse j p (response j p)
unfolding response
response_is j ok p l =
    let low = first_state j p in
    let high = first_state j (suc p) in
    let players = players_leaves j ok p in
    let n = high - low in
    let all : low + n ≡ high = omega (arith, players.ordered) in
    subst (ObeysLocalRule (response_from (player_leaves j p) (count_at j) low n) (player_leaves j p) (count_at j) low) all
    (response_obeys (player_leaves j p) (count_at j) low n (subst (λ (h : ℕ). Rattle.spiel_response.specs.Remembered.IsPlayersLeaves (player_leaves j p) (count_at j) low h) (sym all) players)
    (λ i g m. some_numbers j ok p i l (omega (arith, all))))

pub only_response : (j : Judged) → IsJudgeable j → (p : ℕ) (d e : ℕ → ℕ) → IsResponse j p d → IsResponse j p e → (i : ℕ) → first_state j p ≤ i → i < first_state j (suc p) → d i ≡ e i
only_response j ok p d e f g i l m = one_response_obeys (player_leaves j p) (count_at j) (first_state j p) (first_state j (suc p)) d e (players_leaves j ok p) f g i l m

-- ---- the player's own part of a product
-- at a place where the player moves
own_weight : (rows : List Row) (profile : Profile) (node : Node) (index p : ℕ) (place : Place) → moves p place ≡ true → weight_by rows profile node index place ≡ weight profile (state_number rows p node.info) index
own_weight rows profile node index p End e = absurd (false≢true e)
own_weight rows profile node index p Chance e = absurd (false≢true e)
own_weight rows profile node index p (Move q) e = ap (λ (r : ℕ). weight profile (state_number rows r node.info) index) (sym (eqb-true p q e))
own_weight rows profile node index p (Joint q) e = absurd (false≢true e)

own_total : (rows : List Row) (profile : Profile) (node : Node) (p : ℕ) (place : Place) → moves p place ≡ true → total_by rows profile node place ≡ total profile (state_number rows p node.info)
own_total rows profile node p End e = absurd (false≢true e)
own_total rows profile node p Chance e = absurd (false≢true e)
own_total rows profile node p (Move q) e = ap (λ (r : ℕ). total profile (state_number rows r node.info)) (sym (eqb-true p q e))
own_total rows profile node p (Joint q) e = absurd (false≢true e)

-- one step
step_weights : (a n b c r : ℕ) → n ≡ c * r → a * n ≡ 1 * c * (a * r)
step_weights a n b c r e = let times = ap (λ (x : ℕ). a * x) e in omega arith

other_weights : (a n c r : ℕ) → n ≡ c * r → a * n ≡ a * c * r
other_weights a n c r e = let times = ap (λ (x : ℕ). a * x) e in omega arith

pub weights_split : (j : Judged) (p : ℕ) (way : List Step)
    → product None (weight_of j.tree.rows j.profile) way ≡ product (Some p) (weight_of j.tree.rows j.profile) way * realization (weight j.profile) (own_steps j.tree.rows p way)
weights_split j p [] = omega arith
weights_split j p (step ∷ way) = by (moves p step.at.place) refl (weights_split j p way)
  where
    w : ℕ
    w = weight_of j.tree.rows j.profile step

    n : ℕ
    n = product None (weight_of j.tree.rows j.profile) way

    c : ℕ
    c = product (Some p) (weight_of j.tree.rows j.profile) way

    s : List OwnStep
    s = own_steps j.tree.rows p way

    here : OwnStep
    here = record { state = state_number j.tree.rows p step.at.info; index = step.index }

    by : (b : Bool) → moves p step.at.place ≡ b → n ≡ c * realization (weight j.profile) s → w * n ≡ cond b 1 w * c * realization (weight j.profile) (cond b (here ∷ s) s)
    by true e ih =
        step_weights w n 1 c (realization (weight j.profile) s) ih
        ∙ ap (λ (x : ℕ). 1 * c * (x * realization (weight j.profile) s)) (own_weight j.tree.rows j.profile step.at step.index p step.at.place e)
    by false e ih = other_weights w n c (realization (weight j.profile) s) ih

pub totals_split : (j : Judged) (p : ℕ) (way : List Step)
    → product None (λ step. total_of j.tree.rows j.profile step.at) way ≡ product (Some p) (λ step. total_of j.tree.rows j.profile step.at) way * wholes (total j.profile) (own_steps j.tree.rows p way)
totals_split j p [] = omega arith
totals_split j p (step ∷ way) = by (moves p step.at.place) refl (totals_split j p way)
  where
    w : ℕ
    w = total_of j.tree.rows j.profile step.at

    n : ℕ
    n = product None (λ s. total_of j.tree.rows j.profile s.at) way

    c : ℕ
    c = product (Some p) (λ s. total_of j.tree.rows j.profile s.at) way

    s : List OwnStep
    s = own_steps j.tree.rows p way

    here : OwnStep
    here = record { state = state_number j.tree.rows p step.at.info; index = step.index }

    by : (b : Bool) → moves p step.at.place ≡ b → n ≡ c * wholes (total j.profile) s → w * n ≡ cond b 1 w * c * wholes (total j.profile) (cond b (here ∷ s) s)
    by true e ih =
        step_weights w n 1 c (wholes (total j.profile) s) ih
        ∙ ap (λ (x : ℕ). 1 * c * (x * wholes (total j.profile) s)) (own_total j.tree.rows j.profile step.at p step.at.place e)
    by false e ih = other_weights w n c (wholes (total j.profile) s) ih

-- ---- one leaf
scale_parts : (scale least rest : ℕ) → 0 < scale → least * rest ∣ scale → scale / least ≡ rest * (scale / (least * rest))
scale_parts scale least rest h d =
    let k = scale / (least * rest) in
    let back : least * rest * k ≡ scale = mul-div_cancel' (least * rest) d in
    let whole : scale ≡ least * (rest * k) = omega (arith, back) in
    let some : 0 < least = positive least (rest * k) (omega (arith, whole)) in
    ap (λ (n : ℕ). n / least) whole ∙ mul-div_right (rest * k) some
  where
    positive : (m n : ℕ) → 0 < m * n → 0 < m
    positive zero n l = absurd (omega arith)
    positive (suc m) n l = omega arith

regroup : (a b c d : ℕ) → a * (b * (c * d)) ≡ c * (b * a * d)
regroup a b c d = omega arith

abbrev played : Judged → ℕ → Row → Played
played j p row = record { leaf = own_leaf j p row; earned = expected_at j.tree.rows j.profile p row }

is_earned : (j : Judged) → IsJudgeable j → (p k : ℕ) → k < length j.tree.rows → IsEarned (weight j.profile) (total j.profile) (played j p (row_at j.tree.rows k))
is_earned j ok p k l =
    let row = row_at j.tree.rows k in
    let scale = scale_of j.tree.rows j.profile in
    let nb = weights_to j.tree.rows j.profile (Some p) row in
    let db = totals_to j.tree.rows j.profile (Some p) row in
    let cv = realization (weight j.profile) (own_steps j.tree.rows p row.way) in
    let w = wholes (total j.profile) (own_steps j.tree.rows p row.way) in
    let pay = return_to p row in
    let n : weights_to j.tree.rows j.profile None row ≡ nb * cv = weights_split j p row.way in
    let e : totals_to j.tree.rows j.profile None row ≡ db * w = totals_split j p row.way in
    let parts : scale / db ≡ w * (scale / (db * w)) = scale_parts scale db w (scale_is_least j ok).positive (subst (λ (y : ℕ). y ∣ scale) e (totals_divide j ok None k l)) in
    let k = scale / (db * w) in
    let left : cv * (nb * (scale / db)) ≡ cv * (nb * (w * k)) = ap (λ (y : ℕ). cv * (nb * y)) parts in
    let same : cv * (nb * (scale / db)) ≡ w * (nb * cv * k) = left ∙ regroup cv nb w k in
    times_times cv (nb * (scale / db)) pay ∙ ap (λ (y : ℕ). pos y *ℤ pay) same ∙ sym (times_times w (nb * cv * k) pay)
    ∙ ap₂ (λ (y z : ℕ). pos w *ℤ (pos (y * (scale / z)) *ℤ pay)) (sym n) (sym e)

played_leaves : (j : Judged) (p : ℕ) (xs : List Row) → leaves_of (map (played j p) xs) ≡ map (own_leaf j p) xs
played_leaves j p [] = refl
played_leaves j p (x ∷ xs) = ap (λ (l : List Leaf). own_leaf j p x ∷ l) (played_leaves j p xs)

played_value : (j : Judged) (p : ℕ) (xs : List Row) → sum_over (λ z. z.earned) (map (played j p) xs) ≡ sum_over (expected_at j.tree.rows j.profile p) xs
played_value j p [] = refl
played_value j p (x ∷ xs) = ap (λ (y : ℤ). expected_at j.tree.rows j.profile p x +ℤ y) (played_value j p xs)

-- ---- the player's part of the profile
sum_below-cons : (x : ℕ) (xs : List ℕ) (n : ℕ) → sum_below (slice_index (x ∷ xs)) (suc n) ≡ x + sum_below (slice_index xs) n
sum_below-cons x xs zero = omega arith
sum_below-cons x xs (suc n) = let ih = sum_below-cons x xs n in omega arith

sum_below_all : (xs : List ℕ) → sum_below (slice_index xs) (length xs) ≡ sum xs
sum_below_all [] = refl
sum_below_all (x ∷ xs) = sum_below-cons x xs (length xs) ∙ ap (λ (n : ℕ). x + n) (sum_below_all xs) ∙ sym (sum_by-cons (λ (y : ℕ). y) x xs)

own_part : (j : Judged) → IsJudgeable j → (p : ℕ) → p < j.tree.players → IsOwnPart (weight j.profile) (total j.profile) (count_at j) (first_state j p) (first_state j (suc p))
own_part j ok p l = record {
  positive = λ i g m. (All-get_or AreReduced j.profile i [] (within i m) ok.fits.reduced).least.positive;
  sums = λ i g m. ap (sum_below (weight j.profile i)) (sym (ok.fits.numbers i (within i m))) ∙ sum_below_all (weights_of j.profile i);
}
  where
    within : (i : ℕ) → i < first_state j (suc p) → i < length j.profile
    within i m = omega (arith, states_within j p l, ok.fits.states)

-- ---- the law
pub response_is_best : (j : Judged) → IsJudgeable j → (p : ℕ) (d : ℕ → ℕ) → p < j.tree.players → IsResponse j p d → IsBest j p d
response_is_best j ok p d l obeys =
    let players = players_leaves j ok p in
    let low = first_state j p in
    let high = first_state j (suc p) in
    let zs = map (played j p) (leaves j.tree.rows) in
    let same : leaves_of zs ≡ player_leaves j p = played_leaves j p (leaves j.tree.rows) in
    let earned = each_leaf (IsEarned (weight j.profile) (total j.profile)) (played j p) j.tree.rows (λ k m. is_earned j ok p k m) in
    let law = no_profile_earns_more zs (count_at j) low high d
    (subst (λ (z : List Leaf). Rattle.spiel_response.specs.Remembered.IsPlayersLeaves z (count_at j) low high) (sym same) players)
    (subst (λ (z : List Leaf). ObeysLocalRule d z (count_at j) low high) (sym same) obeys)
    (weight j.profile) (total j.profile) (own_part j ok p l) earned in
    record {
      policies = λ q w positive policy. no_policy_earns_more (player_leaves j p) (count_at j) low high d players obeys q w positive policy;
      responses = λ e legal. no_response_earns_more (player_leaves j p) (count_at j) low high d players obeys e legal;
      profile = subst₂ (λ (x : ℤ) (z : List Leaf). x ≤ℤ Rattle.spiel_response.specs.Responses.earns d z) (played_value j p (leaves j.tree.rows)) same law;
    }
