-- One information state of a player is answered, when those behind it are; the first step, and the last.
use Rattle.std.proofs.Common.{◌≡◌, ℕ, suc, ◌+◌, ◌<◌, ◌≤◌, inl, ⊎_elim, Bool, cond, List, length, ℤ, pos, ◌+ℤ◌, refl, ap, sym, subst, subst₂, ◌∙◌, arith, get_or-set_other}
use Rattle.std.specs.Prelude.{slice_index_or, slice_set, nat_abs}
use Rattle.std.proofs.lemmas.Bool.{cases_lt}
use Rattle.spiel_frac.specs.Fraction.{most}
use Rattle.spiel_response.specs.Answered.{AreAnswers, HasRoom, IsPassed}
use Rattle.spiel_response.specs.BestResponses.{best_value, count_at, earned_by, first_state, player_leaves, response}
use Rattle.spiel_response.specs.Greatest.{IsBestSoFar}
use Rattle.spiel_response.specs.Responses.{IsFirstBest, Leaf, follows}
use Rattle.spiel_response.specs.SlotTable.{AreCollected, IsParentSlot, slot_start, state_count}
use Rattle.spiel_response.specs.Slots.{index_of}
use Rattle.spiel_response.specs.Values.{Judged, NumbersFit}
use Rattle.spiel_response.specs.Weighed.{IsJudgeable}
use Rattle.spiel_response.proofs.BestResponses.{only_response, response_is, states_within}
use Rattle.spiel_response.proofs.Collected.{collected_is, own_leaves_fit}
use Rattle.spiel_response.proofs.Exchange.{every_leaf}
use Rattle.spiel_response.proofs.LeafSums.{size_below-le}
use Rattle.spiel_response.proofs.LocalRule.{later_first_best}
use Rattle.spiel_response.proofs.OneResponse.{within_follows}
use Rattle.spiel_response.proofs.OwnSlots.{parent_before, parent_of, starts_of, starts_rise}
use Rattle.spiel_response.proofs.PassingBack.{back_fits, live_before, rule_at}
use Rattle.spiel_response.proofs.PlayerLeaves.{players_leaves}
use Rattle.spiel_response.proofs.PolicySums.{sum_over_same}
use Rattle.spiel_response.proofs.SlotSums.{last_is, root_is, some_fit}

-- ---- one information state
-- what is passed back fits
pub state_fits : (j : Judged) → IsJudgeable j → NumbersFit j → (p i parent start a : ℕ) (sums : List ℤ) (answers : List ℕ) → p < j.tree.players → first_state j p ≤ i → i < first_state j (suc p)
    → HasRoom j sums answers → IsPassed j p (i + 1) sums answers → IsParentSlot j p i parent → start ≡ slot_start j i → a < count_at j i
    → nat_abs (slice_index_or sums parent (pos 0) +ℤ slice_index_or sums (start + a) (pos 0)) ≤ most
state_fits j ok fit p i parent start a sums answers m from to room passed is e l =
    let before = parent_before j ok p i parent m is from to in
    let low = first_state j p in
    let high = first_state j (suc p) in
    let few : i < length answers = omega (arith, room.answers_count, to, states_within j p m) in
    let fits = back_fits p (slot_start j) (count_at j) low high i (i + 1) parent (player_leaves j p) (starts_of j p m) (players_leaves j ok p).rising (parent_of j ok p i parent is) from to (omega arith) before.0 before.1
    answers a sums few l passed.sums_are in
    let at = ap (λ (s : ℕ). nat_abs (slice_index_or sums parent (pos 0) +ℤ slice_index_or sums (s + a) (pos 0))) e in
    omega (arith, at, fits, own_leaves_fit j p, size_below-le j j.tree.players p m, fit.sizes)

-- then the state is answered
pub state_passed : (j : Judged) → IsJudgeable j → (p i parent start count best : ℕ) (sums after : List ℤ) (answers : List ℕ) → p < j.tree.players → first_state j p ≤ i → i < first_state j (suc p)
    → HasRoom j sums answers → IsPassed j p (i + 1) sums answers → IsParentSlot j p i parent → start ≡ slot_start j i → count ≡ count_at j i
    → IsBestSoFar (λ a. slice_index_or sums (start + a) (pos 0)) count best (slice_index_or sums (start + best) (pos 0))
    → after ≡ slice_set sums parent (slice_index_or sums parent (pos 0) +ℤ slice_index_or sums (start + best) (pos 0))
    → IsPassed j p i after (slice_set answers i best)
state_passed j ok p i parent start count best sums after answers m from to room passed is es ec greatest set =
    let before = parent_before j ok p i parent m is from to in
    let low = first_state j p in
    let high = first_state j (suc p) in
    let leaves = player_leaves j p in
    let rising = (players_leaves j ok p).rising in
    let up = parent_of j ok p i parent is in
    let few : i < length answers = omega (arith, room.answers_count, to, states_within j p m) in
    let next : i + 1 ≡ suc i = omega arith in
    let first : IsBestSoFar (λ a. slice_index_or sums (slot_start j i + a) (pos 0)) (count_at j i) best (slice_index_or sums (slot_start j i + best) (pos 0)) =
    subst₂ (λ (s n : ℕ). IsBestSoFar (λ a. slice_index_or sums (s + a) (pos 0)) n best (slice_index_or sums (s + best) (pos 0))) es ec greatest in
    let sum : after ≡ slice_set sums parent (slice_index_or sums parent (pos 0) +ℤ slice_index_or sums (slot_start j i + best) (pos 0)) =
    set ∙ ap (λ (s : ℕ). slice_set sums parent (slice_index_or sums parent (pos 0) +ℤ slice_index_or sums (s + best) (pos 0))) es in
    let long : slot_start j (i + 1) ≤ length sums = omega (arith, room.sums_count, starts_rise j (i + 1) (state_count j) (omega (arith, to, states_within j p m))) in
    record {
      sums_are = live_before p (slot_start j) (count_at j) low high i (i + 1) parent leaves (starts_of j p m) rising up from to next before.0 before.1 answers best sums after few first.best_below long passed.sums_are sum;
      rule = λ s g h. ⊎_elim
          (λ (l : i < s). later_first_best (index_of answers) (index_of (slice_set answers i best)) s (count_at j) low high leaves rising
          (λ t k. sym (get_or-set_other answers i t best 0 (λ e. omega arith))) (passed.rule s (omega arith) h))
          (λ (l : s ≤ i).
          let same : i ≡ s = omega arith in
          subst (λ (t : ℕ). IsFirstBest (index_of (slice_set answers i best)) leaves t (count_at j t)) same
          (rule_at p (slot_start j) (count_at j) low high i (i + 1) parent leaves (starts_of j p m) rising up from to next before.0 before.1 answers best sums (slice_index_or sums (slot_start j i + best) (pos 0)) few passed.sums_are first))
          (cases_lt i s);
    }

-- ---- the ends
-- behind the last information state nothing was passed back
pub passed_start : (j : Judged) → IsJudgeable j → (p : ℕ) (sums : List ℤ) (answers : List ℕ) → p < j.tree.players → AreCollected j j.tree.players sums → IsPassed j p (first_state j (suc p)) sums answers
passed_start j ok p sums answers m are =
    let high = first_state j (suc p) in
    record {
      sums_are = λ k own below.
          are.each k (omega (arith, below, starts_rise j high (state_count j) (states_within j p m)))
          ∙ collected_is j ok p k m (record { own = own; below = below })
          ∙ sym (last_is p (slot_start j) (count_at j) (index_of answers) (first_state j p) high k (player_leaves j p) (players_leaves j ok p).rising);
      rule = λ i g h. absurd (omega arith);
    }

-- responses that agree at the player's information states earn the same
earns_same : (j : Judged) → IsJudgeable j → (p : ℕ) (d e : ℕ → ℕ) → ((i : ℕ) → first_state j p ≤ i → i < first_state j (suc p) → d i ≡ e i) → earned_by j p d ≡ earned_by j p e
earns_same j ok p d e same =
    sum_over_same _ _ (player_leaves j p) (every_leaf _ _ (λ z r. ap (λ (t : Bool). cond t z.pay (pos 0)) (within_follows d e (count_at j) (first_state j p) (first_state j (suc p)) z.steps r same)) (player_leaves j p) (players_leaves j ok p).rising)

pub passed_answers : (j : Judged) → IsJudgeable j → (p : ℕ) (sums : List ℤ) (answers : List ℕ) → p < j.tree.players → IsPassed j p (first_state j p) sums answers → AreAnswers j p answers
passed_answers j ok p sums answers m passed i from to = only_response j ok p (index_of answers) (response j p) passed.rule (response_is j ok p m) i from to

pub passed_earned : (j : Judged) → IsJudgeable j → (p : ℕ) (sums : List ℤ) (answers : List ℕ) → p < j.tree.players → IsPassed j p (first_state j p) sums answers → slice_index_or sums p (pos 0) ≡ best_value j p
passed_earned j ok p sums answers m passed =
    passed.sums_are p (inl refl) (starts_of j p m).first
    ∙ root_is p (slot_start j) (count_at j) (index_of answers) (first_state j p) (first_state j (suc p)) (player_leaves j p) (players_leaves j ok p).rising
    ∙ earns_same j ok p (index_of answers) (response j p) (passed_answers j ok p sums answers m passed)

-- what a response earns fits
pub best_value_small : (j : Judged) → NumbersFit j → (p : ℕ) → p < j.tree.players → nat_abs (best_value j p) ≤ most
best_value_small j fit p m =
    omega (arith, some_fit (λ (z : Leaf). follows (response j p) z.steps) (player_leaves j p), own_leaves_fit j p, size_below-le j j.tree.players p m, fit.sizes)
