-- The slots before information states, noted row by row.
use Rattle.std.proofs.Common.{◌≡◌, ℕ, ◌+◌, ◌<◌, ◌≤◌, ⊎_elim, true, false, List, length, ap, sym, subst, ◌∙◌, arith, get_or-set_same, get_or-set_other}
use Rattle.std.specs.Prelude.{slice_index, slice_set}
use Rattle.std.proofs.lemmas.Bool.{cases_eq, cases_lt, true≢false}
use Rattle.std.proofs.lemmas.List.{length-set}
use Rattle.spiel_tree.specs.Flat.{moves, row_at}
use Rattle.spiel_tree.specs.States.{state_number}
use Rattle.spiel_response.specs.Values.{Judged}
use Rattle.spiel_response.specs.Weighed.{IsJudgeable}
use Rattle.spiel_response.specs.Slots.{last_slot}
use Rattle.spiel_response.specs.SlotTable.{AreParentSlots, AreParentSlotsBefore, own_slot, slot_start, state_count}
use Rattle.spiel_response.proofs.BestResponses.{states_within}
use Rattle.spiel_response.proofs.Collected.{players_apart}
use Rattle.spiel_response.proofs.OwnSteps.{state_steps, state_within}

abbrev number : Judged → ℕ → ℕ → ℕ
number j p k = state_number j.tree.rows p (row_at j.tree.rows k).here.info

-- the state of a row of the player has room
pub state_room : (j : Judged) (p k : ℕ) (parents : List ℕ) → p < j.tree.players → k < length j.tree.rows → moves p (row_at j.tree.rows k).here.place ≡ true → length parents ≡ state_count j
    → state_number j.tree.rows p (row_at j.tree.rows k).here.info < length parents
state_room j p k parents m l e count = omega (arith, state_within j.tree.rows p k l e, states_within j p m, count)

-- the states of a player below are others
other_state : (j : Judged) (q p k n : ℕ) → q < p → k < length j.tree.rows → moves q (row_at j.tree.rows k).here.place ≡ true → number j q k ≡ number j p n → ⊥
other_state j q p k n l within e same = omega (arith, state_within j.tree.rows q k within e, players_apart j q p l, same)

-- a row of the player
pub parent_noted : (j : Judged) → IsJudgeable j → (p n slot : ℕ) (parents : List ℕ) → p < j.tree.players → n < length j.tree.rows → moves p (row_at j.tree.rows n).here.place ≡ true
    → slot ≡ own_slot j p (row_at j.tree.rows n) → AreParentSlotsBefore j p n parents
    → AreParentSlotsBefore j p (n + 1) (slice_set parents (state_number j.tree.rows p (row_at j.tree.rows n).here.info) slot)
parent_noted j ok p n slot parents m l e is are =
    let room = state_room j p n parents m l e are.others.count in
    record {
      others = record {
        count = length-set parents (number j p n) slot ∙ are.others.count;
        each = λ q i below k within f at.
            get_or-set_other parents (number j p n) i slot 0 (λ same. other_state j q p k n below within f (at ∙ same)) ∙ are.others.each q i below k within f at;
      };
      own = λ k before within f. ⊎_elim
          (λ (same : number j p k ≡ number j p n).
          ap (slice_index (slice_set parents (number j p n) slot)) same ∙ get_or-set_same parents (number j p n) slot 0 room ∙ is
          ∙ sym (ap (last_slot (slot_start j) p) (state_steps j.tree ok.game p k n within l f e same)))
          (λ (other : number j p k ≡ number j p n → ⊥).
          get_or-set_other parents (number j p n) (number j p k) slot 0 other
          ∙ are.own k (⊎_elim (λ (b : k < n). b) (λ (b : n ≤ k). let same : k ≡ n = omega arith in absurd (other (ap (number j p) same))) (cases_lt k n)) within f)
          (cases_eq (number j p k) (number j p n));
    }

-- another row
pub parent_passed : (j : Judged) (p n : ℕ) (parents : List ℕ) → moves p (row_at j.tree.rows n).here.place ≡ false → AreParentSlotsBefore j p n parents → AreParentSlotsBefore j p (n + 1) parents
parent_passed j p n parents e are = record {
  others = are.others;
  own = λ k before within f. are.own k (⊎_elim
      (λ (b : k < n). b)
      (λ (b : n ≤ k). let same : k ≡ n = omega arith in absurd (true≢false (sym f ∙ ap (λ (i : ℕ). moves p (row_at j.tree.rows i).here.place) same ∙ e)))
      (cases_lt k n)) within f;
}

-- from one player to the next
pub parents_start : (j : Judged) (p : ℕ) (parents : List ℕ) → AreParentSlots j p parents → AreParentSlotsBefore j p 0 parents
parents_start j p parents are = record { others = are; own = λ k l. absurd (omega arith) }

pub parents_end : (j : Judged) (p n : ℕ) (parents : List ℕ) → length j.tree.rows ≤ n → AreParentSlotsBefore j p n parents → AreParentSlots j (p + 1) parents
parents_end j p n parents l are = record {
  count = are.others.count;
  each = λ q i below k within f at. ⊎_elim
      (λ (b : q < p). are.others.each q i b k within f at)
      (λ (b : p ≤ q).
      let same : p ≡ q = omega arith in
      subst (λ (r : ℕ). moves r (row_at j.tree.rows k).here.place ≡ true → state_number j.tree.rows r (row_at j.tree.rows k).here.info ≡ i → slice_index parents i ≡ own_slot j r (row_at j.tree.rows k)) same
      (λ g h. ap (slice_index parents) (sym h) ∙ are.own k (omega arith) within g) f at)
      (cases_lt q p);
}
