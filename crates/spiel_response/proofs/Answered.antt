-- A response more is made.
use Rattle.std.proofs.Common.{◌≡◌, ℕ, suc, ◌<◌, ◌≤◌, ⊎_elim, Bool, true, false, List, length, ℤ, pos, ap, sym, subst, ◌∙◌, arith, get_or-set_same, get_or-set_other}
use Rattle.std.specs.Prelude.{replicate, slice_index_or, slice_set}
use Rattle.std.proofs.lemmas.Bool.{cases_eq, cases_order}
use Rattle.std.proofs.lemmas.List.{get_or-replicate, get_or_past, length-replicate, length-set}
use Rattle.spiel_response.specs.Answered.{AreAnswers, HasRoom, IsAnswered, OthersStay, Solving}
use Rattle.spiel_response.specs.BestResponses.{best_value, first_state}
use Rattle.spiel_response.specs.Values.{Judged}
use Rattle.spiel_response.proofs.Collected.{players_apart}

-- an information state of one player is none of another's
apart : (j : Judged) (p q i : ℕ) → (q ≡ p → ⊥) → first_state j q ≤ i → i < first_state j (suc q) → first_state j p ≤ i → i < first_state j (suc p) → ⊥
apart j p q i other from to low high = ⊎_elim
    (λ (e : q ≡ p). other e)
    (λ o. ⊎_elim (λ (l : q < p). absurd (omega (arith, players_apart j q p l))) (λ (l : p < q). absurd (omega (arith, players_apart j p q l))) o)
    (cases_order q p)

abbrev with_made : Judged → List Bool → Solving
with_made j made = record { judged = j; made = made }

pub answered_more : (j : Judged) (p : ℕ) (made new_made : List Bool) (earned new_earned : List ℤ) (answers new_answers : List ℕ) (sums new_sums : List ℤ) (best : ℤ) → p < j.tree.players
    → IsAnswered (record { judged = j; made = made }) earned answers sums
    → new_made ≡ slice_set made p true → new_earned ≡ slice_set earned p best → length new_answers ≡ length answers → length new_sums ≡ length sums
    → AreAnswers j p new_answers → OthersStay j p answers new_answers → best ≡ best_value j p
    → IsAnswered (record { judged = j; made = new_made }) new_earned new_answers new_sums
answered_more j p made new_made earned new_earned answers new_answers sums new_sums best m are em ee ea es own others is =
    record {
      made_count = ap length em ∙ length-set made p true ∙ are.made_count;
      earned_count = ap length ee ∙ length-set earned p best ∙ are.earned_count;
      room = record { sums_count = es ∙ are.room.sums_count; answers_count = ea ∙ are.room.answers_count };
      earned_is = λ q l t. ap (λ (xs : List ℤ). slice_index_or xs q (pos 0)) ee ∙ ⊎_elim
          (λ (e : q ≡ p).
          ap (λ (i : ℕ). slice_index_or (slice_set earned p best) i (pos 0)) e ∙ get_or-set_same earned p best (pos 0) (omega (arith, m, are.earned_count)) ∙ is ∙ ap (best_value j) (sym e))
          (λ (o : q ≡ p → ⊥). get_or-set_other earned p q best (pos 0) o ∙ are.earned_is q l (was q o t))
          (cases_eq q p);
      answers_are = λ q l t i from to. ⊎_elim
          (λ (e : q ≡ p). subst (λ (r : ℕ). AreAnswers j r new_answers) (sym e) own i from to)
          (λ (o : q ≡ p → ⊥). others i (λ low high. apart j p q i o from to low high) ∙ are.answers_are q l (was q o t) i from to)
          (cases_eq q p);
    }
  where
    was : (q : ℕ) → (q ≡ p → ⊥) → slice_index_or new_made q false ≡ true → slice_index_or made q false ≡ true
    was q o t = sym (get_or-set_other made p q true false o) ∙ sym (ap (λ (xs : List Bool). slice_index_or xs q false) em) ∙ t

-- while none is made nothing is asked
pub none_answered : (j : Judged) (made : List Bool) (earned : List ℤ) (answers : List ℕ) (sums : List ℤ) → length made ≡ j.tree.players → length earned ≡ j.tree.players → HasRoom j sums answers
    → ((p : ℕ) → slice_index_or made p false ≡ false) → IsAnswered (record { judged = j; made = made }) earned answers sums
none_answered j made earned answers sums em ee room none = record {
  made_count = em;
  earned_count = ee;
  room = room;
  earned_is = λ p l t. absurd (Rattle.std.proofs.lemmas.Bool.true≢false (sym t ∙ none p));
  answers_are = λ p l t. absurd (Rattle.std.proofs.lemmas.Bool.true≢false (sym t ∙ none p));
}

pub none_in : (n p : ℕ) → slice_index_or (replicate n false) p false ≡ false
none_in n p = ⊎_elim
    (λ (l : p < n). get_or-replicate n p false false l)
    (λ (l : n ≤ p). get_or_past (replicate n false) p false (omega (arith, l, length-replicate n false)))
    (Rattle.std.proofs.lemmas.Bool.cases_lt p n)

-- at first
pub nothing_answered : (j : Judged) (made : List Bool) (earned : List ℤ) (answers : List ℕ) (sums : List ℤ) → made ≡ replicate j.tree.players false → length earned ≡ j.tree.players → HasRoom j sums answers
    → IsAnswered (record { judged = j; made = made }) earned answers sums
nothing_answered j made earned answers sums em ee room =
    none_answered j made earned answers sums (ap length em ∙ length-replicate j.tree.players false) ee room
    (λ p. ap (λ (xs : List Bool). slice_index_or xs p false) em ∙ none_in j.tree.players p)
