use Rattle.std.proofs.Common.{◌≡◌, ◌+◌, ◌<◌, ◌≤◌, ℕ, List, length, true, ap, sym, subst, ◌∙◌, arith, refl}
use Rattle.std.specs.Prelude.{slice_index}
use Rattle.spiel_tree.specs.Flat.{moves, row_at}
use Rattle.spiel_tree.specs.Subtrees.{child_at}
use Rattle.spiel_tree.specs.States.{state_number}
use Rattle.spiel_response.specs.Values.{Judged}
use Rattle.spiel_response.specs.Weighed.{IsJudgeable}
use Rattle.spiel_response.specs.SlotTable.{AreSlotStarts, own_slot, slot_count, state_count}
use Rattle.spiel_response.proofs.BestResponses.{states_within}
use Rattle.spiel_response.proofs.Descents.{below, slot_past, slot_taken}
use Rattle.spiel_response.proofs.OwnSlots.{own_slot_within}
use Rattle.spiel_response.proofs.OwnSteps.{state_within}
use Rattle.spiel_response.proofs.slots.slot_below.Goals as goal

pub returns-then-not-is_left_out : goal.returns-then-not-is_left_out
returns-then-not-is_left_out c =
    let j = c.args.weighed.now in
    let ok : IsJudgeable j = subst IsJudgeable c.weighed.view_is c.weighed.invariant in
    let other = ap (λ (x : Judged). moves c.args.player (row_at x.tree.rows c.args.row).here.place) (sym c.weighed.view_is) ∙ sym c.is_left_out.ensures ∙ c.if-not-is_left_out.true in
    slot_past j ok c.args.player c.args.row c.args.index c.args.above c.requires.within c.requires.index c.requires.above other

slot_is : (j : Judged) → IsJudgeable j → (p k i state : ℕ) (starts : List ℕ) → AreSlotStarts j starts → p < j.tree.players → k < length j.tree.rows → i < length (row_at j.tree.rows k).here.numbers
    → moves p (row_at j.tree.rows k).here.place ≡ true → state ≡ state_number j.tree.rows p (row_at j.tree.rows k).here.info → slice_index starts state + i ≡ own_slot j p (row_at j.tree.rows (child_at j.tree.rows k i))
slot_is j ok p k i state starts are m l n mine e =
    let number = state_number j.tree.rows p (row_at j.tree.rows k).here.info in
    let low : number ≤ state_count j = omega (arith, state_within j.tree.rows p k l mine, states_within j p m) in
    slot_taken j ok p k i (slice_index starts state) l n (ap (slice_index starts) e ∙ are.each number low) mine

pub overflow_add-result : goal.overflow_add-result
overflow_add-result c =
    let j = c.args.weighed.now in
    let ok : IsJudgeable j = subst IsJudgeable c.weighed.view_is c.weighed.invariant in
    let mine = ap (λ (x : Judged). moves c.args.player (row_at x.tree.rows c.args.row).here.place) (sym c.weighed.view_is) ∙ sym c.is_left_out.ensures ∙ c.if-not-is_left_out.false in
    let state = c.mover_state.ensures.state ∙ ap (λ (x : Judged). state_number x.tree.rows c.args.player (row_at x.tree.rows c.args.row).here.info) c.weighed.view_is in
    let is = slot_is j ok c.args.player c.args.row c.args.index c.mover_state.result c.args.starts.now c.requires.starts c.requires.player c.requires.within c.requires.index mine state in
    let child = child_at j.tree.rows c.args.row c.args.index in
    let within = (below j ok c.args.row c.args.index child c.requires.within c.requires.index refl).within in
    let last : slice_index c.args.starts.now (state_count j) ≡ slot_count j = c.requires.starts.each (state_count j) (omega arith) in
    omega (arith, is, own_slot_within j ok c.args.player child c.requires.player within, last, c.type_inv.starts (state_count j))

pub returns : goal.returns
returns c =
    let j = c.args.weighed.now in
    let ok : IsJudgeable j = subst IsJudgeable c.weighed.view_is c.weighed.invariant in
    let mine = ap (λ (x : Judged). moves c.args.player (row_at x.tree.rows c.args.row).here.place) (sym c.weighed.view_is) ∙ sym c.is_left_out.ensures ∙ c.if-not-is_left_out.false in
    let state = c.mover_state.ensures.state ∙ ap (λ (x : Judged). state_number x.tree.rows c.args.player (row_at x.tree.rows c.args.row).here.info) c.weighed.view_is in
    slot_is j ok c.args.player c.args.row c.args.index c.mover_state.result c.args.starts.now c.requires.starts c.requires.player c.requires.within c.requires.index mine state
