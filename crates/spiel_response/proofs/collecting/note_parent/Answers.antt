use Rattle.std.proofs.Common.{◌≡◌, ℕ, ◌+◌, List, true, ap, sym, subst, ◌∙◌}
use Rattle.std.specs.Prelude.{slice_set}
use Rattle.spiel_tree.specs.Rows.{Row}
use Rattle.spiel_tree.specs.Flat.{moves, row_at}
use Rattle.spiel_tree.specs.States.{state_number}
use Rattle.spiel_response.specs.Values.{Judged}
use Rattle.spiel_response.specs.Weighed.{IsJudgeable}
use Rattle.spiel_response.specs.SlotTable.{AreParentSlotsBefore}
use Rattle.spiel_response.proofs.ParentSlots.{parent_noted}
use Rattle.spiel_response.proofs.collecting.note_parent.Goals as goal

pub returns-then-is_left_out : goal.returns-then-is_left_out
returns-then-is_left_out c =
    let j = c.args.weighed.now in
    let ok : IsJudgeable j = subst IsJudgeable c.weighed.view_is c.weighed.invariant in
    let rows : c.weighed.inside.tree.now.rows ≡ j.tree.rows = ap (λ (j : Judged). j.tree.rows) c.weighed.view_is in
    let mine : moves c.args.player (row_at j.tree.rows c.args.row).here.place ≡ true =
    ap (λ (rs : List Row). moves c.args.player (row_at rs c.args.row).here.place) (sym rows) ∙ sym c.is_left_out.ensures ∙ c.if-is_left_out.true in
    let state : c.mover_state.result ≡ state_number j.tree.rows c.args.player (row_at j.tree.rows c.args.row).here.info =
    c.mover_state.ensures.state ∙ ap (λ (rs : List Row). state_number rs c.args.player (row_at rs c.args.row).here.info) rows in
    subst (λ (s : ℕ). AreParentSlotsBefore j c.args.player (c.args.row + 1) (slice_set c.args.parents.now s c.args.slot)) (sym state)
    (parent_noted j ok c.args.player c.args.row c.args.slot c.args.parents.now c.requires.player c.requires.within mine c.requires.slot c.requires.before)
