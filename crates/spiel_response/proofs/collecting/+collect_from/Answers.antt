use Rattle.std.proofs.Common.{◌<◌, ℕ, length, subst, ap, arith, ◌∙◌, sym, Some}
use Rattle.spiel_tree.specs.Flat.{row_at}
use Rattle.spiel_response.specs.Reach.{reach}
use Rattle.spiel_response.specs.SlotTable.{AreCollectedBefore, AreParentSlotsBefore, own_slot}
use Rattle.spiel_response.specs.Values.{Judged}
use Rattle.spiel_response.specs.Weighed.{IsJudgeable}
use Rattle.spiel_response.proofs.Descents.{below, last_child, no_child}
use Rattle.spiel_response.proofs.collecting.+collect_from.Goals as goal

pub returns-then-count-eq0-clause-next : goal.returns-then-count-eq0-clause-next
returns-then-count-eq0-clause-next t c =
    let count = c.row_count-count.ensures ∙ ap (λ (j : Judged). length (row_at j.tree.rows c.args.row).here.numbers) c.weighed.view_is in
    no_child c.args.weighed.now (subst IsJudgeable c.weighed.view_is c.weighed.invariant) c.args.row c.row_count-count.result c.requires.within count (omega (arith, c.if-count-eq0.true))

pub returns-then-count-eq0-clause-sums : goal.returns-then-count-eq0-clause-sums
returns-then-count-eq0-clause-sums t c =
    let count = c.row_count-count.ensures ∙ ap (λ (j : Judged). length (row_at j.tree.rows c.args.row).here.numbers) c.weighed.view_is in
    let end = no_child c.args.weighed.now (subst IsJudgeable c.weighed.view_is c.weighed.invariant) c.args.row c.row_count-count.result c.requires.within count (omega (arith, c.if-count-eq0.true)) in
    subst (λ k. AreCollectedBefore c.args.weighed.now c.args.player k c.add_leaf.new.sums) end c.add_leaf.ensures

pub returns-then-count-eq0-clause-parents : goal.returns-then-count-eq0-clause-parents
returns-then-count-eq0-clause-parents t c =
    let count = c.row_count-count.ensures ∙ ap (λ (j : Judged). length (row_at j.tree.rows c.args.row).here.numbers) c.weighed.view_is in
    let end = no_child c.args.weighed.now (subst IsJudgeable c.weighed.view_is c.weighed.invariant) c.args.row c.row_count-count.result c.requires.within count (omega (arith, c.if-count-eq0.true)) in
    subst (λ k. AreParentSlotsBefore c.args.weighed.now c.args.player k c.note_parent.new.parents) end c.note_parent.ensures

pub collect_from-next-requires : goal.collect_from-next-requires
collect_from-next-requires t c =
    let j = c.args.weighed.now in
    let ok : IsJudgeable j = subst IsJudgeable c.weighed.view_is c.weighed.invariant in
    let count = c.row_count-count.ensures ∙ ap (λ (j : Judged). length (row_at j.tree.rows c.args.row).here.numbers) c.weighed.view_is in
    let index : c.loop-index.index < length (row_at j.tree.rows c.args.row).here.numbers = omega (arith, count, c.loop-index-test.true) in
    let at = below j ok c.args.row c.loop-index.index c.loop-index.next c.requires.within index c.loop-index.invariant.next_is in
    let reached = c.reach_below.ensures ∙ ap (λ (k : ℕ). reach j.tree.rows j.profile (Some c.args.player) (row_at j.tree.rows k)) (sym c.loop-index.invariant.next_is) in
    let slot = c.slot_below.ensures ∙ ap (λ (k : ℕ). own_slot j c.args.player (row_at j.tree.rows k)) (sym c.loop-index.invariant.next_is) in
    let all = c.loop-index.invariant in (
      omega (arith, c.decreases, at.parent.before, at.within),
      (c.requires.player, (at.within, (c.requires.starts, (c.requires.scale, (reached, (slot, (c.requires.small, (all.count, (all.sums_are, all.parents_are))))))))),
    )

pub returns-clause-next : goal.returns-clause-next
returns-clause-next t c =
    let count = c.row_count-count.ensures ∙ ap (λ (j : Judged). length (row_at j.tree.rows c.args.row).here.numbers) c.weighed.view_is in
    c.loop-index.invariant.next_is
    ∙ last_child c.args.weighed.now (subst IsJudgeable c.weighed.view_is c.weighed.invariant) c.args.row c.loop-index.index c.requires.within (omega (arith, count, c.loop-index-test.false, c.loop-index.auto.index-end))

pub returns-clause-sums : goal.returns-clause-sums
returns-clause-sums t c =
    let count = c.row_count-count.ensures ∙ ap (λ (j : Judged). length (row_at j.tree.rows c.args.row).here.numbers) c.weighed.view_is in
    let end = c.loop-index.invariant.next_is
    ∙ last_child c.args.weighed.now (subst IsJudgeable c.weighed.view_is c.weighed.invariant) c.args.row c.loop-index.index c.requires.within (omega (arith, count, c.loop-index-test.false, c.loop-index.auto.index-end)) in
    subst (λ k. AreCollectedBefore c.args.weighed.now c.args.player k c.loop-index.sums) end c.loop-index.invariant.sums_are

pub returns-clause-parents : goal.returns-clause-parents
returns-clause-parents t c =
    let count = c.row_count-count.ensures ∙ ap (λ (j : Judged). length (row_at j.tree.rows c.args.row).here.numbers) c.weighed.view_is in
    let end = c.loop-index.invariant.next_is
    ∙ last_child c.args.weighed.now (subst IsJudgeable c.weighed.view_is c.weighed.invariant) c.args.row c.loop-index.index c.requires.within (omega (arith, count, c.loop-index-test.false, c.loop-index.auto.index-end)) in
    subst (λ k. AreParentSlotsBefore c.args.weighed.now c.args.player k c.loop-index.parents) end c.loop-index.invariant.parents_are
