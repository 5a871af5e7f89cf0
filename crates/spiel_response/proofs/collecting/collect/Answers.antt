use Rattle.std.proofs.Common.{rules, ◌≡◌, length, arith, refl, ◌∙◌, Some}
use Rattle.spiel_tree.specs.Subtrees.{end_of}
use Rattle.spiel_response.specs.SlotTable.{slot_count}
use Rattle.spiel_response.proofs.Collected.{collected_end, collected_start}
use Rattle.spiel_response.proofs.Descents.{some_rows, whole_end}
use Rattle.spiel_response.proofs.OwnSlots.{root_slot}
use Rattle.spiel_response.proofs.ParentSlots.{parents_end, parents_start}
use Rattle.spiel_response.proofs.Passing.{root_reach}
use Rattle.spiel_response.proofs.collecting.collect.Goals as goal

pub collect_from-requires-clause-within : goal.collect_from-requires-clause-within
collect_from-requires-clause-within c = some_rows c.args.weighed.now c.requires.judgeable

pub collect_from-requires-clause-counterfactual : goal.collect_from-requires-clause-counterfactual
collect_from-requires-clause-counterfactual c = c.requires.scale ∙ root_reach c.args.weighed.now c.requires.judgeable (Some c.args.player) 0 refl

pub collect_from-requires-clause-slot : goal.collect_from-requires-clause-slot
collect_from-requires-clause-slot c = root_slot c.args.weighed.now c.requires.judgeable c.args.player 0 refl

pub collect_from-requires-clause-sums : goal.collect_from-requires-clause-sums
collect_from-requires-clause-sums c = collected_start c.args.weighed.now c.args.player c.args.sums.now c.requires.sums

pub collect_from-requires-clause-parents : goal.collect_from-requires-clause-parents
collect_from-requires-clause-parents c = parents_start c.args.weighed.now c.args.player c.args.parents.now c.requires.parents

pub returns-clause-sums : goal.returns-clause-sums
returns-clause-sums c =
    let j = c.args.weighed.now in
    let count : length c.collect_from.new.sums ≡ slot_count j = search rules in
    collected_end j c.args.player (end_of j.tree.rows 0) c.collect_from.new.sums (omega (arith, whole_end j c.requires.judgeable)) count c.collect_from.ensures.sums

pub returns-clause-parents : goal.returns-clause-parents
returns-clause-parents c =
    let j = c.args.weighed.now in
    parents_end j c.args.player (end_of j.tree.rows 0) c.collect_from.new.parents (omega (arith, whole_end j c.requires.judgeable)) c.collect_from.ensures.parents
