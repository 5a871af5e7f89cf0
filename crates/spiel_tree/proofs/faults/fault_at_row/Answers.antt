use Rattle.std.proofs.Common.{arith, rules, sym, suc, ◌∙◌}
use Rattle.spiel_tree.proofs.FirstFault.{IsDecision, decision, elsewhere}
use Rattle.spiel_tree.proofs.faults.fault_at_row.Goals.{In-Move}
use Rattle.spiel_tree.proofs.faults.fault_at_row.Goals as goal

decided : (c : In-Move) → IsDecision c.args.rows.now c.args.starts.now c.args.firsts.now c.args.row c.in-Move.player c.flat_at-flat.result.text
decided c = decision c.args.rows.now c.args.starts.now c.args.firsts.now c.args.row c.in-Move.player c.flat_at-flat.result c.requires.built c.requires.starts c.requires.firsts c.requires.row c.flat_at-flat.ensures c.in-Move.is

pub bounds-starts-player : goal.bounds-starts-player
bounds-starts-player c = (decided (goal.at.bounds-starts-player c).In-Move).player

pub overflow_add-state : goal.overflow_add-state
overflow_add-state c = omega (arith, (decided (goal.at.overflow_add-state c).In-Move).below, c.type_inv.starts (suc c.in-Move.player))

pub offset_bounds-firsts-state : goal.offset_bounds-firsts-state
offset_bounds-firsts-state c = omega (arith, (decided (goal.at.offset_bounds-firsts-state c).In-Move).below, c.type_inv.starts (suc c.in-Move.player))

pub bounds-firsts-state : goal.bounds-firsts-state
bounds-firsts-state c = (decided (goal.at.bounds-firsts-state c).In-Move).state

pub against_first-requires-clause-first : goal.against_first-requires-clause-first
against_first-requires-clause-first c = (decided (goal.at.against_first-requires-clause-first c).In-Move).first

pub returns-in-Move : goal.returns-in-Move
returns-in-Move c = c.against_first.ensures ∙ sym (decided (goal.at.returns-in-Move c).In-Move).fault

pub returns-in-Joint-eq0 : goal.returns-in-Joint-eq0
returns-in-Joint-eq0 c = let e = elsewhere c.args.rows.now c.args.row c.flat_at-flat.result c.requires.built c.requires.row c.flat_at-flat.ensures in search (rules, e)

pub returns-in_default : goal.returns-in_default
returns-in_default c = let e = elsewhere c.args.rows.now c.args.row c.flat_at-flat.result c.requires.built c.requires.row c.flat_at-flat.ensures in search (rules, e)

pub returns-in_default-2 : goal.returns-in_default-2
returns-in_default-2 c = let e = elsewhere c.args.rows.now c.args.row c.flat_at-flat.result c.requires.built c.requires.row c.flat_at-flat.ensures in search (rules, e)
