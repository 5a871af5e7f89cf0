use Rattle.std.proofs.Common.{rules, ◌≡◌, ◌≤◌, arith, pos, to_z, of_z, w64, length, Err, None, Some, subst, sym}
use Rattle.spiel_tree.specs.Trees.{IsComputed, fault_told, tree_fault}
use Rattle.spiel_tree.specs.Walked.{IsAll}
use Rattle.spiel_tree.specs.declared.walking.Stop.{Stop}
use Rattle.spiel_tree.specs.Flat.{rows_of}
use Rattle.spiel_tree.specs.Rows.{rows}
use Rattle.spiel_tree.proofs.ComputedFaults.{computed_told, tree_fault-found, tree_fault-many}
use Rattle.spiel_tree.proofs.FaultRows.{rows_named}
use Rattle.spiel_tree.proofs.TreeParts.{game_steps, parts_fit}
use Rattle.spiel_tree.proofs.building.build.Goals as goal

pub new-requires : goal.new-requires
new-requires g c =
    let game = c.args.game.now in
    let r = g.G.Game.rules game in
    let t = c.in-Ok.rows in
    let few : length (rows r) ≤ 1048576 = omega (arith, c.in-Ok.ensures.all.2, c.requires.high) in
    let unit : to_z w64 (of_z w64 c.unit.result) ≡ pos r.unit = search rules in
    parts_fit r t c.in-Ok-starts.starts.items c.in-Ok-first_rows.firsts.items (to_z w64 (of_z w64 c.unit.result)) c.players.result (g.met.G.Game.lawful game c.requires.game)
    c.in-Ok.ensures.all.0 unit c.players.ensures c.in-Ok.ensures.all.1 few c.in-Ok.ensures.players c.in-Ok-starts.ensures c.in-Ok-first_rows.ensures c.in-None.ensures

pub first_fault-requires-clause-steps : goal.first_fault-requires-clause-steps
first_fault-requires-clause-steps g c = game_steps (g.G.Game.rules c.args.game.now) c.in-Ok.rows c.in-Ok.ensures.all.0

pub tell_fault-requires-clause-steps : goal.tell_fault-requires-clause-steps
tell_fault-requires-clause-steps g c = game_steps (g.G.Game.rules c.args.game.now) c.in-Ok.rows c.in-Ok.ensures.all.0

pub tell_fault-requires-clause-named : goal.tell_fault-requires-clause-named
tell_fault-requires-clause-named g c = rows_named (rows_of c.in-Ok.rows) c.in-Some.fault c.in-Some.ensures

pub returns-in-Err-TooMany-clause-computed_err : goal.returns-in-Err-TooMany-clause-computed_err
returns-in-Err-TooMany-clause-computed_err g c =
    let r = g.G.Game.rules c.args.game.now in
    tree_fault-many r c.args.limit (subst (λ (stop : Stop). IsAll (Err stop) (rows r) c.args.limit None) c.in-Err-TooMany.field-0-is c.in-Err-TooMany.ensures.all)

pub returns-in-None-clause-computed_ok : goal.returns-in-None-clause-computed_ok
returns-in-None-clause-computed_ok g c =
    let t = c.in-Ok.rows in
    tree_fault-found (g.G.Game.rules c.args.game.now) c.args.limit (rows_of t) None c.in-Ok.ensures.all.0 c.in-Ok.ensures.all.2 c.in-None.ensures

pub returns-in-Some-clause-computed_err : goal.returns-in-Some-clause-computed_err
returns-in-Some-clause-computed_err g c =
    let r = g.G.Game.rules c.args.game.now in
    let t = c.in-Ok.rows in
    let computed : tree_fault r c.args.limit ≡ Some (fault_told (rows_of t) c.in-Some.fault) =
    tree_fault-found r c.args.limit (rows_of t) (Some c.in-Some.fault) c.in-Ok.ensures.all.0 c.in-Ok.ensures.all.2 c.in-Some.ensures in
    subst (IsComputed (tree_fault r c.args.limit)) (sym c.unwrap_or.ensures) (computed_told (tree_fault r c.args.limit) (fault_told (rows_of t) c.in-Some.fault) c.tell_fault.result computed c.tell_fault.ensures)
