use Rattle.std.proofs.Common.{arith, ap, length}
use Rattle.spiel_tree.specs.contracts.tree.Tree.{the_view}
use Rattle.spiel_tree.proofs.TreeRows.{tree_row}
use Rattle.spiel_tree.proofs.tree.Tree.flat_row.Goals as goal

pub bounds-items-row : goal.bounds-items-row
bounds-items-row c = omega (arith, (tree_row (the_view c.self.inside) c.args.self.now c.self.inside.rows c.self.inside.starts.items c.self.inside.firsts.items c.args.row c.self.invariant c.self.view_is c.requires).within, ap length c.items.ensures)

pub returns-clause-place : goal.returns-clause-place
returns-clause-place c = rw c.items.ensures (tree_row (the_view c.self.inside) c.args.self.now c.self.inside.rows c.self.inside.starts.items c.self.inside.firsts.items c.args.row c.self.invariant c.self.view_is c.requires).place

pub returns-clause-way : goal.returns-clause-way
returns-clause-way c = rw c.items.ensures (tree_row (the_view c.self.inside) c.args.self.now c.self.inside.rows c.self.inside.starts.items c.self.inside.firsts.items c.args.row c.self.invariant c.self.view_is c.requires).way

pub returns-clause-before : goal.returns-clause-before
returns-clause-before c = rw c.items.ensures (tree_row (the_view c.self.inside) c.args.self.now c.self.inside.rows c.self.inside.starts.items c.self.inside.firsts.items c.args.row c.self.invariant c.self.view_is c.requires).before

pub returns-clause-taken : goal.returns-clause-taken
returns-clause-taken c = rw c.items.ensures (tree_row (the_view c.self.inside) c.args.self.now c.self.inside.rows c.self.inside.starts.items c.self.inside.firsts.items c.args.row c.self.invariant c.self.view_is c.requires).taken
