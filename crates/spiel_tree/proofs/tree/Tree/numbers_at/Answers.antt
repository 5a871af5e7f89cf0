use Rattle.std.proofs.Common.{arith, ap, length, ◌∙◌, sym}
use Rattle.spiel_tree.specs.contracts.tree.Tree.{the_view}
use Rattle.spiel_tree.proofs.TreeRows.{tree_row}
use Rattle.spiel_tree.proofs.tree.Tree.numbers_at.Goals as goal

pub at-requires : goal.at-requires
at-requires c = (tree_row (the_view c.self.inside) c.args.self.now c.self.inside.rows c.self.inside.starts.items c.self.inside.firsts.items c.args.row c.self.invariant c.self.view_is c.requires).numbers_within

pub returns-clause-numbers : goal.returns-clause-numbers
returns-clause-numbers c = c.at.ensures ∙ sym ((tree_row (the_view c.self.inside) c.args.self.now c.self.inside.rows c.self.inside.starts.items c.self.inside.firsts.items c.args.row c.self.invariant c.self.view_is c.requires).numbers)

pub returns-clause-few : goal.returns-clause-few
returns-clause-few c =
    let row = tree_row (the_view c.self.inside) c.args.self.now c.self.inside.rows c.self.inside.starts.items c.self.inside.firsts.items c.args.row c.self.invariant c.self.view_is c.requires in
    omega (arith, row.sound.few, ap length (c.at.ensures ∙ sym row.numbers))
