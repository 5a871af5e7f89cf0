use Rattle.std.proofs.Common.{ap, length, ◌∙◌, sym}
use Rattle.spiel_tree.specs.contracts.tree.Tree.{the_view}
use Rattle.spiel_tree.proofs.TreeRows.{tree_row}
use Rattle.spiel_tree.proofs.tree.Tree.weights_at.Goals as goal

pub at-requires : goal.at-requires
at-requires c = (tree_row (the_view c.self.inside) c.args.self.now c.self.inside.rows c.self.inside.starts.items c.self.inside.firsts.items c.args.row c.self.invariant c.self.view_is c.requires).weights_within

pub returns-clause-weights : goal.returns-clause-weights
returns-clause-weights c = c.at.ensures ∙ sym ((tree_row (the_view c.self.inside) c.args.self.now c.self.inside.rows c.self.inside.starts.items c.self.inside.firsts.items c.args.row c.self.invariant c.self.view_is c.requires).weights)

pub returns-clause-each : goal.returns-clause-each
returns-clause-each c chance =
    let row = tree_row (the_view c.self.inside) c.args.self.now c.self.inside.rows c.self.inside.starts.items c.self.inside.firsts.items c.args.row c.self.invariant c.self.view_is c.requires in
    ap length (c.at.ensures ∙ sym row.weights) ∙ row.sound.weighed chance
