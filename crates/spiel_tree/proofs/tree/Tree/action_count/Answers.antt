use Rattle.std.proofs.Common.{arith}
use Rattle.spiel_tree.specs.contracts.tree.Tree.{the_view}
use Rattle.spiel_tree.proofs.StateChoices.{first_goes_on}
use Rattle.spiel_tree.proofs.TreeRows.{first_within_tree}
use Rattle.spiel_tree.proofs.tree.Tree.action_count.Goals as goal

pub row_count-requires : goal.row_count-requires
row_count-requires c =
    first_within_tree (the_view c.self.inside) c.args.self.now c.self.inside.rows c.self.inside.starts.items c.self.inside.firsts.items c.args.state c.index.result.now
    c.self.invariant c.self.view_is c.requires c.index.ensures

pub returns-clause-some : goal.returns-clause-some
returns-clause-some c =
    let some = first_goes_on (the_view c.self.inside) c.args.self.now c.self.inside.rows c.self.inside.starts.items c.self.inside.firsts.items c.args.state c.index.result.now
    c.self.invariant c.self.view_is c.requires c.index.ensures in
    omega (arith, some, c.row_count.ensures)
