use Rattle.spiel_tree.proofs.TreeRows.{parent_is}
use Rattle.spiel_tree.proofs.tree.Tree.row_parent.Goals as goal

pub returns-clause-some : goal.returns-clause-some
returns-clause-some c = parent_is c.args.self.now.rows c.flat_row.result.parent c.flat_row.result.step c.args.row c.flat_row.ensures.before c.flat_row.ensures.way c.flat_row.ensures.taken
