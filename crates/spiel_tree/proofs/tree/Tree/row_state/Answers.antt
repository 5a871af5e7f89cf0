use Rattle.spiel_tree.specs.contracts.tree.Tree.{the_view}
use Rattle.spiel_tree.proofs.RowStates.{row_state_is}
use Rattle.spiel_tree.proofs.tree.Tree.row_state.Goals as goal

pub returns-clause-within : goal.returns-clause-within
returns-clause-within c =
    (row_state_is (the_view c.self.inside) c.args.self.now c.self.inside.rows c.self.inside.starts.items c.self.inside.firsts.items c.args.row c.state_of.result
    c.self.invariant c.self.view_is c.requires c.state_of.ensures).within

pub returns-clause-same_numbers : goal.returns-clause-same_numbers
returns-clause-same_numbers c =
    (row_state_is (the_view c.self.inside) c.args.self.now c.self.inside.rows c.self.inside.starts.items c.self.inside.firsts.items c.args.row c.state_of.result
    c.self.invariant c.self.view_is c.requires c.state_of.ensures).same_numbers
