use Rattle.std.proofs.Common.{◌<◌, arith, length, subst}
use Rattle.spiel_tree.specs.contracts.tree.Tree.{the_view}
use Rattle.spiel_tree.specs.PerfectRecall.{HasPerfectRecall}
use Rattle.spiel_tree.specs.Trees.{IsGameTree, Whole}
use Rattle.spiel_tree.proofs.OfGame.{tree_some}
use Rattle.spiel_tree.proofs.PerfectRecall.{tree_has_recall}
use Rattle.spiel_tree.proofs.tree.Tree.histories.Goals as goal

pub returns-clause-game : goal.returns-clause-game
returns-clause-game c = subst IsGameTree c.self.view_is c.self.invariant.game

pub returns-clause-some : goal.returns-clause-some
returns-clause-some c =
    let tree = the_view c.self.inside in
    let some : 0 < length tree.rows = tree_some tree c.self.invariant.game in
    omega (arith, some, c.count.ensures)

pub returns-clause-recall : goal.returns-clause-recall
returns-clause-recall c =
    let tree = the_view c.self.inside in
    subst (λ (t : Whole). HasPerfectRecall t.rows) c.self.view_is (tree_has_recall tree c.self.invariant.game)
