use Rattle.std.proofs.Common.{arith}
use Rattle.spiel_tree.specs.States.{numbers_of}
use Rattle.spiel_policy.proofs.Choices.{is_in-false}
use Rattle.spiel_policy.proofs.weighing.index_of.Goals as goal

pub returns-clause-none : goal.returns-clause-none
returns-clause-none c =
    is_in-false (numbers_of c.args.tree.now.players c.args.tree.now.rows c.args.state) c.args.number
    (λ k l e. c.loop-index.invariant k (omega (arith, l, c.action_count-count.ensures.count, c.loop-index-test.false, c.loop-index.auto.index-end)) e)
