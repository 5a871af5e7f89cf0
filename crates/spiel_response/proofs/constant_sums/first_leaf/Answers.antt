use Rattle.std.proofs.Common.{ap, sym, ◌∙◌, arith}
use Rattle.std.proofs.lemmas.Bool.{true≢false}
use Rattle.spiel_tree.proofs.TreeLaws.{ends_there}
use Rattle.spiel_response.specs.Reach.{is_end}
use Rattle.spiel_response.proofs.constant_sums.first_leaf.Goals as goal

pub returns-clause-over : goal.returns-clause-over
returns-clause-over c =
    let there = ends_there c.args.tree.now c.histories-row-end.ensures.game in
    let before = c.loop-row.invariant there.0 (omega (arith, there.1, c.histories-row-end.ensures.count, c.loop-row-test.false)) in
    absurd (true≢false (sym (ap is_end there.2) ∙ before))
