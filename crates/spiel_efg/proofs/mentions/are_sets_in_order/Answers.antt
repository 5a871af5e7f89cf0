use Rattle.std.proofs.Common.{sym, ◌∙◌, ap, length}
use Rattle.std.specs.List.{range_with_len}
use Rattle.spiel_efg.specs.Mentions.{are_equal}
use Rattle.spiel_efg.proofs.InOrder.{in_order_end, late_at, mention_at}
use Rattle.spiel_efg.proofs.mentions.are_sets_in_order.Goals as goal

pub returns-in_default : goal.returns-in_default
returns-in_default c =
    sym (late_at c.args.nodes.now c.node-item.result c.loop-node.node-index c.loop-node.seen (length c.args.sets.now) c.loop-node-test.true c.node-item.is c.in_default.ensures)
    ∙ ap (λ xs. are_equal xs (range_with_len 0 (length c.args.sets.now))) c.loop-node.invariant

pub loop-node-preserved : goal.loop-node-preserved
loop-node-preserved c =
    sym (mention_at c.args.nodes.now c.node-item.result c.loop-node.node-index c.loop-node.seen c.in-Some.after c.loop-node-test.true c.node-item.is c.in-Some.ensures) ∙ c.loop-node.invariant

pub returns : goal.returns
returns c =
    sym (in_order_end c.args.nodes.now c.loop-node.node-index c.loop-node.seen (length c.args.sets.now) c.loop-node-test.false)
    ∙ ap (λ xs. are_equal xs (range_with_len 0 (length c.args.sets.now))) c.loop-node.invariant
