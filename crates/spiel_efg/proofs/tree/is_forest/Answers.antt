use Rattle.std.proofs.Common.{sym, ◌∙◌, arith}
use Rattle.spiel_efg.proofs.Forests.{forest_many_at, forest_none_at}
use Rattle.spiel_efg.proofs.tree.is_forest.Goals as goal

pub returns-then-coming-eq0 : goal.returns-then-coming-eq0
returns-then-coming-eq0 c = sym (forest_none_at c.loop-count.coming c.loop-count.count-index c.args.counts.now c.if-coming-eq0.true c.loop-count-test.true) ∙ c.loop-count.invariant.rest

pub returns-then-count-counts : goal.returns-then-count-counts
returns-then-count-counts c =
    sym (forest_many_at c.loop-count.coming c.loop-count.count-index c.args.counts.now (omega arith) c.loop-count.invariant.few c.loop-count-test.true (omega arith)) ∙ c.loop-count.invariant.rest
