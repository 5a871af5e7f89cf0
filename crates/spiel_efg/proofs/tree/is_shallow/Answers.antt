use Rattle.std.proofs.Common.{sym, ◌∙◌, arith}
use Rattle.spiel_efg.proofs.Forests.{deep_at, waiting_room}
use Rattle.spiel_efg.proofs.tree.is_shallow.Goals as goal

pub returns-then-depth-gt-MOST_MOVES : goal.returns-then-depth-gt-MOST_MOVES
returns-then-depth-gt-MOST_MOVES c =
    sym (deep_at c.loop-count.waiting c.next.new.self c.in-Some.depth c.loop-count.count-index c.args.counts.now c.in-Some.ensures c.loop-count-test.true c.if-depth-gt-MOST_MOVES.true) ∙ c.loop-count.invariant.rest

pub put-requires-in-loop-count : goal.put-requires-in-loop-count
put-requires-in-loop-count c =
    omega (arith, c.requires.few, waiting_room c.loop-count.waiting c.next.new.self c.in-Some.depth c.loop-count.count-index c.args.counts.now c.in-Some.ensures c.loop-count-test.true c.loop-count.invariant.trees)
