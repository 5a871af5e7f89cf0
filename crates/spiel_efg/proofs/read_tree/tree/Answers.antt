use Rattle.std.proofs.Common.{◌-◌, ◌∙◌, ap, sym, arith}
use Rattle.std.proofs.lemmas.Result.{err_from_is_err_and}
use Rattle.spiel_efg.specs.Tree.{most_nodes}
use Rattle.spiel_efg.specs.ReadingTokens.{and_then}
use Rattle.spiel_efg.specs.Reading.{seed, too_large, tree_at}
use Rattle.spiel_efg.proofs.ReadingTrees.{stopped_at_begins, tree_full, tree_step, tree_stop, tree_whole}
use Rattle.spiel_efg.proofs.read_tree.tree.Goals as goal

pub returns-then-is_whole : goal.returns-then-is_whole
returns-then-is_whole c =
    tree_whole (most_nodes - c.loop.counter) c.args.players c.loop.grown c.loop.reader (tree_at most_nodes c.args.players seed c.args.reader.now) (sym c.is_whole.ensures ∙ c.if-is_whole.true)
    c.loop.invariant.so_far

pub returns-in_err-grown-2 : goal.returns-in_err-grown-2
returns-in_err-grown-2 c =
    let p = err_from_is_err_and c.from_residual-in_err-grown-2.result c.from_residual-in_err-grown-2.ensures.1 in
    rw (p.1, p.2) (tree_stop most_nodes c.loop.counter c.args.players c.loop.grown c.loop.reader (tree_at most_nodes c.args.players seed c.args.reader.now) c.in_err-grown-2.field-0.0
    c.loop-test.true (sym c.is_whole.ensures ∙ c.if-is_whole.false) c.in_err-grown-2.ensures.answer c.loop.invariant.so_far)

pub loop-preserved : goal.loop-preserved
loop-preserved c = record {
  so_far = tree_step most_nodes c.loop.counter c.args.players c.loop.grown c.in_ok-grown-2.grown c.loop.reader c.node.new.reader (tree_at most_nodes c.args.players seed c.args.reader.now)
      c.loop-test.true (sym c.is_whole.ensures ∙ c.if-is_whole.false) c.in_ok-grown-2.ensures.answer c.loop.invariant.so_far;
  nodes = omega (arith, c.in_ok-grown-2.ensures.nodes, c.loop.invariant.nodes);
  sets = c.in_ok-grown-2.ensures.sets;
}

pub returns-then-is_whole-2 : goal.returns-then-is_whole-2
returns-then-is_whole-2 c =
    tree_whole (most_nodes - c.loop.counter) c.args.players c.loop.grown c.loop.reader (tree_at most_nodes c.args.players seed c.args.reader.now) (sym c.is_whole-2.ensures ∙ c.if-is_whole-2.true)
    c.loop.invariant.so_far

pub returns-in_err-take_begins : goal.returns-in_err-take_begins
returns-in_err-take_begins c =
    let p = err_from_is_err_and c.from_residual-in_err-take_begins.result c.from_residual-in_err-take_begins.ensures.1 in
    rw (p.1, p.2) (stopped_at_begins c.loop.reader (tree_at most_nodes c.args.players seed c.args.reader.now) c.in_err-take_begins.field-0.0
    (tree_full most_nodes c.loop.counter c.args.players c.loop.grown c.loop.reader (tree_at most_nodes c.args.players seed c.args.reader.now) (omega (arith, c.loop-test.false)) (sym c.is_whole-2.ensures ∙ c.if-is_whole-2.false) c.loop.invariant.so_far)
    c.in_err-take_begins.ensures)

pub returns : goal.returns
returns c =
    tree_full most_nodes c.loop.counter c.args.players c.loop.grown c.loop.reader (tree_at most_nodes c.args.players seed c.args.reader.now) (omega (arith, c.loop-test.false)) (sym c.is_whole-2.ensures ∙ c.if-is_whole-2.false) c.loop.invariant.so_far
    ∙ ap (λ found. and_then too_large found) c.in_ok-take_begins.ensures
