use Rattle.std.proofs.lemmas.Result.{err_from_is_err_and}
use Rattle.spiel_matrix.proofs.Printing.{all_printed, part_printed}
use Rattle.spiel_matrix.proofs.names.push_printed.Goals as goal

pub returns-in_err-push : goal.returns-in_err-push
returns-in_err-push c =
    let p = err_from_is_err_and c.from_residual.result c.from_residual.ensures.1 in
    rw p.1 (part_printed c.args.text.now c.args.out.now c.loop-byte.out c.push.new.self c.min.result c.loop-byte.byte-index c.min.ensures c.loop-byte.invariant c.in_err-push.ensures.err)

pub returns : goal.returns
returns c = all_printed c.args.text.now c.args.out.now c.loop-byte.out c.min.result c.loop-byte.byte-index c.min.ensures c.loop-byte.invariant c.loop-byte-test.false
