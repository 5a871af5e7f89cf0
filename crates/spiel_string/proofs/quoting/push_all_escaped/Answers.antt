use Rattle.spiel_string.proofs.Quoted.{escaped_stopped}
use Rattle.spiel_string.proofs.quoting.push_all_escaped.Goals as goal

pub returns-in_err-push_escaped : goal.returns-in_err-push_escaped
returns-in_err-push_escaped c =
    escaped_stopped c.from_residual.result c.args.text.now c.loop-byte.byte-index c.args.out.now c.loop-byte.out c.push_escaped.new.out c.loop-byte-test.true c.loop-byte.invariant c.from_residual.ensures.0 c.in_err-push_escaped.ensures
