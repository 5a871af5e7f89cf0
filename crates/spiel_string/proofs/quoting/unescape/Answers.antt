use Rattle.std.proofs.Common.{◌+◌, Bool, sym, subst}
use Rattle.spiel_string.specs.Quoting.{Unescapes}
use Rattle.spiel_string.proofs.Quoted.{unescapes_more, unescapes_stopped, unescapes_done}
use Rattle.spiel_string.proofs.quoting.unescape.Goals as goal

pub returns-in_err-push_said : goal.returns-in_err-push_said
returns-in_err-push_said c =
    unescapes_stopped c.from_residual.result c.args.bytes.now c.loop-byte.byte-index c.loop-byte.behind c.args.out.now c.loop-byte.out c.push_said.new.out c.loop-byte-test.true c.loop-byte.invariant c.from_residual.ensures.0 c.in_err-push_said.ensures

pub loop-byte-preserved : goal.loop-byte-preserved
loop-byte-preserved c =
    subst (λ (b : Bool). Unescapes c.args.bytes.now (c.loop-byte.byte-index + 1) b c.args.out.now c.push_said.new.out) (sym c.is_behind-behind.ensures)
    (unescapes_more c.args.bytes.now c.loop-byte.byte-index c.loop-byte.behind c.args.out.now c.loop-byte.out c.push_said.new.out c.loop-byte-test.true c.loop-byte.invariant c.in_ok-push_said.ensures)

pub returns : goal.returns
returns c = unescapes_done c.push_last.result c.args.bytes.now c.loop-byte.byte-index c.loop-byte.behind c.args.out.now c.loop-byte.out c.push_last.new.out c.loop-byte-test.false c.loop-byte.invariant c.push_last.ensures
