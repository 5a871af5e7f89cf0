use Rattle.std.proofs.Common.{◌-◌, ◌+◌, ◌∙◌, ap, arith, List, ℕ}
use Rattle.std.proofs.lemmas.Result.{err_from_is_err_and}
use Rattle.spiel_frac.specs.Fraction.{Fraction}
use Rattle.spiel_efg.specs.ReadingLines.{pays_at}
use Rattle.spiel_efg.proofs.ReadingLists.{ahead_of, ahead_of_none, no_less, pay_end, pay_fault, pay_step}
use Rattle.spiel_efg.proofs.read_lines.pays.Goals as goal

pub loop-init : goal.loop-init
loop-init c =
    ap (λ (pays : List Fraction). ahead_of pays (pays_at (c.args.players - 0) c.args.reader.now)) c.new-pays.ensures
    ∙ ahead_of_none (pays_at (c.args.players - 0) c.args.reader.now)
    ∙ ap (λ (count : ℕ). pays_at count c.args.reader.now) (no_less c.args.players)

pub returns-in_err-pay : goal.returns-in_err-pay
returns-in_err-pay c =
    let p = err_from_is_err_and c.from_residual.result c.from_residual.ensures.1 in
    rw (p.1, p.2) (pay_fault c.args.players c.loop.counter c.args.reader.now c.loop.reader c.loop.pays c.in_err-pay.field-0.0 c.loop.invariant (omega arith) c.in_err-pay.ensures)

pub loop-preserved : goal.loop-preserved
loop-preserved c =
    ap (λ (pays : List Fraction). ahead_of pays (pays_at (c.args.players - (c.loop.counter + 1)) c.skip_comma.new.self)) c.in_ok-push.ensures.ok
    ∙ pay_step c.args.players c.loop.counter c.args.reader.now c.loop.reader c.take_number.new.self c.skip_comma.new.self c.loop.pays c.in_ok-pay.pay c.loop.invariant (omega arith) c.in_ok-pay.ensures c.skip_comma.ensures

pub returns : goal.returns
returns c = pay_end c.args.players c.loop.counter c.args.reader.now c.loop.reader c.loop.pays c.loop.invariant (omega arith)
