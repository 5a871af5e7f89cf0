use Rattle.spiel_string.specs.Tokens.{tokens_from}
use Rattle.spiel_string.proofs.TokenSteps.{all_found, fault_found, fault_answered}
use Rattle.spiel_string.proofs.TokenPlaces.{whole_rises, all_within}
use Rattle.std.proofs.Common.{length, drop}
use Rattle.spiel_string.proofs.cutting.tokens.Goals as goal

pub returns-in_err-at-clause-err : goal.returns-in_err-at-clause-err
returns-in_err-at-clause-err c =
    let fault = c.in_err-at.field-0.0 in
    fault_answered c.from_residual.result c.args.bytes.now fault c.from_residual.ensures.1
    (fault_found fault c.args.bytes.now c.loop-at.found (tokens_from c.loop-at.at (drop c.loop-at.at c.args.bytes.now)) c.loop-at.invariant.same c.in_err-at.ensures.err)

pub returns-clause-ok : goal.returns-clause-ok
returns-clause-ok c = all_found c.args.bytes.now c.loop-at.at c.loop-at.found c.loop-at-test.false c.loop-at.invariant.same

pub returns-clause-within : goal.returns-clause-within
returns-clause-within c = all_within c.loop-at.found 0 (length c.args.bytes.now) (whole_rises c.args.bytes.now c.loop-at.at c.loop-at.found c.loop-at-test.false c.loop-at.invariant.same)

pub returns-clause-rise : goal.returns-clause-rise
returns-clause-rise c = whole_rises c.args.bytes.now c.loop-at.at c.loop-at.found c.loop-at-test.false c.loop-at.invariant.same
