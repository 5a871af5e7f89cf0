use Rattle.std.proofs.Common.{◌∙◌, ap, arith, length, List}
use Rattle.std.proofs.lemmas.Result.{err_from_is_err_and}
use Rattle.spiel_efg.specs.ReadingTokens.{Rest}
use Rattle.spiel_efg.specs.declared.parts.EfgAction.{EfgAction}
use Rattle.spiel_efg.proofs.ReadingLists.{ahead_of, ahead_of_none, chance_end, chance_fault, chance_step, chances_at, number_shorter, shorter}
use Rattle.spiel_efg.proofs.read_lines.chance_actions.Goals as goal

pub loop-actions-init : goal.loop-actions-init
loop-actions-init c = ap (λ (actions : List EfgAction). ahead_of actions (chances_at c.args.reader.now)) c.new-actions.ensures ∙ ahead_of_none (chances_at c.args.reader.now)

pub returns-in_err-weight : goal.returns-in_err-weight
returns-in_err-weight c =
    let p = err_from_is_err_and c.from_residual-in_err-weight.result c.from_residual-in_err-weight.ensures.1 in
    rw (p.1, p.2) (chance_fault c.args.reader.now c.loop-actions.reader c.skip.new.self c.loop-actions.actions c.in-Some.name c.in_err-weight.field-0.0 c.loop-actions.invariant (c.in_ok-name.ensures ∙ c.in-Some.is) c.skip.ensures c.in_err-weight.ensures)

pub loop-actions-smaller : goal.loop-actions-smaller
loop-actions-smaller c =
    omega (
      arith,
      shorter c.loop-actions.reader c.in-Some.name (c.in_ok-name.ensures ∙ c.in-Some.is),
      ap (λ (rest : Rest). length rest.marks) c.skip.ensures,
      number_shorter c.skip.new.self c.take_number.new.self c.in_ok-weight.weight c.in_ok-weight.ensures,
    )

pub loop-actions-preserved : goal.loop-actions-preserved
loop-actions-preserved c =
    ap (λ (actions : List EfgAction). ahead_of actions (chances_at c.take_number.new.self)) c.in_ok-push.ensures.ok
    ∙ chance_step c.args.reader.now c.loop-actions.reader c.skip.new.self c.take_number.new.self c.loop-actions.actions c.in-Some.name c.in_ok-weight.weight c.loop-actions.invariant (c.in_ok-name.ensures ∙ c.in-Some.is) c.skip.ensures c.in_ok-weight.ensures

pub returns : goal.returns
returns c = chance_end c.args.reader.now c.loop-actions.reader c.loop-actions.actions c.loop-actions.invariant (c.in_ok-name.ensures ∙ c.in_default.is)
