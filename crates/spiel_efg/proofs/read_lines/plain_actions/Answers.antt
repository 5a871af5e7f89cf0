use Rattle.std.proofs.Common.{◌∙◌, ap, arith, length, List}
use Rattle.spiel_efg.specs.ReadingTokens.{Rest}
use Rattle.spiel_efg.specs.ReadingLines.{items_at, unweighted}
use Rattle.spiel_efg.specs.declared.parts.EfgAction.{EfgAction}
use Rattle.spiel_efg.proofs.ReadingLists.{ahead, items_end, items_step, shorter}
use Rattle.spiel_efg.proofs.read_lines.plain_actions.Goals as goal

pub loop-actions-init : goal.loop-actions-init
loop-actions-init c = ap (λ (actions : List EfgAction). ahead actions (items_at unweighted c.args.reader.now)) c.new-actions.ensures

pub loop-actions-smaller : goal.loop-actions-smaller
loop-actions-smaller c = omega (arith, shorter c.loop-actions.reader c.in-Some.name (c.in_ok-name.ensures ∙ c.in-Some.is), ap (λ (rest : Rest). length rest.marks) c.skip.ensures)

pub loop-actions-preserved : goal.loop-actions-preserved
loop-actions-preserved c =
    ap (λ (actions : List EfgAction). ahead actions (items_at unweighted c.skip.new.self)) c.in_ok-push.ensures.ok
    ∙ items_step unweighted c.args.reader.now c.loop-actions.reader c.skip.new.self c.loop-actions.actions c.unweighted.result c.in-Some.name c.loop-actions.invariant (c.in_ok-name.ensures ∙ c.in-Some.is) c.skip.ensures c.unweighted.ensures

pub returns : goal.returns
returns c = items_end unweighted c.args.reader.now c.loop-actions.reader c.loop-actions.actions c.loop-actions.invariant (c.in_ok-name.ensures ∙ c.in_default.is)
