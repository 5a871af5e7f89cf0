use Rattle.std.proofs.Common.{◌∙◌, ap, arith, refl, length, List, ℕ}
use Rattle.spiel_efg.specs.ReadingTokens.{Rest}
use Rattle.spiel_efg.specs.ReadingLines.{texts_at}
use Rattle.spiel_efg.proofs.ReadingLists.{ahead, items_end, items_step, shorter}
use Rattle.spiel_efg.proofs.read_lines.texts.Goals as goal

pub loop-texts-init : goal.loop-texts-init
loop-texts-init c = ap (λ (texts : List (List ℕ)). ahead texts (texts_at c.args.reader.now)) c.new-texts.ensures

pub loop-texts-smaller : goal.loop-texts-smaller
loop-texts-smaller c = omega (arith, shorter c.loop-texts.reader c.in-Some.text (c.in_ok-text.ensures ∙ c.in-Some.is), ap (λ (rest : Rest). length rest.marks) c.skip.ensures)

pub loop-texts-preserved : goal.loop-texts-preserved
loop-texts-preserved c =
    ap (λ (texts : List (List ℕ)). ahead texts (texts_at c.skip.new.self)) c.in_ok-push.ensures.ok
    ∙ items_step (λ (said : List ℕ). said) c.args.reader.now c.loop-texts.reader c.skip.new.self c.loop-texts.texts c.in-Some.text c.in-Some.text c.loop-texts.invariant (c.in_ok-text.ensures ∙ c.in-Some.is) c.skip.ensures refl

pub returns : goal.returns
returns c = items_end (λ (said : List ℕ). said) c.args.reader.now c.loop-texts.reader c.loop-texts.texts c.loop-texts.invariant (c.in_ok-text.ensures ∙ c.in_default.is)
