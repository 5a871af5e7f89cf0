use Rattle.std.proofs.Common.{◌≡◌, ◌<◌, sym, ap, arith}
use Rattle.std.specs.Prelude.{slice_index_or}
use Rattle.std.proofs.lemmas.Grind.{common_steps}
use Rattle.spiel_policy.specs.Weighing.{parts_of}
use Rattle.spiel_policy.proofs.Weights.{parts_none, parts_some, sum_above}
use Rattle.spiel_policy.proofs.weighing.weights_of_whole.Goals as goal

pub returns-in_default : goal.returns-in_default
returns-in_default c =
    let whole = c.args.whole in
    let choices = c.args.choices.now in
    let at = c.loop-choice.choice-index in
    let choice = c.choice-item.result in
    let same : parts_of whole choice ≡ parts_of whole (slice_index_or choices at choice) = ap (parts_of whole) c.choice-item.is in
    let above : whole < parts_of whole choice = parts_none (parts_of whole choice) whole c.in_default.ensures in
    sym (sum_above whole choices at choice (omega arith) (omega (arith, above, same)))

pub returns-then-parts-rest : goal.returns-then-parts-rest
returns-then-parts-rest c =
    let whole = c.args.whole in
    let choices = c.args.choices.now in
    let at = c.loop-choice.choice-index in
    let choice = c.choice-item.result in
    let same : parts_of whole choice ≡ parts_of whole (slice_index_or choices at choice) = ap (parts_of whole) c.choice-item.is in
    let parts : c.in-Some.parts ≡ parts_of whole choice = parts_some (parts_of whole choice) whole c.in-Some.parts c.in-Some.ensures in
    sym (sum_above whole choices at choice (omega arith) (omega (arith, parts, same, c.loop-choice.invariant.rest, c.if-parts-rest.true)))

pub loop-choice-preserved : goal.loop-choice-preserved
loop-choice-preserved c = grind (arith, common_steps)
