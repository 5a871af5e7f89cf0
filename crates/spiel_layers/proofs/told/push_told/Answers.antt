use Rattle.std.specs.Prelude.{codes}
use Rattle.std.specs.List.{flat_map}
use Rattle.spiel_frac.proofs.AddedTexts.{adds_failed, part_front, part_of_next}
use Rattle.spiel_layers.specs.Repeated.{with_space}
use Rattle.spiel_layers.proofs.told.push_told.Goals as goal

-- a front of the numbers was added
pub returns-in_err-push_with_space : goal.returns-in_err-push_with_space
returns-in_err-push_with_space c =
    let numbers = c.args.numbers.now in
    adds_failed c.from_residual.result _ _ _ c.from_residual.ensures.0
    (part_front c.args.out.now c.push_with_space.new.out (flat_map with_space numbers) (codes "| ")
    (part_of_next with_space numbers c.loop-number.number-index 0 c.args.out.now c.loop-number.out c.push_with_space.new.out c.loop-number-test.true c.loop-number.invariant c.in_err-push_with_space.ensures))
