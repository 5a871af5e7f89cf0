use Rattle.std.proofs.Common.{arith}
use Rattle.spiel_dice.specs.LiarsDicePlays.{liar_high}
use Rattle.spiel_dice.proofs.Calls.{last_small}
use Rattle.spiel_dice.proofs.liars_dice.LiarsDice.choices.Goals as goal

pub overflow_add-result : goal.overflow_add-result
overflow_add-result c =
    let g = c.args.self.now in
    let small = last_small g.dice g.sides c.requires.range c.args.state.now.history c.requires.play c.calls.result.now c.in-Some.call.now c.calls.ensures c.in-Some.ensures.value in
    omega (arith, small, liar_high g.dice g.sides c.requires.range)

pub returns-in-Some-clause-ordered : goal.returns-in-Some-clause-ordered
returns-in-Some-clause-ordered c =
    let g = c.args.self.now in
    let small = last_small g.dice g.sides c.requires.range c.args.state.now.history c.requires.play c.calls.result.now c.in-Some.call.now c.calls.ensures c.in-Some.ensures.value in
    omega (arith, small, c.liar-in-Some.ensures)
