use Rattle.std.proofs.Common.{length, ap, arith}
use Rattle.spiel_dice.proofs.Calls.{called_at_end}
use Rattle.spiel_dice.proofs.liars_dice.LiarsDiceGame.pay.Goals as goal

pub overflow_sub-bid : goal.overflow_sub-bid
overflow_sub-bid c =
    let g = c.args.self.now in
    omega (arith, called_at_end g.dice g.sides c.requires.at.range c.args.state.now.history c.requires.at.play c.requires.end, ap length c.calls-calls.ensures)
