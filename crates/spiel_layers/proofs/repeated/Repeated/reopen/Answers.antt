use Rattle.std.proofs.Common.{◌≡◌, ◌<◌, length, arith}
use Rattle.std.proofs.lemmas.Grind.{common_steps}
use Rattle.spiel_layers.proofs.RepeatedUndone.{in_round, some_over, back_in_round}
use Rattle.spiel_layers.proofs.repeated.Repeated.reopen.Goals as goal

pub returns-in-Some-clause-round : goal.returns-in-Some-clause-round
returns-in-Some-clause-round g c =
    let game = c.args.self.now in
    let at = c.requires.at in
    let laws = g.met.G.Game.lawful game.stage at.can.sound in
    let none : length (g.G.Game.history_of game.stage c.args.state.now.stage) ≡ 0 = grind (arith, common_steps) in
    back_in_round at laws none c.pop.new.self c.in-Some.round c.in-Some.ensures.taken

pub returns-in_default-clause-round : goal.returns-in_default-clause-round
returns-in_default-clause-round g c =
    let none : length (g.G.Game.history_of c.args.self.now.stage c.args.state.now.stage) ≡ 0 = grind (arith, common_steps) in
    absurd (some_over c.requires.at none c.requires.some c.in_default.ensures.taken.0)

pub returns-else-is_empty-clause-round : goal.returns-else-is_empty-clause-round
returns-else-is_empty-clause-round g c =
    let game = c.args.self.now in
    let at = c.requires.at in
    let laws = g.met.G.Game.lawful game.stage at.can.sound in
    let some : 0 < length (g.G.Game.history_of game.stage c.args.state.now.stage) = grind (arith, common_steps) in
    in_round at laws some
