use Rattle.spiel_efg.proofs.Reading.{chance_weight}
use Rattle.spiel_efg.proofs.efg.EfgGame.weight_at.Goals as goal

pub returns-in-Chance : goal.returns-in-Chance
returns-in-Chance c = λ l. chance_weight c.args.self.now.parts c.args.self.now.sound c.args.state.now.history c.in-Chance.set c.args.self.now.weights c.args.index c.weight.result c.args.self.now.weights_are c.in-Chance.ensures c.weight.ensures
