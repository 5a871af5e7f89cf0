use Rattle.spiel_efg.proofs.Reading.{chance_low, chance_set, player_low, player_set}
use Rattle.spiel_efg.proofs.efg.EfgGame.action_name.Goals as goal

pub push_action-requires-clause-few : goal.push_action-requires-clause-few
push_action-requires-clause-few c = (chance_set c.args.self.now.parts c.args.self.now.sound c.args.state.now.history c.in-Chance.set c.in-Chance.ensures).few

pub push_action-requires-clause-action : goal.push_action-requires-clause-action
push_action-requires-clause-action c = chance_low c.args.self.now.parts c.args.self.now.sound c.args.state.now.history c.in-Chance.set c.args._player c.args.action c.in-Chance.ensures c.requires.legal

pub push_action-requires-in-Personal-clause-few : goal.push_action-requires-in-Personal-clause-few
push_action-requires-in-Personal-clause-few c = (player_set c.args.self.now.parts c.args.self.now.sound c.args.state.now.history c.in-Personal.set c.in-Personal.ensures).few

pub push_action-requires-in-Personal-clause-action : goal.push_action-requires-in-Personal-clause-action
push_action-requires-in-Personal-clause-action c = player_low c.args.self.now.parts c.args.self.now.sound c.args.state.now.history c.in-Personal.set c.args._player c.args.action c.in-Personal.ensures c.requires.legal
