use Rattle.spiel_dice.specs.LiarsDicePlays.{legal_small}
use Rattle.spiel_dice.proofs.liars_dice.LiarsDiceGame.action_name.Goals as goal

pub push_roll-requires : goal.push_roll-requires
push_roll-requires c = legal_small c.args.self.now.dice c.args.self.now.sides c.requires.at.range c.args.state.now.history c.args._player c.args.action c.requires.legal

pub push_call-requires-clause-call : goal.push_call-requires-clause-call
push_call-requires-clause-call c = legal_small c.args.self.now.dice c.args.self.now.sides c.requires.at.range c.args.state.now.history c.args._player c.args.action c.requires.legal
