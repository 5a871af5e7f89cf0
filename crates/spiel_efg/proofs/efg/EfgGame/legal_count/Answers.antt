use Rattle.std.proofs.Common.{◌∙◌}
use Rattle.spiel_efg.proofs.Reading.{chance_count, chance_set, player_count, player_set}
use Rattle.spiel_efg.proofs.efg.EfgGame.legal_count.Goals as goal

pub actions-requires : goal.actions-requires
actions-requires c = (chance_set c.args.self.now.parts c.args.self.now.sound c.args.state.now.history c.in-Chance.set c.in-Chance.ensures).few

pub actions-requires-in-Personal : goal.actions-requires-in-Personal
actions-requires-in-Personal c = (player_set c.args.self.now.parts c.args.self.now.sound c.args.state.now.history c.in-Personal.set c.in-Personal.ensures).few

pub returns-in-Chance : goal.returns-in-Chance
returns-in-Chance c = c.actions.ensures ∙ chance_count c.args.self.now.parts c.args.self.now.sound c.args.state.now.history c.in-Chance.set c.args.player c.in-Chance.ensures

pub returns-in-Personal : goal.returns-in-Personal
returns-in-Personal c =
    c.actions-in-Personal.ensures ∙ player_count c.args.self.now.parts c.args.self.now.sound c.args.state.now.history c.in-Personal.set c.args.player c.mover.result c.in-Personal.ensures c.mover.ensures c.if-mover-player.true
