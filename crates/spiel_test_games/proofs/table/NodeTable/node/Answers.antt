use Rattle.spiel_test_games.specs.TableLaws.{node_after_sound}
use Rattle.spiel_test_games.proofs.table.NodeTable.node.Goals as goal

pub returns-then-items-lt4096-clause-sound : goal.returns-then-items-lt4096-clause-sound
returns-then-items-lt4096-clause-sound c =
    let game = c.args.self.now in
    node_after_sound game.players game.unit game.nodes.now game.sound c.items-then-items-lt4096.result.now c.node_after.result c.node_after.ensures
