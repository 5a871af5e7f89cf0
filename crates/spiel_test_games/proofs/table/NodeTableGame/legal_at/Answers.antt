use Rattle.std.proofs.Common.{sym}
use Rattle.spiel_test_games.specs.Table.{node_at}
use Rattle.spiel_test_games.specs.TableLaws.{number_at}
use Rattle.spiel_test_games.proofs.table.NodeTableGame.legal_at.Goals as goal

pub returns : goal.returns
returns c = sym (number_at (node_at c.args.self.now.nodes.now c.args._state.now) c.args._player c.args.index c.requires.index)
