use Rattle.spiel_api.proofs.PlayLemmas.{IsPlay-back}
use Rattle.spiel_test_games.specs.Table.{table_rules}
use Rattle.spiel_test_games.proofs.table.NodeTableGame.undo.Goals as goal

pub returns : goal.returns
returns c h a e =
    let game = c.args.self.now in
    let left = (c.pop.ensures.last h a e).0 in
    record { sound = IsPlay-back (table_rules game.players game.unit game.nodes.now) _ _ h a c.requires.at e left; history = left }
