use Rattle.std.proofs.Common.{arith}
use Rattle.spiel_tree.proofs.StatePlayers.{player_low}
use Rattle.spiel_tree.proofs.tree.Tree.state_player.Goals as goal

pub returns-clause-within : goal.returns-clause-within
returns-clause-within c =
    let low = player_low c.args.self.now.players c.args.self.now.rows c.args.state c.requires in omega (arith, low, c.player_at.ensures)
