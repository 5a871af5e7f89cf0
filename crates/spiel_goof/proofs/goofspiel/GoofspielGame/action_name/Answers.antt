use Rattle.std.proofs.Common.{arith}
use Rattle.spiel_goof.specs.GoofspielState.{parts_of}
use Rattle.spiel_goof.proofs.Numbers.{legal_small_at}
use Rattle.spiel_goof.proofs.goofspiel.GoofspielGame.action_name.Goals as goal

pub push_name-requires : goal.push_name-requires
push_name-requires c =
    let g = c.args.self.now in
    let small = legal_small_at g.cards (parts_of g c.args.state.now) c.args._player c.args.action c.requires.legal in
    omega (arith, small, c.requires.at.range.high)

pub push_name-requires-in_default : goal.push_name-requires-in_default
push_name-requires-in_default c =
    let g = c.args.self.now in
    let small = legal_small_at g.cards (parts_of g c.args.state.now) c.args._player c.args.action c.requires.legal in
    omega (arith, small, c.requires.at.range.high)
