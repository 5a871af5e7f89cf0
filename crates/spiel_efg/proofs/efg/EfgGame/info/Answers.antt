use Rattle.std.proofs.Common.{ap, arith, length}
use Rattle.spiel_efg.proofs.Reading.{player_set}
use Rattle.spiel_efg.proofs.efg.EfgGame.info.Goals as goal

pub unreachable-requires : goal.unreachable-requires
unreachable-requires c =
    let set = player_set c.args.self.now.parts c.args.self.now.sound c.args.state.now.history c.in-Personal.set c.in-Personal.ensures in
    omega (arith, set.within, c.in-None.ensures, ap length c.items.ensures)
