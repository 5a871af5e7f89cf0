use Rattle.std.proofs.Common.{ap, arith, length}
use Rattle.spiel_efg.proofs.Children.{read_kind, state_few, state_within}
use Rattle.spiel_efg.proofs.efg.Efg.kind.Goals as goal

pub offset_bounds-items-state : goal.offset_bounds-items-state
offset_bounds-items-state c = omega (arith, state_few c.args.self.now.parts c.args.self.now.sound c.args.state.now c.requires)

pub bounds-items-state : goal.bounds-items-state
bounds-items-state c = omega (arith, state_within c.args.self.now.parts c.args.self.now.sound c.args.state.now c.requires, ap length c.items.ensures)

pub bounds-items-state-2 : goal.bounds-items-state-2
bounds-items-state-2 c = omega (arith, state_within c.args.self.now.parts c.args.self.now.sound c.args.state.now c.requires, ap length c.items.ensures)

pub returns : goal.returns
returns c = read_kind c.args.self.now.parts c.args.self.now.sound c.args.state.now c.items.result.now c.index-items-state.result c.items.ensures c.requires c.index-items-state.is
