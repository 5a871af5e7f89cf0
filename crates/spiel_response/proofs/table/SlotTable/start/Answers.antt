use Rattle.std.proofs.Common.{suc, arith}
use Rattle.spiel_response.specs.SlotTable.{state_count}
use Rattle.spiel_response.proofs.OwnSlots.{starts_rise}
use Rattle.spiel_response.proofs.table.SlotTable.start.Goals as goal

pub returns-clause-within : goal.returns-clause-within
returns-clause-within c =
    let rises = starts_rise c.args.self.now (suc c.args.state) (state_count c.args.self.now) (omega (arith, c.requires)) in
    omega (arith, rises)
