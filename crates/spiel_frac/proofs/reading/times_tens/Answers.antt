use Rattle.std.proofs.Common.{arith}
use Rattle.spiel_frac.proofs.Tens.{tens_fit}
use Rattle.spiel_frac.proofs.reading.times_tens.Goals as goal

pub fraction_of-requires-clause-bottom : goal.fraction_of-requires-clause-bottom
fraction_of-requires-clause-bottom c = let fits = tens_fit c.saturating_sub-2.result (omega arith) in omega (arith, fits, c.ten_to-bottom.ensures)
