use Rattle.std.proofs.Common.{arith}
use Rattle.spiel_frac.proofs.Tens.{tens_fit}
use Rattle.spiel_frac.proofs.reading.ten_to.Goals as goal

pub pow-requires : goal.pow-requires
pow-requires c = let fits = tens_fit c.args.count c.requires in omega (arith, fits)
