use Rattle.spiel_matrix.proofs.Naming.{memory_alone}
use Rattle.spiel_matrix.proofs.matrix.Matrix.named.Goals as goal

pub memory_of-requires : goal.memory_of-requires
memory_of-requires c = memory_alone c.args.kind c.in_ok-parts.parts c.in-Err.fault c.in_ok-parts.ensures c.in-Err.ensures.fault
