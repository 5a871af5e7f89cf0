use Rattle.std.proofs.Common.{arith}
use Rattle.spiel_poker.proofs.betting.Table.after.Goals as goal

-- any other word is a raise
pub returns-in_default : goal.returns-in_default
returns-in_default c = λ opening words size table. c.after_raise.ensures opening words c.args.word (omega arith) size table
