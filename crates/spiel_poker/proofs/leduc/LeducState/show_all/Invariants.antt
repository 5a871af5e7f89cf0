use Rattle.std.proofs.Common.{◌≡◌}
use Rattle.spiel_poker.specs.LeducState.{IsLeducAt, front}
use Rattle.spiel_poker.proofs.leduc.LeducState.show_all.Given as goal

-- the first numbers are shown, and the history stays as it is
abbrev pub invariant-loop-count : goal.invariant-loop-count
invariant-loop-count l = record { same : l.self.history ≡ l.fn.self.history; shown : IsLeducAt (front l.count l.self) }
