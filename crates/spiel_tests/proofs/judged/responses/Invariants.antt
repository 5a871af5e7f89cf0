use Rattle.std.proofs.Common.{◌≡◌, ◌<◌, ℕ, true}
use Rattle.spiel_response.specs.Answered.{is_made}
use Rattle.spiel_tests.proofs.judged.responses.Given as goal

-- the responses of the players so far are made
abbrev pub invariant-loop-player : goal.invariant-loop-player
invariant-loop-player l =
    (l.work.judged ≡ l.fn.work.judged) × ((p : ℕ) → p < l.player → is_made l.work p ≡ true)
