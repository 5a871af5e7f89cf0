use Rattle.std.proofs.Common.{◌≡◌, ◌++◌, ◌<◌, ℕ, true, map}
use Rattle.spiel_play.specs.Block.{below, lines_text}
use Rattle.spiel_response.specs.Answered.{is_made}
use Rattle.spiel_cli.specs.Judgement.{IsAnswered}
use Rattle.spiel_cli.specs.Reports.{best_line}
use Rattle.spiel_cli.proofs.reports.push_bests.Given as goal

-- the responses of the players so far are made, and are answered
abbrev pub invariant-loop-player : goal.invariant-loop-player
invariant-loop-player l =
    (l.work.judged ≡ l.fn.work.judged) × ((p : ℕ) → p < l.player → is_made l.work p ≡ true)
    × ((p : ℕ) → p < l.player → IsAnswered l.fn.work.judged p) × (l.out ≡ l.fn.out ++ lines_text (map (best_line l.fn.work.judged) (below l.player)))
