use Rattle.std.proofs.Common.{ℕ, ◌<◌, subst}
use Rattle.spiel_cli.specs.Judgement.{IsAnswered}
use Rattle.spiel_cli.proofs.Judgements.{made_right}
use Rattle.spiel_cli.proofs.reports.push_value_report.Goals as goal

pub returns-clause-right : goal.returns-clause-right
returns-clause-right c =
    made_right c.args.tree.now c.args.work.now.judged c.push_bests.new.work.judged c.push_gap.result c.requires.tree c.push_bests.ensures.judged
    c.in_ok-push_sizes.ensures.recall
    (subst (λ n. (p : ℕ) → p < n → IsAnswered c.args.work.now.judged p) c.players-2.ensures c.in_ok-push_bests.ensures.answered) c.push_gap.ensures.gap c.push_gap.ensures.denominator c.push_gap.ensures.fits
