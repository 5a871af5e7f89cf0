use Rattle.std.proofs.Common.{◌≡◌, ◌++◌, ◌∙◌, subst, arith}
use Rattle.spiel_play.specs.Block.{ended}
use Rattle.spiel_play.proofs.Shown.{lines_added}
use Rattle.spiel_cli.specs.Judgement.{IsAnswered}
use Rattle.spiel_cli.specs.Reports.{best_line}
use Rattle.spiel_cli.proofs.Judgements.{one_player_more}
use Rattle.spiel_cli.proofs.reports.push_bests.Goals as goal

pub loop-player-preserved : goal.loop-player-preserved
loop-player-preserved c =
    let now = c.loop-player in
    let same = now.invariant.0 in (
      c.push_best.ensures.judged ∙ same,
      (λ p less. c.push_best.ensures.made p (omega (arith, less)) (λ before. now.invariant.1 p before)),
      one_player_more {P = λ p. IsAnswered c.args.work.now.judged p} now.player now.invariant.2 (subst (λ j. IsAnswered j now.player) same c.push_best.ensures.answered),
      lines_added (best_line c.args.work.now.judged) now.player c.args.out.now now.out c.push_best.new.out now.invariant.3
          (subst (λ j. c.push_best.new.out ≡ now.out ++ ended (best_line j now.player)) same c.in_ok-push_best.ensures.line),
    )
