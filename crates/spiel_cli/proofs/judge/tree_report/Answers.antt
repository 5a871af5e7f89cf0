use Rattle.std.proofs.Common.{rules, ◌≡◌, subst}
use Rattle.spiel_response.specs.Values.{Judged}
use Rattle.spiel_cli.specs.Judgement.{IsRight}
use Rattle.spiel_cli.proofs.judge.tree_report.Goals as goal

pub returns-clause-right : goal.returns-clause-right
returns-clause-right c =
    let same : c.in_ok-work.work.judged ≡ record { tree = c.args.tree.now; profile = c.args.policy.now } = search rules in
    subst (λ (j : Judged). IsRight j) same c.in_ok-report.ensures.right
