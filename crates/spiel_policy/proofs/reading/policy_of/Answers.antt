use Rattle.spiel_policy.proofs.Steps.{fits_if}
use Rattle.spiel_policy.proofs.reading.policy_of.Goals as goal

pub returns-clause-fits : goal.returns-clause-fits
returns-clause-fits c =
    fits_if c.args.tree.now c.in_ok-given.given c.policy.result c.in_ok-given.ensures.for_tree c.policy.ensures.answer c.policy.ensures.reduced
