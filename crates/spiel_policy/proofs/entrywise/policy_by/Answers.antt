use Rattle.spiel_policy.proofs.Steps.{fits_by}
use Rattle.spiel_policy.proofs.entrywise.policy_by.Goals as goal

pub returns-in-Ok-clause-fits : goal.returns-in-Ok-clause-fits
returns-in-Ok-clause-fits c = fits_by c.args.tree.now c.args.given.now c.in-Ok.policy c.requires c.in-Ok.ensures.answer c.in-Ok.ensures.reduced
