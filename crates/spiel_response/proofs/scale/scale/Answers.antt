use Rattle.std.proofs.Common.{refl, ◌∙◌}
use Rattle.spiel_response.proofs.Descents.{scale_whole, some_rows}
use Rattle.spiel_response.proofs.Passing.{root_totals}
use Rattle.spiel_response.proofs.scale.scale.Goals as goal

pub scale_from-requires-clause-within : goal.scale_from-requires-clause-within
scale_from-requires-clause-within c = some_rows c.args.weighed.now c.requires

pub scale_from-requires-clause-product : goal.scale_from-requires-clause-product
scale_from-requires-clause-product c = root_totals c.args.weighed.now c.requires 0 refl

pub returns-in-Some-clause-ok : goal.returns-in-Some-clause-ok
returns-in-Some-clause-ok c = (c.in-Some.ensures.scale ∙ scale_whole c.args.weighed.now c.requires, c.in-Some.ensures.small)
