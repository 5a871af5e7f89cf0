use Rattle.std.proofs.Common.{ap, ◌∙◌}
use Rattle.spiel_policy.specs.Kept.{partial_by}
use Rattle.spiel_policy.proofs.GivenWeights.{none_by}
use Rattle.spiel_policy.proofs.partial.PartialPolicy.new.Goals as goal

pub returns : goal.returns
returns c = ap (partial_by _) c.in_ok-empty_table.ensures ∙ none_by _ c.args.count
