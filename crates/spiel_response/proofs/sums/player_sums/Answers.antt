use Rattle.std.proofs.Common.{arith, refl, ◌∙◌, Some, None}
use Rattle.spiel_response.proofs.Descents.{some_rows, whole_end}
use Rattle.spiel_response.proofs.LeafSums.{sums_at_end, sums_at_start}
use Rattle.spiel_response.proofs.Passing.{root_reach}
use Rattle.spiel_tree.specs.Subtrees.{end_of}
use Rattle.spiel_response.proofs.sums.player_sums.Goals as goal

pub sums_from-requires-clause-within : goal.sums_from-requires-clause-within
sums_from-requires-clause-within c = some_rows c.args.weighed.now c.requires.judgeable

pub sums_from-requires-clause-reached : goal.sums_from-requires-clause-reached
sums_from-requires-clause-reached c = c.requires.scale ∙ root_reach c.args.weighed.now c.requires.judgeable None 0 refl

pub sums_from-requires-clause-counterfactual : goal.sums_from-requires-clause-counterfactual
sums_from-requires-clause-counterfactual c = c.requires.scale ∙ root_reach c.args.weighed.now c.requires.judgeable (Some c.args.player) 0 refl

pub sums_from-requires-clause-sums : goal.sums_from-requires-clause-sums
sums_from-requires-clause-sums c = sums_at_start c.args.weighed.now c.args.player c.args.size c.requires.size

pub returns-clause-some : goal.returns-clause-some
returns-clause-some c =
    let j = c.args.weighed.now in
    sums_at_end j c.args.player (end_of j.tree.rows 0) c.args.size c.sums_from.new.sums (omega (arith, whole_end j c.requires.judgeable)) c.in_ok-sums_from.ensures.sums
