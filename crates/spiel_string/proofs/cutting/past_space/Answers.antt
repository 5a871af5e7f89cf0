use Rattle.std.proofs.Common.{◌∙◌, sym, ap}
use Rattle.spiel_string.specs.Tokens.{tokens_from}
use Rattle.spiel_string.specs.Cutting.{is_of_space}
use Rattle.spiel_string.proofs.TokenSteps.{space_at}
use Rattle.spiel_string.proofs.cutting.past_space.Goals as goal

pub loop-at-preserved : goal.loop-at-preserved
loop-at-preserved c = space_at c.args.bytes.now c.loop-at.at (tokens_from 0 c.args.bytes.now) c.loop-at-test.true (sym (c.if-not-is_of_space.ensures ∙ ap is_of_space c.kind_of.ensures)) c.loop-at.invariant
