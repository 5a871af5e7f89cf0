use Rattle.std.proofs.Common.{◌∙◌, sym, ap, arith}
use Rattle.spiel_string.specs.Tokens.{is_of_word}
use Rattle.spiel_string.proofs.TokenSteps.{reaches_more}
use Rattle.spiel_string.proofs.cutting.word_end.Goals as goal

pub loop-to-preserved : goal.loop-to-preserved
loop-to-preserved c = reaches_more c.args.bytes.now c.args.from c.loop-to.to (omega arith) c.loop-to-test.true (sym (c.if-not-is_of_word.ensures ∙ ap is_of_word c.kind_of.ensures)) c.loop-to.invariant
