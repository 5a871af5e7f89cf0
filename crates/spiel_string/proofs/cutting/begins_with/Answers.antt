use Rattle.spiel_string.proofs.TokenSteps.{first_found}
use Rattle.spiel_string.proofs.cutting.begins_with.Goals as goal

pub returns : goal.returns
returns c =
    first_found c.args.bytes.now c.args.word.now c.past_space-from.result c.word_end-to.result c.eq.result c.requires c.past_space-from.ensures.same c.past_space-from.ensures.other c.word_end-to.ensures.later c.word_end-to.ensures.word c.word_end-to.ensures.none
    c.eq.ensures
