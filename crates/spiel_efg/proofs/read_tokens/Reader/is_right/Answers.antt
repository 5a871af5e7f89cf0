use Rattle.std.proofs.Common.{ap, ◌∙◌, List, map}
use Rattle.spiel_string.specs.declared.token.Token.{Token}
use Rattle.spiel_efg.specs.ReadingTokens.{Rest, is_right_in, mark_of}
use Rattle.spiel_efg.proofs.ReadingRests.{to_the_end}
use Rattle.spiel_efg.proofs.read_tokens.Reader.is_right.Goals as goal

pub returns : goal.returns
returns c =
    c.is_right_in.ensures c.self.inside.bytes.now
    ∙ ap (λ (left : List Token). is_right_in (map (mark_of c.self.inside.bytes.now) left)) (to_the_end c.self.inside.tokens.now c.self.inside.at)
    ∙ ap (λ (rest : Rest). is_right_in rest.marks) c.self.view_is
