use Rattle.std.proofs.Common.{ap, ◌∙◌}
use Rattle.spiel_efg.specs.ReadingTokens.{behind}
use Rattle.spiel_efg.proofs.ReadingRests.{behind_is}
use Rattle.spiel_efg.proofs.read_tokens.Reader.skip.Goals as goal

pub returns-then-self : goal.returns-then-self
returns-then-self c = behind_is c.self.inside.bytes.now c.self.inside.tokens.now c.self.inside.at c.if-self.true ∙ ap behind c.self.view_is
