use Rattle.spiel_string.proofs.Quoted.{word_text, quoted_text}
use Rattle.spiel_string.proofs.laws.tokens_have_their_texts.Goals as goal

pub returns-clause-word : goal.returns-clause-word
returns-clause-word c = word_text

pub returns-clause-text : goal.returns-clause-text
returns-clause-text c = quoted_text
