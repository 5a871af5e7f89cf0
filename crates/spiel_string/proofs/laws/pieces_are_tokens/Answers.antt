use Rattle.spiel_string.proofs.TokenSteps.{no_tokens, space_first, left_first, right_first, comma_first, word_piece, space_kind, left_kind, right_kind, comma_kind}
use Rattle.spiel_string.proofs.laws.pieces_are_tokens.Goals as goal

pub returns-clause-nothing : goal.returns-clause-nothing
returns-clause-nothing c = λ at. no_tokens at

pub returns-clause-space : goal.returns-clause-space
returns-clause-space c = λ at byte rest e. space_first at byte rest (space_kind byte e)

pub returns-clause-left : goal.returns-clause-left
returns-clause-left c = λ at rest. left_first at 123 rest left_kind

pub returns-clause-right : goal.returns-clause-right
returns-clause-right c = λ at rest. right_first at 125 rest right_kind

pub returns-clause-comma : goal.returns-clause-comma
returns-clause-comma c = λ at rest. comma_first at 44 rest comma_kind

pub returns-clause-word : goal.returns-clause-word
returns-clause-word c = λ at word rest all e. word_piece word rest at all e
