use Rattle.spiel_string.proofs.Pieces.{pieces_of, pieces_before, spelled_tokens, cut_fault, letters_said}
use Rattle.spiel_string.proofs.laws.files_are_pieces.Goals as goal

pub returns-clause-read : goal.returns-clause-read
returns-clause-read c = pieces_of

pub returns-clause-refused : goal.returns-clause-refused
returns-clause-refused c = pieces_before

pub returns-clause-spelled : goal.returns-clause-spelled
returns-clause-spelled c = spelled_tokens

pub returns-clause-unclosed : goal.returns-clause-unclosed
returns-clause-unclosed c = cut_fault

pub returns-clause-says : goal.returns-clause-says
returns-clause-says c = letters_said
