use Rattle.spiel_words.proofs.Filled.{line_is_filled}
use Rattle.spiel_words.proofs.laws.places_are_filled.Goals as goal

pub returns : goal.returns
returns c = line_is_filled
