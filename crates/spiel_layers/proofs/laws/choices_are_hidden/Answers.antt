use Rattle.spiel_layers.proofs.HiddenChoices.{hides_choices}
use Rattle.spiel_layers.proofs.laws.choices_are_hidden.Goals as goal

pub returns : goal.returns
returns c = λ inner laws. hides_choices inner laws
