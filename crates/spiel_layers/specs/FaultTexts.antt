-- What the faults of a repeated game say.
use Rattle.std.specs.Prelude.{ℕ, List, codes}
use Rattle.spiel_layers.specs.declared.repeated.RepeatFault.{RepeatFault}
use Rattle.spiel_layers.specs.declared.repeated.RepeatFault.TheVariants.{NotOneShot, Repeats, PayTooFine}

abbrev pub fault_text : RepeatFault → List ℕ
fault_text NotOneShot = codes "stage game is not one-shot"
fault_text Repeats = codes "bad number of repetitions"
fault_text PayTooFine = codes "repeated payoffs too large"
