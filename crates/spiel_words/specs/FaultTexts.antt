-- What is said of words that are not read.
use Rattle.std.specs.Prelude.{ℕ, List, codes}
use Rattle.spiel_words.specs.declared.fault.WordsFault.{WordsFault}
use Rattle.spiel_words.specs.declared.fault.WordsFault.TheVariants.{Usage, NoMemory}

abbrev pub fault_text : WordsFault → List ℕ
fault_text Usage = codes "usage: spiel VERB ARGUMENTS"
fault_text NoMemory = codes "no memory"
