-- What is answered where parts make no game, and what faults say: of parts, and of a file.
use Rattle.std.specs.Prelude.{◌≡◌, ℕ, List, ◌++◌, Bool, false, ⊤, codes}
use Rattle.std.specs.Fmt.{decimal}
use Rattle.spiel_efg.specs.declared.fault.PartsFault.{PartsFault}
use Rattle.spiel_efg.specs.declared.fault.PartsFault.TheVariants.{Bad, NoMemory}
use Rattle.spiel_efg.specs.declared.read_fault.EfgFault.{EfgFault}
use Rattle.spiel_efg.specs.declared.read_fault.EfgFault.TheVariants as fault

-- the parts fail this test, unless memory ran out
abbrev pub IsRefused : Bool → PartsFault → Type 0
IsRefused test Bad = test ≡ false
IsRefused test NoMemory = ⊤

abbrev pub parts_fault_text : PartsFault → List ℕ
parts_fault_text Bad = codes "bad parts"
parts_fault_text NoMemory = codes "no memory"

abbrev pub fault_text : EfgFault → List ℕ
fault_text (fault.Token at) = codes "efg: unclosed text at " ++ decimal at
fault_text (fault.Grammar token) = codes "efg: grammar at token " ++ decimal token
fault_text fault.Players = codes "efg: bad number of players"
fault_text (fault.SetClash node) = codes "efg: set clash at node " ++ decimal node
fault_text (fault.ChanceSum node) = codes "efg: chance sum at node " ++ decimal node
fault_text (fault.ChanceTooFine node) = codes "efg: chance too fine at node " ++ decimal node
fault_text (fault.OutcomeClash node) = codes "efg: outcome clash at node " ++ decimal node
fault_text fault.TooLarge = codes "efg: too large"
fault_text fault.PayTooFine = codes "efg: payoffs too fine"
fault_text fault.NoMemory = codes "no memory"
