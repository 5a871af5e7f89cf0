-- What the faults of a policy file say.
use Rattle.std.specs.Prelude.{ℕ, List, codes, ◌++◌}
use Rattle.std.specs.Fmt.{decimal}
use Rattle.spiel_policy.specs.declared.fault.PolicyFault.{PolicyFault}
use Rattle.spiel_policy.specs.declared.fault.PolicyFault.TheVariants.{Json, Head, Shape, UnknownState, Repeated, Action, Overflow, Sum, Missing, NoMemory}

abbrev pub fault_text : PolicyFault → List ℕ
fault_text Json = codes "policy: not JSON"
fault_text Head = codes "policy: bad head"
fault_text (Shape entry) = codes "policy: bad shape in entry " ++ decimal entry
fault_text (UnknownState entry) = codes "policy: unknown state in entry " ++ decimal entry
fault_text (Repeated entry) = codes "policy: repeated state in entry " ++ decimal entry
fault_text (Action entry) = codes "policy: action in entry " ++ decimal entry
fault_text (Overflow entry) = codes "numbers pass 127 bits"
fault_text (Sum entry) = codes "policy: sum in entry " ++ decimal entry
fault_text (Missing player text) = codes "policy: no entry for player " ++ decimal player ++ codes " state " ++ text
fault_text NoMemory = codes "no memory"
