-- What faults say: of a game string, and of the tokens of a Gambit file.
use Rattle.std.specs.Prelude.{ℕ, List, ◌++◌, codes}
use Rattle.std.specs.Fmt.{decimal}
use Rattle.spiel_string.specs.declared.fault.StringFault.{StringFault}
use Rattle.spiel_string.specs.declared.fault.StringFault.TheVariants.{TooLong, Syntax, TooDeep, Repeated, NoMemory}
use Rattle.spiel_string.specs.declared.token.TokenFault.{TokenFault}
use Rattle.spiel_string.specs.declared.token.TokenFault.TheVariants.{Unclosed, NoMemory as NoMemoryForTokens}

abbrev pub fault_text : StringFault → List ℕ
fault_text TooLong = codes "game string: too long"
fault_text (Syntax at) = codes "game string: syntax at " ++ decimal at
fault_text TooDeep = codes "game string: too deep"
fault_text (Repeated at) = codes "game string: repeated key at " ++ decimal at
fault_text NoMemory = codes "no memory"

abbrev pub token_fault_text : TokenFault → List ℕ
token_fault_text (Unclosed at) = codes "tokens: unclosed text at " ++ decimal at
token_fault_text NoMemoryForTokens = codes "no memory"
