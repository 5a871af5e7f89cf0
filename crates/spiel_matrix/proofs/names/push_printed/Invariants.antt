use Rattle.std.proofs.Common.{◌≡◌, ◌++◌, map, take}
use Rattle.spiel_matrix.specs.Names.{printed_byte}
use Rattle.spiel_matrix.proofs.names.push_printed.Given as goal

-- the bytes so far were added
abbrev pub invariant-loop-byte : goal.invariant-loop-byte
invariant-loop-byte l = l.out ≡ l.fn.out ++ map printed_byte (take l.byte-index l.byte-items)
