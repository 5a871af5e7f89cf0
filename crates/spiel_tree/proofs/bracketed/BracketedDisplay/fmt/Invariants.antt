use Rattle.std.proofs.Common.{◌∷◌, map, take}
use Rattle.std.specs.List.{join_with_byte}
use Rattle.std.specs.Fmt.{HasWritten, IsPlainFormatter, decimal}
use Rattle.spiel_tree.proofs.bracketed.BracketedDisplay.fmt.Given as goal

abbrev pub invariant-loop-index : goal.invariant-loop-index
invariant-loop-index g l =
    IsPlainFormatter l.fn.f → HasWritten g.W.Write.write_str_gives l.fn.f (91 ∷ join_with_byte 44 (map decimal (take l.index l.self.0.now))) l.f
