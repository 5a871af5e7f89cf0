use Rattle.std.proofs.Common.{◌≡◌, ◌++◌, take}
use Rattle.std.specs.List.{flat_map}
use Rattle.spiel_layers.specs.Repeated.{with_space}
use Rattle.spiel_layers.proofs.told.push_told.Given as goal

-- the numbers so far were added
abbrev pub invariant-loop-number : goal.invariant-loop-number
invariant-loop-number l = l.out ≡ l.fn.out ++ flat_map with_space (take l.number-index l.numbers)
