use Rattle.std.proofs.Common.{◌≡◌, ◌++◌}
use Rattle.spiel_string.proofs.kept.listed.Given as goal

abbrev pub invariant-loop-param : goal.invariant-loop-param
invariant-loop-param l = l.list ++ l.param-iterator.rest.items ≡ l.fn.params.items
