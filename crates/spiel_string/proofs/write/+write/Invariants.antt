use Rattle.std.proofs.Common.{◌≡◌, take}
use Rattle.spiel_string.specs.Canonical.{params_entries}
use Rattle.spiel_string.specs.Sorted.{sorted}
use Rattle.spiel_string.specs.View.{params_view}
use Rattle.spiel_string.proofs.write.+write.Given as goal

abbrev pub invariant-game_text-loop-param : goal.invariant-game_text-loop-param
invariant-game_text-loop-param l = l.entries.items ≡ sorted (params_entries (params_view (take l.param-index l.param-items)))
