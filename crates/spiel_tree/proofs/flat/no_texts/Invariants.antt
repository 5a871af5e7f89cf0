use Rattle.std.proofs.Common.{◌≡◌, [], replicate}
use Rattle.spiel_tree.proofs.flat.no_texts.Given as goal

abbrev pub invariant-loop-player : goal.invariant-loop-player
invariant-loop-player l = l.texts.items ≡ replicate l._player []
