use Rattle.std.proofs.Common.{◌≡◌, ◌++◌, take}
use Rattle.std.specs.Prelude.{flat_map}
use Rattle.spiel_efg.specs.Writing.{text_piece}
use Rattle.spiel_efg.proofs.write.push_texts.Given as goal

abbrev pub invariant-loop-text : goal.invariant-loop-text
invariant-loop-text l = l.out ≡ l.fn.out ++ flat_map text_piece (take l.text-index l.texts)
