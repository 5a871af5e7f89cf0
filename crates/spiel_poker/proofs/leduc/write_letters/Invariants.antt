use Rattle.std.proofs.Common.{◌≡◌, ◌++◌, map, take}
use Rattle.spiel_poker.specs.Betting.{word_letter}
use Rattle.spiel_poker.proofs.leduc.write_letters.Given as goal

-- the letters of the words so far were added
abbrev pub invariant-loop-word : goal.invariant-loop-word
invariant-loop-word l = l.out ≡ l.initial.out ++ map word_letter (take l.word-index l.words)
