use Rattle.std.proofs.Common.{rules}
use Rattle.std.proofs.lemmas.List.{replicate_more}
use Rattle.spiel_tree.proofs.flat.no_texts.Goals as goal

pub loop-player-preserved : goal.loop-player-preserved
loop-player-preserved c = search (rules, replicate_more)
