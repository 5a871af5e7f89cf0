use Rattle.std.proofs.Common.{rules}
use Rattle.std.proofs.lemmas.List.{replicate_more}
use Rattle.spiel_policy.proofs.tables.empty_table.Goals as goal

pub loop-preserved : goal.loop-preserved
loop-preserved g c = search (rules, replicate_more)
