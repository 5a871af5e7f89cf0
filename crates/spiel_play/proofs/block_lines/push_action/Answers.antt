use Rattle.std.proofs.Common.{rules, append_assoc}
use Rattle.std.proofs.lemmas.Result.{IfOk-equal}
use Rattle.spiel_play.proofs.block_lines.push_action.Goals as goal

pub returns : goal.returns
returns g c = search (rules, IfOk-equal, append_assoc)
