use Rattle.spiel_string.proofs.Standing.{stands_none}
use Rattle.spiel_string.proofs.read.start.Goals as goal

pub returns : goal.returns
returns c = stands_none c.args.text.now c.nothing.result c.nothing.ensures
