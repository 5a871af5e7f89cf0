use Rattle.spiel_load.proofs.Reading.{asked_again}
use Rattle.spiel_load.proofs.asked.Asked.by.Goals as goal

pub returns : goal.returns
returns c = asked_again c.bytes.result.now c.args.text.now.name c.items.result.now c.args.text.now.params c.bytes.ensures c.items.ensures
