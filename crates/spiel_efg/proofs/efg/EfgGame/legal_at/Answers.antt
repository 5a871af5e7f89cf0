use Rattle.spiel_efg.specs.Efg.{kind_after}
use Rattle.spiel_efg.proofs.Reading.{legal_index}
use Rattle.spiel_efg.proofs.efg.EfgGame.legal_at.Goals as goal

pub returns : goal.returns
returns c = legal_index c.args.self.now.parts.sets (kind_after c.args.self.now.parts c.args._state.now.history) c.args._player c.args.index c.requires.index
