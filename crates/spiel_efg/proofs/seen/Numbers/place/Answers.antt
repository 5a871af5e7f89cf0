use Rattle.std.proofs.Common.{◌∙◌, ap}
use Rattle.std.specs.Prelude.{unwrap_or}
use Rattle.spiel_efg.proofs.InOrder.{placed}
use Rattle.spiel_efg.proofs.seen.Numbers.place.Goals as goal

pub returns : goal.returns
returns c = placed c.get_index_of.result c.args.number c.unwrap_or.result c.self.inside.keys.keys c.args.self.now c.get_index_of.ensures.index
    (c.unwrap_or.ensures ∙ ap (λ n. unwrap_or c.get_index_of.result n) c.len.ensures.len) c.self.view_is
