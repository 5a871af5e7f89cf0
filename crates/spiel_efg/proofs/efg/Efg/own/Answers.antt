use Rattle.std.proofs.Common.{◌∙◌, arith, w64}
use Rattle.std.proofs.lemmas.Int.{ints, to_z-of_z}
use Rattle.spiel_efg.specs.EfgState.{no_node}
use Rattle.spiel_efg.proofs.Paying.{own_at}
use Rattle.spiel_efg.proofs.efg.Efg.own.Goals as goal

pub returns : goal.returns
returns c =
    to_z-of_z w64 c.own.result (omega (arith, ints, c.own.type_inv))
    ∙ c.own.ensures ∙ own_at c.args.self.now.parts c.args.self.now.table c.args.place c.args.player no_node c.args.self.now.table_is c.requires
