use Rattle.std.proofs.Common.{arith, ap, ◌≡◌, length, sym, ◌∙◌}
use Rattle.spiel_tree.specs.Flat.{rows_of}
use Rattle.spiel_tree.proofs.Growing.{rows_length}
use Rattle.spiel_tree.proofs.flat.Rows.count.Goals as goal

pub overflow_cast-result : goal.overflow_cast-result
overflow_cast-result c =
    let same : length c.items.result.now ≡ length (rows_of c.args.self.now) = ap length c.items.ensures ∙ sym (rows_length c.args.self.now c.requires.built) in
    omega (arith, same, c.requires.fits)

pub returns : goal.returns
returns c = ap length c.items.ensures ∙ sym (rows_length c.args.self.now c.requires.built)
