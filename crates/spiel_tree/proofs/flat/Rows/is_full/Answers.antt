use Rattle.std.proofs.Common.{rules, ap, ◌≡◌, length, sym, ◌∙◌}
use Rattle.spiel_tree.specs.Flat.{rows_of}
use Rattle.spiel_tree.proofs.Growing.{rows_length}
use Rattle.spiel_tree.proofs.flat.Rows.is_full.Goals as goal

pub returns : goal.returns
returns c =
    let same : length c.items.result.now ≡ length (rows_of c.args.self.now) = ap length c.items.ensures ∙ sym (rows_length c.args.self.now c.requires) in
    rw same (search rules)
