use Rattle.std.proofs.Common.{ap, ◌∙◌, ◌++◌, ◌∷◌, []}
use Rattle.spiel_tree.proofs.Growing.{adds_row_ok}
use Rattle.spiel_tree.proofs.flat.Rows.add.Goals as goal

pub returns : goal.returns
returns c =
    let node = c.args.node.now in
    let old = c.args.self.now in
    adds_row_ok c.push-4.result old (record { flat = c.push-4.new.self; numbers = c.push.new.self; weights = c.push-2.new.self; pays = c.push-3.new.self; texts = c.number_text.new.texts; text_bytes = _ })
    c.args.parent c.args.step node.place node.info node.numbers node.weights node.pays c.in_ok-text.text
    c.requires.built c.requires.mover c.requires.parent c.requires.shown c.in_ok-text.ensures.texts c.in_ok-text.ensures.number c.push-4.ensures.ok
    (c.in_ok-push.ensures.ok ∙ ap (λ list. old.numbers ++ list ∷ []) c.items.ensures)
    (c.in_ok-push-2.ensures.ok ∙ ap (λ list. old.weights ++ list ∷ []) c.items-2.ensures)
    (c.in_ok-push-3.ensures.ok ∙ ap (λ list. old.pays ++ list ∷ []) c.items-3.ensures)
