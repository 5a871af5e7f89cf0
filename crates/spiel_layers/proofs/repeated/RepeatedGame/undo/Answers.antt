use Rattle.std.proofs.Common.{◌∙◌}
use Rattle.spiel_layers.proofs.RepeatedUndone.{some_number, undone}
use Rattle.spiel_layers.proofs.repeated.RepeatedGame.undo.Goals as goal

pub undo-requires-clause-some : goal.undo-requires-clause-some
undo-requires-clause-some g c = some_number c.reopen.ensures.round

pub returns : goal.returns
returns g c = λ h a e.
    let whole = c.reopen.ensures.history ∙ e in
    undone c.reopen.ensures.round h c.pop.new.self a c.undo.new.state whole (c.pop.ensures.last h a whole).0 c.undo.ensures
