use Rattle.std.proofs.Common.{None, Some, ap, sym, ◌∙◌}
use Rattle.spiel_string.specs.View.{value_view}
use Rattle.spiel_load.proofs.Finding.{value_found}
use Rattle.spiel_load.proofs.asked.Asked.find.Goals as goal

pub returns-in-Some : goal.returns-in-Some
returns-in-Some c =
    ap (λ value. Some (value_view value)) c.value_of.ensures
    ∙ sym (value_found c.args.self.given.now c.args.key.now c.find_pair.result (Some c.in-Some.pair) c.find_pair.ensures c.in-Some.is)

pub returns-in-None : goal.returns-in-None
returns-in-None c = sym (value_found c.args.self.given.now c.args.key.now c.find_pair.result None c.find_pair.ensures c.in-None.is)
