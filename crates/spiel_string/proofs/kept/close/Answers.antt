use Rattle.spiel_string.proofs.OpenBrackets.{bracket_closed}
use Rattle.spiel_string.proofs.kept.close.Goals as goal

pub returns-in_ok-params-in-Some : goal.returns-in_ok-params-in-Some
returns-in_ok-params-in-Some c =
    bracket_closed c.args.kept.now c.pop.new.self c.in-Some.field-0 c.in_ok-params-in-Some.params c.in-Some.ensures.items c.in_ok-params-in-Some.ensures
