use Rattle.std.proofs.Common.{◌∙◌}
use Rattle.spiel_string.proofs.OpenBrackets.{key_set}
use Rattle.spiel_string.proofs.kept.set_key.Goals as goal

pub returns-in_ok-push : goal.returns-in_ok-push
returns-in_ok-push c =
    key_set c.args.kept.now c.push.new.self c.pop.new.self.items c.in-Some.frame _ _ c.in-Some.ensures.items c.in_ok-push.ensures.items
    c.replace-part.ensures.value (c.replace-part.ensures.after ∙ c.new.ensures)
