use Rattle.std.proofs.Common.{◌∙◌, ap, Option}
use Rattle.std.specs.Prelude.{option_map}
use Rattle.spiel_string.specs.Kept.{value_read}
use Rattle.spiel_string.specs.View.{view}
use Rattle.spiel_string.specs.declared.value.GameText.{GameText}
use Rattle.spiel_string.proofs.OpenBrackets.{value_ended}
use Rattle.spiel_string.proofs.kept.end_value.Goals as goal

pub returns-in_ok-push : goal.returns-in_ok-push
returns-in_ok-push c =
    value_ended c.args.kept.now c.push.new.self c.pop.new.self.items c.in-Some.frame c.replace-part.new.dest c.replace-key.result c.replace-key.new.dest
    c.in_ok-value.value c.insert_pair.new.pairs c.take-last.new.self c.in-Some.ensures.items c.in_ok-push.ensures.items
    c.in_ok-insert_pair.ensures c.replace-key.ensures.value (c.replace-key.ensures.after ∙ c.new-in-Some.ensures)
    (c.in_ok-value.ensures ∙ ap (λ (o : Option GameText). value_read (option_map view o) c.replace-part.result) c.take-last.ensures.value
    ∙ ap (λ w. value_read (option_map view c.args.kept.now.last) w) c.replace-part.ensures.value)
    (c.replace-part.ensures.after ∙ c.new.ensures) c.take-last.ensures.after
