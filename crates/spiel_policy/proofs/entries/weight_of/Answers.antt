use Rattle.std.proofs.Common.{Some, ◌∙◌, ap, sym, subst, arith}
use Rattle.serde_json.specs.View.{view}
use Rattle.spiel_policy.specs.Entries.{IsFair, text_weight, whole_or_text}
use Rattle.spiel_policy.proofs.Shapes.{whole_fair, whole_ratio}
use Rattle.spiel_policy.proofs.entries.weight_of.Goals as goal

pub returns-in-Some-clause-value : goal.returns-in-Some-clause-value
returns-in-Some-clause-value c =
    ap Some (c.ratio.ensures.value ∙ whole_ratio c.in-Some.whole)
    ∙ ap (λ whole. whole_or_text whole (text_weight (view c.args.value.now))) (sym c.in-Some.is ∙ c.as_u64.ensures)

pub returns-in-Some-clause-fair : goal.returns-in-Some-clause-fair
returns-in-Some-clause-fair c = subst IsFair (sym (c.ratio.ensures.value ∙ whole_ratio c.in-Some.whole)) (whole_fair c.in-Some.whole (omega arith))
