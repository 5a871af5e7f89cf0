use Rattle.std.proofs.Common.{ap, ◌∙◌, List}
use Rattle.spiel_efg.specs.ReadingNodes.{place_of_outcome}
use Rattle.spiel_efg.specs.declared.parts.EfgOutcome.{EfgOutcome}
use Rattle.spiel_efg.proofs.ReadingMentions.{numbers_with}
use Rattle.spiel_efg.proofs.read_outcomes.Outcomes.with.Goals as goal

pub invariant_of-result : goal.invariant_of-result
invariant_of-result c =
    numbers_with c.self.inside.numbers c.note.new.self c.self.inside.outcomes c.push.new.self c.args.one c.self.invariant
    (ap (λ (known : List EfgOutcome). place_of_outcome known c.args.one.number) c.self.view_is ∙ c.requires) c.in_ok-note.ensures c.in_ok-push.ensures.ok
