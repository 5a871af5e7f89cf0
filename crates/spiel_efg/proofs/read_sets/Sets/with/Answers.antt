use Rattle.std.proofs.Common.{ap, ◌∙◌, List}
use Rattle.spiel_efg.specs.ReadingNodes.{place_of_set}
use Rattle.spiel_efg.specs.declared.parts.EfgSet.{EfgSet}
use Rattle.spiel_efg.proofs.ReadingMentions.{keys_with}
use Rattle.spiel_efg.proofs.read_sets.Sets.with.Goals as goal

pub invariant_of-result : goal.invariant_of-result
invariant_of-result c =
    keys_with c.self.inside.keys c.note.new.self c.self.inside.sets c.push.new.self c.args.one c.in_ok-note.field-0 c.self.invariant
    (ap (λ (known : List EfgSet). place_of_set known c.args.one.player c.args.one.number) c.self.view_is ∙ c.requires) c.in_ok-note.ensures.is_new c.in_ok-note.ensures.keys c.in_ok-push.ensures.ok
