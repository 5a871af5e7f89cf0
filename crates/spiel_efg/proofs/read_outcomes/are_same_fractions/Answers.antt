use Rattle.std.proofs.Common.{◌∙◌, ◌&&◌, ◌+◌, ap, ap₂, sym, refl, arith, drop, Bool}
use Rattle.spiel_efg.specs.ReadingNodes.{are_same_by, is_same_fraction}
use Rattle.spiel_efg.proofs.ReadingMentions.{last_same, next_same, other_same}
use Rattle.spiel_efg.proofs.read_outcomes.are_same_fractions.Goals as goal

pub returns-then-a-b : goal.returns-then-a-b
returns-then-a-b c = other_same is_same_fraction c.args.a.now c.args.b.now c.if-a-b.true

pub loop-index-init : goal.loop-index-init
loop-index-init c = refl

pub returns-then-not-is_same_fraction : goal.returns-then-not-is_same_fraction
returns-then-not-is_same_fraction c =
    sym (sym c.loop-index.invariant
    ∙ next_same is_same_fraction c.args.a.now c.args.b.now c.loop-index.index c.index-a-index.result c.index-b-index.result c.loop-index-test.true c.if-a-b.false
    ∙ ap (λ (b : Bool). b && are_same_by is_same_fraction (drop (c.loop-index.index + 1) c.args.a.now) (drop (c.loop-index.index + 1) c.args.b.now))
    (ap₂ (λ x y. is_same_fraction x y) (sym c.index-a-index.is) (sym c.index-b-index.is) ∙ sym c.is_same_fraction.ensures ∙ c.if-not-is_same_fraction.true))

pub loop-index-preserved : goal.loop-index-preserved
loop-index-preserved c =
    sym (next_same is_same_fraction c.args.a.now c.args.b.now c.loop-index.index c.index-a-index.result c.index-b-index.result c.loop-index-test.true c.if-a-b.false
    ∙ ap (λ (b : Bool). b && are_same_by is_same_fraction (drop (c.loop-index.index + 1) c.args.a.now) (drop (c.loop-index.index + 1) c.args.b.now))
    (ap₂ (λ x y. is_same_fraction x y) (sym c.index-a-index.is) (sym c.index-b-index.is) ∙ sym c.is_same_fraction.ensures ∙ c.if-not-is_same_fraction.false))
    ∙ c.loop-index.invariant

pub returns : goal.returns
returns c = sym (sym c.loop-index.invariant ∙ last_same is_same_fraction c.args.a.now c.args.b.now c.loop-index.index (omega arith) c.if-a-b.false)
