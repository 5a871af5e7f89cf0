use Rattle.std.proofs.Common.{sym, ◌∙◌, ◌+◌, ◌&&◌, ap, arith, drop, length, map, nat_le}
use Rattle.spiel_efg.specs.Mentions.{are_equal}
use Rattle.spiel_efg.proofs.InOrder.{numbered_at, numbered_end}
use Rattle.spiel_efg.proofs.mentions.are_numbered.Goals as goal

pub loop-place-preserved : goal.loop-place-preserved
loop-place-preserved c =
    ap (λ b. b && are_equal (drop (c.loop-place.place + 1 + 1) c.args.seen.now) (map (λ outcome. outcome.number) (drop (c.loop-place.place + 1) c.args.outcomes.now))) c.if-not-stands_at-2.ensures
    ∙ sym (numbered_at c.args.seen.now c.args.outcomes.now c.index-outcomes-place.result c.loop-place.place c.loop-place-test.true c.index-outcomes-place.is)
    ∙ c.loop-place.invariant

pub returns : goal.returns
returns c =
    ap (λ n. nat_le n (length c.args.outcomes.now + 1)) c.len.ensures
    ∙ sym (numbered_end c.args.seen.now c.args.outcomes.now c.loop-place.place (omega (arith, c.loop-place.auto.place-end, c.loop-place-test.false)))
    ∙ c.loop-place.invariant
