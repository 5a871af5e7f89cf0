use Rattle.spiel_frac.specs.Listed.{listed}
use Rattle.spiel_frac.proofs.AddedTexts.{adds_failed}
use Rattle.spiel_frac.proofs.Listings.{listed_more, part_of_listed}
use Rattle.spiel_frac.proofs.listing.write_numbers.Goals as goal

pub returns-in_err-write_next : goal.returns-in_err-write_next
returns-in_err-write_next c =
    adds_failed c.from_residual.result _ _ (listed c.args.mark c.args.numbers.now) c.from_residual.ensures.0
    (part_of_listed c.args.mark c.args.numbers.now c.loop-index.index c.args.out.now c.loop-index.out c.write_next.new.out c.loop-index-test.true c.loop-index.invariant c.in_err-write_next.ensures)

pub loop-index-preserved : goal.loop-index-preserved
loop-index-preserved c = listed_more c.args.mark c.args.numbers.now c.loop-index.index _ _ _ c.loop-index-test.true c.loop-index.invariant c.in_ok-write_next.ensures
