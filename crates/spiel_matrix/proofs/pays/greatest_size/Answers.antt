use Rattle.std.proofs.Common.{◌≡◌, ap, ◌∙◌, max, nat_abs, ℕ}
use Rattle.std.specs.Prelude.{pos, slice_index_or}
use Rattle.std.proofs.Common.{rules}
use Rattle.std.proofs.lemmas.Int.{to_z-of_z}
use mir.Val.{SFits}
use mir.Syntax.{w64}
use Rattle.spiel_matrix.proofs.Paying.{greatest_more}
use Rattle.spiel_matrix.proofs.pays.greatest_size.Goals as goal

pub loop-pay-preserved : goal.loop-pay-preserved
loop-pay-preserved c =
    let pays = c.args.pays.now in
    let k = c.loop-pay.pay-index in
    let fits : SFits w64 (slice_index_or pays k (pos 0)) = search rules in
    let size : c.unsigned_abs.result ≡ nat_abs (slice_index_or pays k (pos 0)) = c.unsigned_abs.ensures.value ∙ ap nat_abs (to_z-of_z w64 (slice_index_or pays k (pos 0)) fits) in
    c.max-greatest.ensures ∙ ap (λ (n : ℕ). max n c.unsigned_abs.result) c.loop-pay.invariant ∙ ap (max _) size ∙ greatest_more pays k c.loop-pay-test.true
