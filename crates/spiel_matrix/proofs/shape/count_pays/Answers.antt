use Rattle.std.proofs.Common.{◌≡◌, ◌*◌, ◌∙◌, ap, length, List, ℕ, arith}
use Rattle.std.specs.Prelude.{slice_index_or}
use Rattle.spiel_matrix.specs.Contingencies.{contingencies}
use Rattle.spiel_matrix.specs.Parts.{most_pays}
use Rattle.spiel_matrix.proofs.Counting.{beyond_none, count_beyond, count_more, none_beyond, some_within}
use Rattle.spiel_matrix.proofs.shape.count_pays.Goals as goal

pub returns-in_err-count : goal.returns-in_err-count
returns-in_err-count c =
    let strategies = c.args.strategies.now in
    let k = c.loop-own.own-index in
    let own = c.own-item.result in
    let total : ℕ = c.args.players * contingencies strategies in
    let product : ℕ = c.loop-own.count * length c.items.result.now in
    let same : length c.items.result.now ≡ length (slice_index_or strategies k own) = ap length c.items.ensures ∙ ap (λ (o : List (List ℕ)). length o) c.own-item.is in
    let above = none_beyond product most_pays product c.in_err-count.ensures in
    let equal : product ≡ c.loop-own.count * length (slice_index_or strategies k own) = ap (λ n. c.loop-own.count * n) same in
    c.from_residual.ensures ∙ beyond_none total most_pays total (count_beyond strategies k c.loop-own.count total own c.requires.filled c.loop-own-test.true c.loop-own.invariant.whole (omega (arith, above, equal)))

pub loop-own-preserved : goal.loop-own-preserved
loop-own-preserved c =
    let strategies = c.args.strategies.now in
    let k = c.loop-own.own-index in
    let own = c.own-item.result in
    let total : ℕ = c.args.players * contingencies strategies in
    let product : ℕ = c.loop-own.count * length c.items.result.now in
    let same : length c.items.result.now ≡ length (slice_index_or strategies k own) = ap length c.items.ensures ∙ ap (λ (o : List (List ℕ)). length o) c.own-item.is in
    let within = some_within product most_pays c.in_ok-count.count product c.in_ok-count.ensures in
    let equal : c.in_ok-count.count ≡ c.loop-own.count * length (slice_index_or strategies k own) = within.0 ∙ ap (λ n. c.loop-own.count * n) same in
    record {
      whole = rw equal (count_more strategies k c.loop-own.count total own c.loop-own-test.true c.loop-own.invariant.whole);
      few = omega (arith, within.0, within.1);
    }
