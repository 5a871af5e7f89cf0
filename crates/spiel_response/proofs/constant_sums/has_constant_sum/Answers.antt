use Rattle.std.proofs.Common.{◌≡◌, ◌<◌, ◌&&◌, ℤ, ℕ, Bool, length, false, true, ap, sym, ◌∙◌, arith, rules, to_z, of_z, eq-eqb}
use Rattle.std.specs.Prelude.{◌==◌, FitsSigned}
use Rattle.std.specs.Int.{w128}
use Rattle.std.proofs.lemmas.Int.{to_z-of_z}
use Rattle.spiel_tree.specs.Flat.{row_at}
use Rattle.spiel_response.specs.Reach.{is_end, leaves}
use Rattle.spiel_response.specs.BestResponses.{all_sum_to, same_sums, sum_at}
use Rattle.spiel_response.proofs.ConstantSums.{first_sum, sums_differ, sums_more}
use Rattle.spiel_response.proofs.constant_sums.has_constant_sum.Goals as goal

-- with two players the sums decide
two : (n : ℕ) (b : Bool) → n ≡ 2 → b ≡ ((n == 2) && b)
two n b e = sym (ap (λ (c : Bool). c && b) (eq-eqb n 2 e))

pub returns-then-not-sums_to : goal.returns-then-not-sums_to
returns-then-not-sums_to c =
    let tree = c.args.tree.now in
    let f = c.first_leaf.result in
    let fits : FitsSigned w128 c.sum_of_returns-total.result = search rules in
    let total = to_z w128 (of_z w128 c.sum_of_returns-total.result) in
    let total_is : total ≡ sum_at (row_at tree.rows f) = to_z-of_z w128 c.sum_of_returns-total.result fits ∙ c.sum_of_returns-total.ensures in
    let within : c.loop-row.row < length tree.rows = omega (arith, c.loop-row-test.true, c.histories-row-end.ensures.count) in
    let differ : all_sum_to total (leaves tree.rows) ≡ false = sums_differ total tree.rows c.loop-row.row within c.loop-row.invariant (sym c.sums_to.ensures ∙ c.if-not-sums_to.true) in
    let same : same_sums (leaves tree.rows) ≡ false =
    sym (first_sum tree.rows f c.first_leaf.ensures.within (ap is_end c.first_leaf.ensures.over) c.first_leaf.ensures.first)
    ∙ ap (λ (z : ℤ). all_sum_to z (leaves tree.rows)) (sym total_is) ∙ differ in
    let players : tree.players ≡ 2 = omega (arith, c.players.ensures, c.if-players-ne2.false) in
    two tree.players false players ∙ ap (λ (b : Bool). (tree.players == 2) && b) (sym same)

pub loop-row-preserved : goal.loop-row-preserved
loop-row-preserved c =
    let tree = c.args.tree.now in
    let total = to_z w128 (of_z w128 c.sum_of_returns-total.result) in
    let within : c.loop-row.row < length tree.rows = omega (arith, c.loop-row-test.true, c.histories-row-end.ensures.count) in
    sums_more total tree.rows c.loop-row.row true within c.loop-row.invariant (sym c.sums_to.ensures ∙ c.if-not-sums_to.false)
