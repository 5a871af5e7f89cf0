use Rattle.std.proofs.Common.{◌≡◌, ◌*◌, ◌<◌, ◌≤◌, ℕ, None, subst, ap₂, arith}
use Rattle.std.specs.Prelude.{IfSome, IfNone, Option, Some}
use Rattle.spiel_frac.specs.Fraction.{most}
use Rattle.spiel_tree.specs.Flat.{row_at}
use Rattle.spiel_response.specs.Reach.{scale_of, total_of, totals_to}
use Rattle.spiel_response.proofs.Descents.{product_below_small}
use Rattle.spiel_response.proofs.scale.product_below.Goals as goal

product_is : (c : goal.After-times) → c.args.product * c.total.result ≡ totals_to c.args.weighed.now.tree.rows c.args.weighed.now.profile None (row_at c.args.weighed.now.tree.rows c.args.row) * total_of c.args.weighed.now.tree.rows c.args.weighed.now.profile (row_at c.args.weighed.now.tree.rows c.args.row).here
product_is c = ap₂ (λ (x y : ℕ). x * y) c.requires.product c.total.ensures

kept : (r : Option ℕ) (n : ℕ) → IfSome r (λ m. (m ≡ n) × (m ≤ most)) → IfSome r (λ m. m ≡ n)
kept None n p = tt
kept (Some m) n p = p.0

passed : (r : Option ℕ) (n m : ℕ) → IfNone r (most < n) → n ≤ m → IfNone r (most < m)
passed None n m p l = omega (arith, p, l)
passed (Some x) n m p l = tt

pub returns-clause-some : goal.returns-clause-some
returns-clause-some c = subst (λ (n : ℕ). IfSome c.times.result (λ m. m ≡ n)) (product_is c) (kept c.times.result (c.args.product * c.total.result) c.times.ensures.some)

pub returns-clause-none : goal.returns-clause-none
returns-clause-none c =
    let j = c.args.weighed.now in
    let small = product_below_small j c.requires.judgeable c.args.row c.requires.within c.requires.goes_on in
    passed c.times.result (c.args.product * c.total.result) (scale_of j.tree.rows j.profile) c.times.ensures.none (omega (arith, small, product_is c))
