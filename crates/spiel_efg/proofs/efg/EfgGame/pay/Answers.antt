use Rattle.std.proofs.Common.{◌≡◌, ◌∙◌, ◌^◌, ◌≤◌, ap, arith, subst, sym, to_z, of_z, w64}
use Rattle.std.specs.Prelude.{nat_abs}
use Rattle.std.specs.Int.{w128}
use Rattle.std.proofs.lemmas.Int.{ints, to_z-of_z}
use Rattle.spiel_efg.specs.EfgPays.{own_pay, pay_along}
use Rattle.spiel_efg.specs.Tree.{subtrees}
use Rattle.spiel_efg.proofs.Sums.{return_fits}
use Rattle.spiel_efg.proofs.efg.EfgGame.pay.Goals as goal

pub overflow_cast-result : goal.overflow_cast-result
overflow_cast-result c =
    let is : c.pay_along.result ≡ pay_along (subtrees c.args.self.now.parts.sets) (own_pay c.args.self.now.parts c.args.player) c.args.self.now.parts.nodes c.args.state.now.history =
    c.pay_along.ensures ∙ ap (λ h. pay_along (subtrees c.args.self.now.parts.sets) (own_pay c.args.self.now.parts c.args.player) c.args.self.now.parts.nodes h) c.items.ensures in
    let fits : nat_abs c.pay_along.result ≤ 2 ^ 62 = subst (λ z. nat_abs z ≤ 2 ^ 62) (sym is) (return_fits c.args.self.now.parts c.args.self.now.sound c.args.state.now.history c.args.player c.requires.at.play c.requires.end c.requires.player) in
    let wide : to_z w128 (of_z w128 c.pay_along.result) ≡ c.pay_along.result = to_z-of_z w128 c.pay_along.result (omega (arith, ints, fits)) in
    omega (arith, ints, fits, wide)

pub returns : goal.returns
returns c =
    let is : c.pay_along.result ≡ pay_along (subtrees c.args.self.now.parts.sets) (own_pay c.args.self.now.parts c.args.player) c.args.self.now.parts.nodes c.args.state.now.history =
    c.pay_along.ensures ∙ ap (λ h. pay_along (subtrees c.args.self.now.parts.sets) (own_pay c.args.self.now.parts c.args.player) c.args.self.now.parts.nodes h) c.items.ensures in
    let fits : nat_abs c.pay_along.result ≤ 2 ^ 62 = subst (λ z. nat_abs z ≤ 2 ^ 62) (sym is) (return_fits c.args.self.now.parts c.args.self.now.sound c.args.state.now.history c.args.player c.requires.at.play c.requires.end c.requires.player) in
    let wide : to_z w128 (of_z w128 c.pay_along.result) ≡ c.pay_along.result = to_z-of_z w128 c.pay_along.result (omega (arith, ints, fits)) in
    to_z-of_z w64 (to_z w128 (of_z w128 c.pay_along.result)) (omega (arith, ints, fits, wide)) ∙ wide ∙ is
