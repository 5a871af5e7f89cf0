use Rattle.std.proofs.Common.{◌≡◌, ◌+◌, ◌<◌, ◌∷◌, ◌++◌, [], ℕ, List, drop, length, ap, sym, subst, ◌∙◌, arith, Option, Some, None, Ok}
use Rattle.std.specs.Prelude.{slice_index_or, All}
use Rattle.std.proofs.lemmas.List.Elements.{All-push}
use Rattle.spiel_policy.specs.Reading.{IsComputed, go_on, profile_from}
use Rattle.spiel_policy.specs.Profiles.{AreReduced, Profile}
use Rattle.spiel_policy.proofs.GivenWeights.{goes_on_there, stops_there}
use Rattle.spiel_policy.proofs.Profiles.{totals_more}
use Rattle.spiel_policy.proofs.partial.PartialPolicy.policy.Goals as goal

pub returns-in_default-clause-answer : goal.returns-in_default-clause-answer
returns-in_default-clause-answer c =
    let places = c.self.inside.places.items in
    let at = c.loop-place.place-index in
    let items : c.deref-place-items.result.now ≡ places = c.deref-place-items.ensures.value in
    let within : at < length places = omega (arith, ap length items, c.loop-place-test.true, c.loop-place.auto.place-index-end) in
    let stops = stops_there c.args.tree.now c.self.inside.weights c.loop-place.weights places c.args.self.now c.loop-place.state at c.self.view_is within
    (ap (λ (ps : List (Option ℕ)). slice_index_or ps at None) (sym items) ∙ c.in_default.is) c.loop-place.invariant.so_far in
    subst (IsComputed (profile_from c.args.tree.now 0 c.args.self.now)) (sym c.in_ok-missing.ensures) stops

pub loop-place-preserved : goal.loop-place-preserved
loop-place-preserved c =
    let places = c.self.inside.places.items in
    let at = c.loop-place.place-index in
    let own = c.at-own.result.now in
    let items : c.deref-place-items.result.now ≡ places = c.deref-place-items.ensures.value in
    let within : at < length places = omega (arith, ap length items, c.loop-place-test.true, c.loop-place.auto.place-index-end) in
    let there = goes_on_there c.args.tree.now c.self.inside.weights c.loop-place.weights places c.args.self.now c.loop-place.state at c.in-Some.place own c.self.invariant c.self.view_is within
    (ap (λ (ps : List (Option ℕ)). slice_index_or ps at None) (sym items) ∙ c.in-Some.is) c.at-own.ensures c.loop-place.invariant.so_far in
    let pushed : c.push.new.self ≡ c.loop-place.weights ++ own ∷ [] = c.in_ok-push.ensures.ok in
    record {
      so_far = subst (λ (ps : Profile). go_on (λ (more : Profile). Ok (ps ++ more)) (profile_from c.args.tree.now (c.loop-place.state + 1) (drop (at + 1) c.args.self.now)) ≡ profile_from c.args.tree.now 0 c.args.self.now) (sym pushed) there.so_far;
      at = ap (λ (n : ℕ). n + 1) c.loop-place.invariant.at;
      totals_are = c.in_ok-push-2.ensures.ok ∙ totals_more c.loop-place.weights c.loop-place.totals own c.sum_of.result c.loop-place.invariant.totals_are c.sum_of.ensures
          ∙ ap (Rattle.std.proofs.Common.map Rattle.std.specs.Prelude.sum) (sym pushed);
      reduced = subst (All AreReduced) (sym pushed) (All-push AreReduced c.loop-place.weights own c.loop-place.invariant.reduced there.reduced);
    }
