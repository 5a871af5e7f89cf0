use Rattle.std.proofs.Common.{◌≡◌, ◌∙◌, ◌∷◌, ◌++◌, [], List, sym, ap, subst, Some, drop, arith, ◌+◌}
use Rattle.std.specs.Prelude.{All, option_map, slice_index_or}
use Rattle.std.proofs.lemmas.List.Elements.{All-nil, All-append, All-cons}
use Rattle.serde_json.specs.View.{items_view, view}
use Rattle.spiel_policy.specs.Entries.{IsFair, pair_of, pairs_in}
use Rattle.spiel_policy.specs.declared.entries.Pair.{Pair}
use Rattle.spiel_policy.proofs.Shapes.{pairs_more}
use Rattle.spiel_policy.proofs.entries.pairs_in.Goals as goal

pub loop-value-preserved : goal.loop-value-preserved
loop-value-preserved c =
    let values = c.args.values.now in
    let pairs = c.loop-value.pairs in
    let pair = c.in-Some.pair in
    let at = c.loop-value.value-index in
    let found : pair_of (view (slice_index_or values at c.value-item.result)) ≡ Some pair = ap (λ v. pair_of (view v)) (sym c.value-item.is) ∙ sym c.pair_of.ensures.value ∙ c.in-Some.is in
    let pushed : c.push.new.self ≡ pairs ++ pair ∷ [] = c.in_ok-push.ensures.ok in
    record {
      so_far = subst (λ (ps : List Pair). option_map (λ more. ps ++ more) (pairs_in (items_view (drop (at + 1) values))) ≡ pairs_in (items_view values)) (sym pushed)
          (sym (pairs_more pairs values at c.value-item.result pair (omega arith) found) ∙ c.loop-value.invariant.so_far);
      fair = subst (All (λ (p : Pair). IsFair p.weight)) (sym pushed)
          (All-append (λ (p : Pair). IsFair p.weight) pairs (pair ∷ []) c.loop-value.invariant.fair (All-cons (λ (p : Pair). IsFair p.weight) pair [] c.in-Some.ensures.fair (All-nil (λ (p : Pair). IsFair p.weight))));
    }
