use Rattle.std.proofs.Common.{◌≡◌, ◌∷◌, ◌++◌, [], List, Some, sym, subst, append_assoc, append-nil, arith}
use Rattle.std.specs.Prelude.{All}
use Rattle.std.proofs.lemmas.List.Elements.{All-push}
use Rattle.json.specs.Json.{after_end_array}
use Rattle.json.specs.Token.{Token}
use Rattle.spiel_policy.specs.Entries.{IsFair}
use Rattle.spiel_policy.specs.Fronts.{ArePairsNext, IsPairNext}
use Rattle.spiel_policy.specs.declared.entries.Pair.{Pair}
use Rattle.spiel_policy.proofs.Fronts.{pairs_more, pairs_none}
use Rattle.spiel_policy.proofs.entrywise.take_pairs.Goals as goal

pub pairs-preserved : goal.pairs-preserved
pairs-preserved c =
    let old = c.args.reader.now in
    let pairs = c.pairs.pairs in
    let pair = c.in-Some.pair in
    let going : c.take_end_array.new.self ≡ c.pairs.reader = grind arith in
    let first : IsPairNext pair c.pairs.reader c.take_pair.new.reader = subst (λ (r : List Token). IsPairNext pair r c.take_pair.new.reader) going c.in-Some.ensures.next in
    let pushed : c.push.new.self ≡ pairs ++ pair ∷ [] = c.in_ok-push.ensures.ok in
    record {
      so_far = λ more left next.
          subst (λ (ps : List Pair). ArePairsNext (ps ++ more) old left) (sym pushed)
          (subst (λ (ps : List Pair). ArePairsNext ps old left) (sym (append_assoc pairs (pair ∷ []) more))
          (c.pairs.invariant.so_far (pair ∷ more) left (pairs_more pair more c.pairs.reader c.take_pair.new.reader left first next)));
      fair = subst (All (λ (p : Pair). IsFair p.weight)) (sym pushed) (All-push (λ (p : Pair). IsFair p.weight) pairs pair c.pairs.invariant.fair c.in-Some.ensures.fair);
    }

pub returns-clause-next : goal.returns-clause-next
returns-clause-next c =
    let close : after_end_array c.pairs.reader ≡ Some c.take_end_array.new.self = grind arith in
    subst (λ (ps : List Pair). ArePairsNext ps c.args.reader.now c.take_end_array.new.self) (append-nil c.pairs.pairs)
    (c.pairs.invariant.so_far [] c.take_end_array.new.self (pairs_none c.pairs.reader c.take_end_array.new.self close))
