use Rattle.std.proofs.Common.{◌≡◌, ◌++◌, drop}
use Rattle.std.specs.Prelude.{All, option_map}
use Rattle.serde_json.specs.View.{items_view}
use Rattle.spiel_policy.specs.Entries.{IsFair, pairs_in}
use Rattle.spiel_policy.proofs.entries.pairs_in.Given as goal

abbrev pub invariant-loop-value : goal.invariant-loop-value
invariant-loop-value l = record {
  so_far : option_map (λ more. l.pairs ++ more) (pairs_in (items_view (drop l.value-index l.values))) ≡ pairs_in (items_view l.values);
  fair : All (λ pair. IsFair pair.weight) l.pairs;
}
