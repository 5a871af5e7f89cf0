use Rattle.std.proofs.Common.{◌≡◌, drop}
use Rattle.std.specs.Prelude.{count_by, is_some}
use Rattle.serde_json.specs.View.{items_view}
use Rattle.spiel_policy.specs.Partial.{IsFor}
use Rattle.spiel_policy.specs.Reading.{none_given, with_entries}
use Rattle.spiel_policy.proofs.reading.take_entries.Given as goal

abbrev pub invariant-loop-value : goal.invariant-loop-value
invariant-loop-value l = record {
  so_far : with_entries l.tree l.given l.number (items_view (drop l.value-index l.values)) ≡ with_entries l.tree (none_given l.tree) 0 (items_view l.values);
  for_tree : IsFor l.tree l.given;
  counted : l.number ≡ count_by is_some l.given;
}
