use Rattle.std.proofs.Common.{◌≡◌, List, length}
use Rattle.std.specs.Prelude.{count_by, is_some}
use Rattle.json.specs.Token.{Token}
use Rattle.spiel_policy.specs.Fronts.{AreEntriesNext}
use Rattle.spiel_policy.specs.Partial.{IsFor}
use Rattle.spiel_policy.specs.Reading.{Partial, none_given}
use Rattle.spiel_policy.proofs.entrywise.take_entries.Given as goal

abbrev pub invariant-entries : goal.invariant-entries
invariant-entries l = record {
  so_far : (final : Partial) (left : List Token) → AreEntriesNext l.tree l.given l.number final l.reader left → AreEntriesNext l.tree (none_given l.tree) 0 final l.initial.reader left;
  for_tree : IsFor l.tree l.given;
  counted : l.number ≡ count_by is_some l.given;
}

abbrev pub decreases-entries : goal.decreases-entries
decreases-entries l = length l.reader
