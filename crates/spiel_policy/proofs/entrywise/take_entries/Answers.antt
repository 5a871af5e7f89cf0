use Rattle.std.proofs.Common.{◌≡◌, List, Option, Some, subst, arith}
use Rattle.std.specs.Prelude.{IfSome, IsTrue}
use Rattle.json.specs.Json.{after_end_array}
use Rattle.json.specs.Token.{Token}
use Rattle.spiel_policy.specs.Fronts.{IsEntryNext}
use Rattle.spiel_policy.specs.declared.entries.Entry.{Entry}
use Rattle.spiel_policy.proofs.Fronts.{entries_more, entries_none}
use Rattle.spiel_policy.proofs.entrywise.take_entries.Goals as goal

pub entries-preserved : goal.entries-preserved
entries-preserved c =
    let tree = c.args.tree.now in
    let entry = c.in-Some.entry in
    let going : c.take_end_array.new.self ≡ c.entries.reader = grind arith in
    let found : IsEntryNext entry c.take_end_array.new.self c.take_entry.new.reader =
    subst (λ (o : Option Entry). IfSome o (λ e. IsEntryNext e c.take_end_array.new.self c.take_entry.new.reader)) c.in-Some.is c.in_ok-entry.ensures.next in
    let first : IsEntryNext entry c.entries.reader c.take_entry.new.reader = subst (λ (r : List Token). IsEntryNext entry r c.take_entry.new.reader) going found in
    let yes : IsTrue c.in_ok-adds_entry.field-0 = grind arith in
    let added = c.in_ok-adds_entry.ensures yes in
    record {
      so_far = λ final left next. c.entries.invariant.so_far final left (entries_more tree c.entries.given c.adds_entry.new.given final c.entries.number entry c.entries.reader c.take_entry.new.reader left first added.0 next);
      for_tree = added.1;
      counted = omega (arith, added.2, c.entries.invariant.counted);
    }

pub returns-clause-next : goal.returns-clause-next
returns-clause-next c =
    let close : after_end_array c.entries.reader ≡ Some c.take_end_array.new.self = grind arith in
    c.entries.invariant.so_far c.entries.given c.take_end_array.new.self (entries_none c.args.tree.now c.entries.given c.entries.number c.entries.reader c.take_end_array.new.self close)
