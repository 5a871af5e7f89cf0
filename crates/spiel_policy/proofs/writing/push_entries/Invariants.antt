use Rattle.std.proofs.Common.{◌≡◌, ◌++◌, ◌-◌, false, length, map, nat_lt}
use Rattle.std.specs.Prelude.{IsUtf8}
use Rattle.std.specs.List.{range_with_len}
use Rattle.serde_json.specs.View.{items_of}
use Rattle.serde_json.specs.Written.{items_text}
use Rattle.spiel_tree.specs.States.{states_below}
use Rattle.spiel_policy.specs.Writing.{entries_data, entry_data_at}
use Rattle.spiel_policy.proofs.writing.push_entries.Given as goal

abbrev pub invariant-loop-state : goal.invariant-loop-state
invariant-loop-state l = record {
  text : l.out ++ items_text (nat_lt 0 l.state) (items_of (map (entry_data_at l.tree l.policy) (range_with_len l.state (length (states_below l.tree.players l.tree.rows) - l.state))))
      ≡ l.initial.out ++ items_text false (items_of (entries_data l.tree l.policy));
  utf8 : IsUtf8 l.initial.out → IsUtf8 l.out;
}
