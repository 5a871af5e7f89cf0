use Rattle.std.proofs.Common.{length, arith}
use Rattle.spiel_tree.specs.States.{states_below}
use Rattle.spiel_policy.specs.Writing.{entry_data_at}
use Rattle.spiel_policy.proofs.FileText.{entries_end, entries_step}
use Rattle.spiel_policy.proofs.writing.push_entries.Goals as goal

pub loop-state-preserved : goal.loop-state-preserved
loop-state-preserved c =
    let tree = c.args.tree.now in
    let count = length (states_below tree.players tree.rows) in
    let at = c.loop-state.state in
    record {
      text = entries_step (entry_data_at tree c.args.policy.now) at count c.loop-state.out c.push_entry.new.out _ (omega arith) c.in_ok-push_entry.ensures.text c.loop-state.invariant.text;
      utf8 = λ before. c.in_ok-push_entry.ensures.utf8 (c.loop-state.invariant.utf8 before);
    }

pub returns-clause-text : goal.returns-clause-text
returns-clause-text c =
    let tree = c.args.tree.now in
    entries_end (entry_data_at tree c.args.policy.now) c.loop-state.state (length (states_below tree.players tree.rows)) c.loop-state.out _ (omega arith) c.loop-state.invariant.text
