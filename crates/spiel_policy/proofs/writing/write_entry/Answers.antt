use Rattle.spiel_tree.specs.States.{numbers_of, state_at}
use Rattle.spiel_policy.specs.Profiles.{weights_of}
use Rattle.spiel_policy.proofs.FileText.{entry_tokens_if}
use Rattle.spiel_policy.proofs.writing.write_entry.Goals as goal

pub returns-clause-tokens : goal.returns-clause-tokens
returns-clause-tokens c =
    let tree = c.args.tree.now in
    let s = c.args.state in
    entry_tokens_if c.write_rest.result (state_at tree.players tree.rows s) (numbers_of tree.players tree.rows s) (weights_of c.args.policy.now s) c.state_player.result c.state_str.result.now
    c.args.writer.now.tokens c.write_front.new.writer.tokens c.write_pairs.new.writer.tokens c.write_rest.new.writer.tokens
    c.state_player.ensures.player c.state_str.ensures c.in_ok-write_front.ensures.tokens c.in_ok-write_pairs.ensures.tokens c.write_rest.ensures.tokens
