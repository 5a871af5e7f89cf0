use Rattle.std.proofs.Common.{◌≡◌, ◌++◌, take}
use Rattle.spiel_tree.specs.States.{numbers_of}
use Rattle.spiel_policy.specs.Profiles.{weights_of}
use Rattle.spiel_policy.specs.Writing.{pairs_data, pairs_tokens}
use Rattle.spiel_policy.proofs.writing.write_pairs.Given as goal

abbrev pub invariant-loop-index : goal.invariant-loop-index
invariant-loop-index l = record {
  tokens : l.writer.tokens ≡ l.initial.writer.tokens ++ pairs_tokens (pairs_data l.total (take l.index (numbers_of l.tree.players l.tree.rows l.state)) (take l.index (weights_of l.policy l.state)));
  before : l.writer.before ≡ l.initial.writer.before;
}
