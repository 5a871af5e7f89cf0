use Rattle.std.proofs.Common.{ap, sym, ◌∙◌, arith}
use Rattle.spiel_policy.specs.Reading.{state_named}
use Rattle.spiel_policy.proofs.InfoStates.{named_by, no_player}
use Rattle.spiel_policy.proofs.adding.state_named.Goals as goal

pub returns-then-entry-players-clause-value : goal.returns-then-entry-players-clause-value
returns-then-entry-players-clause-value c = sym (no_player c.args.tree.now c.args.entry.now.player c.args.entry.now.text (omega (arith, c.players.ensures, c.if-entry-players.true)))

pub returns-clause-value : goal.returns-clause-value
returns-clause-value c =
    named_by c.args.tree.now c.args.entry.now.player c.bytes.result.now c.find.result c.find.ensures.there c.find.ensures.within c.find.ensures.none
    ∙ ap (state_named c.args.tree.now c.args.entry.now.player) c.bytes.ensures
