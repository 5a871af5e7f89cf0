use Rattle.std.proofs.Common.{◌<◌, List, ℕ, sym, subst, arith, slice_index}
use Rattle.std.specs.List.{Contains}
use Rattle.std.proofs.lemmas.Grind.{common_steps}
use Rattle.spiel_api.specs.Rules.{next_of}
use Rattle.spiel_api.proofs.JointLemmas.{joint_next}
use Rattle.spiel_api.proofs.game.Game.apply_joint.Goals as goal

-- inside a joint step the next player's number is legal
pub apply-requires-clause-legal : goal.apply-requires-clause-legal
apply-requires-clause-legal g c =
    let G = g.Self.Game in
    let laws = g.met.Self.Game in
    let game = c.args.self.now in
    let state = c.args.state.now in
    let r = G.rules game in
    let lawful = laws.lawful game (laws.can_be_played game state c.requires.at) in
    let k = c.loop-action.action-index in
    let within : k < r.players = omega (arith, c.loop-action-test.true, c.requires.choice.count) in
    subst (λ (h : List ℕ). Contains (next_of r h) (slice_index c.args.actions.now k)) (sym c.loop-action.invariant.history)
    (joint_next r lawful (G.history_of game state) c.args.actions.now (laws.plays game state c.requires.at) c.requires.joint c.requires.choice k within)

pub loop-action-preserved : goal.loop-action-preserved
loop-action-preserved g c = grind (arith, common_steps)
