use Rattle.std.proofs.Common.{List, ℕ, sym, subst, refl, slice_index}
use Rattle.std.specs.List.{Contains}
use Rattle.spiel_api.specs.Rules.{next_of}
use Rattle.spiel_api.proofs.PlayLemmas.{IsPlay-next}
use Rattle.spiel_layers.proofs.start_at.follow.Goals as goal

-- each number of a play is legal where it stands
pub apply-requires-clause-legal : goal.apply-requires-clause-legal
apply-requires-clause-legal g c =
    let r = g.G.Game.rules c.args.game.now in
    let play = c.args.play.now in
    let k = c.loop-action.action-index in
    subst (λ (h : List ℕ). Contains (next_of r h) (slice_index play k)) (sym c.loop-action.invariant.state.history)
    (IsPlay-next r play k (slice_index play k) c.requires.play c.loop-action-test.true refl)
