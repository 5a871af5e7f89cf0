use Rattle.std.proofs.Common.{rules, ◌≡◌, ℕ, List, Some, length, arith, ap, subst, ◌∙◌}
use Rattle.std.proofs.lemmas.List.{take_all}
use Rattle.std.proofs.lemmas.Grind.{common_steps}
use Rattle.spiel_api.specs.declared.place.Place.{Place}
use Rattle.spiel_api.specs.declared.walking.WalkFault.TheVariants.{Unfinished}
use Rattle.spiel_api.specs.Rules.{Rules}
use Rattle.spiel_api.specs.Plays.{IsPlay}
use Rattle.spiel_api.specs.Walks.{walk_fault, fault_at_end}
use Rattle.spiel_api.proofs.Walks.{walk_fault-illegal, walk_fault-play, fault_at_end-outside, fault_at_end-inside}
use Rattle.spiel_api.proofs.walking.walk.Goals as goal

-- the whole list was walked, to this place
walked : (r : Rules) (h actions : List ℕ) (place : Place) → h ≡ actions → IsPlay r h → place ≡ r.place h → walk_fault r actions ≡ fault_at_end place (length actions)
walked r h actions place e play at = rw (at, e) (walk_fault-play r actions (subst (λ (i : List ℕ). IsPlay r i) e play))

pub returns-then-not-is_next-clause-computed : goal.returns-then-not-is_next-clause-computed
returns-then-not-is_next-clause-computed g c = search (rules, walk_fault-illegal)

pub returns-then-is_inside-clause-computed : goal.returns-then-is_inside-clause-computed
returns-then-is_inside-clause-computed g c =
    let state = c.loop-action.invariant.state in
    let e = state.history ∙ take_all _ _ c.loop-action-test.false in
    walked _ _ _ _ e (g.met.G.Game.plays _ _ state.sound) c.place.ensures ∙ fault_at_end-inside _ _ c.if-is_inside.ensures ∙ ap (λ n. Some (Unfinished n)) (omega arith)

pub returns-clause-computed : goal.returns-clause-computed
returns-clause-computed g c =
    let state = c.loop-action.invariant.state in
    let e = state.history ∙ take_all _ _ c.loop-action-test.false in
    walked _ _ _ _ e (g.met.G.Game.plays _ _ state.sound) c.place.ensures ∙ fault_at_end-outside _ _ c.if-is_inside.ensures

pub loop-action-preserved : goal.loop-action-preserved
loop-action-preserved g c = grind (arith, common_steps)
