use Rattle.spiel_policy.proofs.GivenWeights.{added_is, added_keeps}
use Rattle.spiel_policy.proofs.partial.PartialPolicy.add.Goals as goal

pub invariant_of-self-2 : goal.invariant_of-self-2
invariant_of-self-2 c =
    added_keeps c.self.inside.weights c.push.new.self c.self.inside.places.items c.args.self.now c.args.weights.now c.args.state c.len-place.result
    c.self.invariant c.self.view_is c.requires.within c.requires.free c.requires.reduced c.in_ok-push.ensures.ok c.len-place.ensures

pub returns : goal.returns
returns c =
    added_is c.self.inside.weights c.push.new.self c.self.inside.places.items c.args.self.now c.args.weights.now c.args.state c.len-place.result
    c.self.invariant c.self.view_is c.in_ok-push.ensures.ok c.len-place.ensures
