use Rattle.spiel_efg.proofs.Children.{action_low, stands}
use Rattle.spiel_efg.proofs.efg.EfgGame.apply.Goals as goal

pub child-place-requires-clause-action : goal.child-place-requires-clause-action
child-place-requires-clause-action c = action_low c.args.self.now.parts c.args.self.now.sound c.args.self.now.children c.args.state.now c.args.action c.args.self.now.children_are c.requires.at c.requires.legal

pub returns-in-Ok-clause-ok : goal.returns-in-Ok-clause-ok
returns-in-Ok-clause-ok c =
    stands c.args.self.now.parts c.args.self.now.sound c.args.self.now.children c.args.state.now c.args.action c.push-2.new.self c.push.new.self c.child-place.result c.args.self.now.children_are c.requires.at c.requires.legal
    c.in-Ok.ensures.ok c.in_ok-push.ensures.ok c.child-place.ensures
