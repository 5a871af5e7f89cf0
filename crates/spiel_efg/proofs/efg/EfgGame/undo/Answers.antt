use Rattle.std.proofs.Common.{◌≡◌, ◌-◌, ℕ, List, length}
use Rattle.std.proofs.lemmas.Option.{same_Some}
use Rattle.spiel_efg.specs.EfgState.{places_above}
use Rattle.spiel_efg.specs.Tree.{nodes_after, subtrees}
use Rattle.spiel_efg.proofs.Children.{above_last, stood}
use Rattle.spiel_efg.proofs.efg.EfgGame.undo.Goals as goal

pub returns-in-Some : goal.returns-in-Some
returns-in-Some c = λ h a e.
    let nodes = c.args.self.now.parts.nodes in
    let count = subtrees c.args.self.now.parts.sets in
    let before : List ℕ = places_above count (length nodes) nodes h in
    let last : ℕ = length nodes - length (nodes_after count nodes h) in
    let popped = c.in-Some.ensures.last before last (above_last c.args.self.now.parts c.args.self.now.sound c.args.state.now h a c.requires.at e) in
    let same : c.in-Some.place ≡ last = same_Some c.in-Some.place last popped.1 in
    stood c.args.self.now.parts c.args.self.now.sound c.args.state.now h a c.pop.new.self c.pop-2.new.self c.in-Some.place c.requires.at e
    (c.pop.ensures.last h a e).0 popped.0 same

pub returns-in_default : goal.returns-in_default
returns-in_default c = λ h a e.
    let nodes = c.args.self.now.parts.nodes in
    let count = subtrees c.args.self.now.parts.sets in
    let before : List ℕ = places_above count (length nodes) nodes h in
    let last : ℕ = length nodes - length (nodes_after count nodes h) in
    let popped = c.in_default.ensures.last before last (above_last c.args.self.now.parts c.args.self.now.sound c.args.state.now h a c.requires.at e) in
    absurd cc
