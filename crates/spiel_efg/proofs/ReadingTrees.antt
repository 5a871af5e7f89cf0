-- A tree, node by node.
use Rattle.std.proofs.Common.{◌≡◌, ℕ, zero, suc, ◌+◌, ◌-◌, ◌<◌, ◌≤◌, Bool, true, false, List, [], ◌∷◌, length, refl, sym, ap, ◌∙◌, arith, Ok}
use Rattle.std.specs.Prelude.{if◌then◌else◌}
use Rattle.spiel_efg.specs.ReadingTokens.{IsComputed, Read, Rest, and_then, begins_at}
use Rattle.spiel_efg.specs.ReadingNodes.{taken}
use Rattle.spiel_efg.specs.Reading.{is_whole, node_at, too_large, tree_at}
use Rattle.spiel_efg.specs.declared.read_fault.EfgFault.{EfgFault}
use Rattle.spiel_efg.specs.declared.read_nodes.Grown.{Grown}
use Rattle.spiel_efg.proofs.ReadingLists.{passed_on}

pub taken_long : (to_come : List ℕ) → length (taken to_come) ≡ length to_come
taken_long [] = refl
taken_long (zero ∷ to_come) = refl
taken_long (suc count ∷ to_come) = refl

one_less : (most counter : ℕ) → counter < most → most - counter ≡ suc (most - (counter + 1))
one_less most counter l = omega arith

abbrev on_by : ℕ → ℕ → Grown → Rest → Bool → Read Grown
on_by left players grown rest whole = if whole then Ok (grown, rest) else and_then (tree_at left players) (node_at players grown rest)

tree_on : (left players : ℕ) (grown : Grown) (rest : Rest) → tree_at (suc left) players grown rest ≡ on_by left players grown rest (is_whole grown.to_come)
unfolding tree_at
tree_on left players grown rest = refl

-- a node more
pub tree_step : (most counter players : ℕ) (grown more : Grown) (rest after : Rest) (answer : Read Grown) → counter < most → is_whole grown.to_come ≡ false → node_at players grown rest ≡ Ok (more, after)
    → tree_at (most - counter) players grown rest ≡ answer → tree_at (most - (counter + 1)) players more after ≡ answer
tree_step most counter players grown more rest after answer l e n so =
    let left = most - (counter + 1) in
    sym (ap (λ (k : ℕ). tree_at k players grown rest) (one_less most counter l) ∙ tree_on left players grown rest ∙ ap (on_by left players grown rest) e ∙ ap (and_then (tree_at left players)) n)
    ∙ so

-- a node with a fault
pub tree_stop : (most counter players : ℕ) (grown : Grown) (rest : Rest) (answer : Read Grown) (fault : EfgFault) → counter < most → is_whole grown.to_come ≡ false → IsComputed (node_at players grown rest) fault
    → tree_at (most - counter) players grown rest ≡ answer → IsComputed answer fault
tree_stop most counter players grown rest answer fault l e h so =
    let left = most - (counter + 1) in
    passed_on (node_at players grown rest) answer fault
    (λ f n. sym so ∙ ap (λ (k : ℕ). tree_at k players grown rest) (one_less most counter l) ∙ tree_on left players grown rest ∙ ap (on_by left players grown rest) e ∙ ap (and_then (tree_at left players)) n)
    h

-- the tree is whole
pub tree_whole : (left players : ℕ) (grown : Grown) (rest : Rest) (answer : Read Grown) → is_whole grown.to_come ≡ true → tree_at left players grown rest ≡ answer → answer ≡ Ok (grown, rest)
unfolding tree_at
tree_whole zero players grown rest answer e so = sym so ∙ ap (λ (whole : Bool). if whole then Ok (grown, rest) else and_then too_large (begins_at rest)) e
tree_whole (suc left) players grown rest answer e so = sym so ∙ ap (λ (whole : Bool). if whole then Ok (grown, rest) else and_then (tree_at left players) (node_at players grown rest)) e

-- no node more may come
pub tree_full : (most counter players : ℕ) (grown : Grown) (rest : Rest) (answer : Read Grown) → most ≤ counter → is_whole grown.to_come ≡ false → tree_at (most - counter) players grown rest ≡ answer
    → answer ≡ and_then too_large (begins_at rest)
unfolding tree_at
tree_full most counter players grown rest answer l e so =
    let none : most - counter ≡ 0 = omega arith in
    sym so ∙ ap (λ (k : ℕ). tree_at k players grown rest) none
    ∙ ap (λ (whole : Bool). if whole then Ok (grown, rest) else and_then too_large (begins_at rest)) e

-- and what begins the next is none
pub stopped_at_begins : (rest : Rest) (answer : Read Grown) (fault : EfgFault) → answer ≡ and_then too_large (begins_at rest) → IsComputed (begins_at rest) fault → IsComputed answer fault
stopped_at_begins rest answer fault e h = passed_on (begins_at rest) answer fault (λ f n. e ∙ ap (λ found. and_then too_large found) n) h
