-- What a mention in full leaves of the sets and outcomes that were seen.
use Rattle.std.proofs.Common.{◌≡◌, ◌==◌, ℕ, true, false, List, [], ◌∷◌, ◌++◌, length, refl, ap, ◌∙◌, Some, None, Result, Ok}
use Rattle.spiel_efg.specs.ReadingNodes.{are_same_fractions, are_same_actions, go_on, grown_with, outcome_in, place_of_outcome, place_of_set, placed, placed_at, with_node, with_outcome, with_set}
use Rattle.spiel_efg.specs.Sets.{are_weights, probabilities, set_at}
use Rattle.spiel_efg.specs.declared.parts.EfgOutcome.{EfgOutcome}
use Rattle.spiel_efg.specs.declared.parts.EfgSet.{EfgSet}
use Rattle.spiel_efg.specs.declared.read_fault.EfgFault.{EfgFault}
use Rattle.spiel_efg.specs.declared.read_mentions.NodeMention.{NodeMention}
use Rattle.spiel_efg.specs.declared.read_nodes.Grown.{Grown}
use Rattle.spiel_efg.specs.declared.read_nodes.Placed.{Placed}
use Rattle.spiel_efg.proofs.ReadBackGrowth.{actions_same, actions_tested, pays_same}
use Rattle.spiel_efg.proofs.ReadBackNodes.{mention_of, outcome_mention_of}

-- ---- outcomes
pub no_outcome_kept : (node : ℕ) (outcomes : List EfgOutcome) → with_outcome node outcomes (outcome_mention_of None) ≡ Ok outcomes
unfolding with_outcome
no_outcome_kept node outcomes = refl

pub known_outcome_kept : (node : ℕ) (outcomes : List EfgOutcome) (one : EfgOutcome) (place : ℕ) → (one.number == 0) ≡ false → place_of_outcome outcomes one.number ≡ Some place → outcome_in outcomes place ≡ one
    → with_outcome node outcomes (outcome_mention_of (Some one)) ≡ Ok outcomes
unfolding with_outcome
known_outcome_kept node outcomes one place some found is =
    let same : are_same_fractions one.pays (outcome_in outcomes place).pays ≡ true = ap (λ (known : EfgOutcome). are_same_fractions one.pays known.pays) is ∙ pays_same one.pays in
    rw (some, found, same) refl

pub new_outcome_added : (node : ℕ) (outcomes : List EfgOutcome) (one : EfgOutcome) → (one.number == 0) ≡ false → place_of_outcome outcomes one.number ≡ None
    → with_outcome node outcomes (outcome_mention_of (Some one)) ≡ Ok (outcomes ++ one ∷ [])
unfolding with_outcome
new_outcome_added node outcomes one some found = rw (some, found) refl

-- ---- sets
pub known_set_kept : (node : ℕ) (sets : List EfgSet) (one : EfgSet) (place : ℕ) → place_of_set sets one.player one.number ≡ Some place → set_at sets place ≡ one
    → with_set node sets (mention_of one) ≡ Ok (place, sets)
unfolding with_set
known_set_kept node sets one place found is =
    let same : are_same_actions one.actions (set_at sets place).actions ≡ true = ap (λ (known : EfgSet). are_same_actions one.actions known.actions) is ∙ actions_same one.actions in
    rw (found, same) refl

pub new_set_added : (node : ℕ) (sets : List EfgSet) (one : EfgSet) → place_of_set sets one.player one.number ≡ None → are_weights one.player (probabilities one.actions) ≡ true
    → with_set node sets (mention_of one) ≡ Ok (length sets, sets ++ one ∷ [])
unfolding with_set
new_set_added node sets one found fine =
    let tested = actions_tested node one.player one.actions fine in
    rw (found, tested) refl

-- ---- a node
pub set_placed : (node : ℕ) (sets more : List EfgSet) (one : EfgSet) (place : ℕ) → with_set node sets (mention_of one) ≡ Ok (place, more) → placed node sets (Some (mention_of one)) ≡ Ok (placed_at (mention_of one) place more)
set_placed node sets more one place e =
    let next : ℕ × List EfgSet → Result Placed EfgFault = λ found. Ok (placed_at (mention_of one) found.0 found.1) in
    ap (go_on next) e

pub node_added : (grown : Grown) (mention : NodeMention) (at : Placed) (outcomes : List EfgOutcome) → placed (length grown.nodes) grown.sets mention.set ≡ Ok at
    → with_outcome (length grown.nodes) grown.outcomes mention.outcome ≡ Ok outcomes → with_node grown mention ≡ Ok (grown_with grown mention at outcomes)
unfolding with_node
node_added grown mention at outcomes p q = rw (p, q) refl
