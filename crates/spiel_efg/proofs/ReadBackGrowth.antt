-- What a sound game's nodes grow to, one after the other: what is needed of each node.
use Rattle.std.proofs.Common.{◌≡◌, ◌+◌, ◌≤◌, ◌&&◌, ◌==◌, ℕ, zero, suc, Bool, true, false, List, [], ◌∷◌, ◌++◌, length, replicate, refl, sym, ap, subst, ◌∙◌, arith, Option, Some, None, Ok, nat_le, eq-eqb}
use Rattle.std.specs.Prelude.{ℤ, pos, not, sum}
use Rattle.std.specs.List.{list_all}
use Rattle.std.specs.Ordering.{int_eq}
use Rattle.std.specs.Str.{bytes_eq}
use Rattle.std.proofs.lemmas.Bool.{and_from, and_parts, false≢true, leb-true, lt-leb}
use Rattle.std.proofs.lemmas.Cmp.{int_eq_equiv}
use Rattle.std.proofs.lemmas.List.{length-append}
use Rattle.spiel_frac.specs.Fraction.{Fraction}
use Rattle.spiel_matrix.specs.Pays.{common_unit}
use Rattle.spiel_efg.specs.Reading.{is_too_deep, is_whole}
use Rattle.spiel_efg.specs.ReadingNodes.{are_same_actions, are_same_by, are_same_fractions, grown_by, is_same_action, is_same_fraction, one_tree, settled, tested_actions, tested_weights}
use Rattle.spiel_efg.specs.Sets.{are_probabilities, are_weights, is_negative, is_unit, probabilities, whole_weights}
use Rattle.spiel_efg.specs.Tree.{are_shallow, is_forest, is_shallow, most_moves}
use Rattle.spiel_efg.specs.declared.parts.EfgAction.{EfgAction}

-- ---- probabilities
pub weights_tested : (node : ℕ) (weights : List Fraction) → are_probabilities weights ≡ true → tested_weights node weights ≡ Ok tt
unfolding tested_weights
weights_tested node weights e =
    let unit : ℕ = common_unit weights in
    let one = and_parts (list_all (λ weight. not (is_negative weight)) weights) (is_unit unit && (sum (whole_weights weights) == unit)) e in
    let two = and_parts (is_unit unit) (sum (whole_weights weights) == unit) one.1 in
    rw (one.0, two.0, two.1) refl

pub actions_tested : (node : ℕ) (player : Option ℕ) (actions : List EfgAction) → are_weights player (probabilities actions) ≡ true → tested_actions node player actions ≡ Ok tt
actions_tested node None actions e = weights_tested node (probabilities actions) e
actions_tested node (Some player) actions e = refl

-- ---- what is mentioned again is the same
same_int : (z : ℤ) → int_eq z z ≡ true
same_int z = int_eq_equiv.refl z

same_bytes : (bytes : List ℕ) → bytes_eq bytes bytes ≡ true
same_bytes [] = refl
same_bytes (byte ∷ bytes) = and_from (byte == byte) (bytes_eq bytes bytes) (eq-eqb byte byte refl) (same_bytes bytes)

same_fraction : (f : Fraction) → is_same_fraction f f ≡ true
same_fraction f = and_from (int_eq f.num f.num) (int_eq (pos f.den) (pos f.den)) (same_int f.num) (same_int (pos f.den))

same_items : {A : Type 0} (same : A → A → Bool) (items : List A) → ((item : A) → same item item ≡ true) → are_same_by same items items ≡ true
same_items same [] each = refl
same_items same (item ∷ items) each = and_from (same item item) (are_same_by same items items) (each item) (same_items same items each)

pub actions_same : (actions : List EfgAction) → are_same_actions actions actions ≡ true
actions_same actions = same_items is_same_action actions (λ action. and_from (bytes_eq action.name action.name) (is_same_fraction action.weight action.weight) (same_bytes action.name) (same_fraction action.weight))

pub pays_same : (pays : List Fraction) → are_same_fractions pays pays ≡ true
pays_same pays = same_items is_same_fraction pays same_fraction

-- ---- the trees that are still to come
-- how many moves there are above each of them
abbrev pub depths_of : List ℕ → List ℕ
depths_of [] = []
depths_of (count ∷ to_come) = replicate count (length to_come) ++ depths_of to_come

pub settled_depths : (to_come : List ℕ) → depths_of (settled to_come) ≡ depths_of to_come
settled_depths [] = refl
settled_depths (zero ∷ to_come) = settled_depths to_come
settled_depths (suc count ∷ to_come) = refl

-- a node with so many subtrees has come
pub depths_step : (count left : ℕ) (to_come : List ℕ) → depths_of (grown_by count (suc left ∷ to_come)) ≡ replicate count (length to_come + 1) ++ (replicate left (length to_come) ++ depths_of to_come)
depths_step count left to_come =
    settled_depths (count ∷ left ∷ to_come) ∙ ap (λ (depth : ℕ). replicate count depth ++ (replicate left (length to_come) ++ depths_of to_come)) (omega arith)

-- no tree is to come
pub whole_settled : (to_come : List ℕ) → depths_of to_come ≡ [] → is_whole (settled to_come) ≡ true
whole_settled [] e = refl
whole_settled (zero ∷ to_come) e = whole_settled to_come e
whole_settled (suc count ∷ to_come) e = cc

-- a node isn't too deep where the moves above it aren't too many
pub not_too_deep : (count : ℕ) (to_come : List ℕ) → length to_come ≤ most_moves → is_too_deep (count ∷ to_come) ≡ false
not_too_deep count to_come few = lt-leb (suc (suc most_moves)) (length (count ∷ to_come)) (omega arith)

-- the nearest node has trees to come
abbrev pub IsSettled : List ℕ → Type 0
IsSettled [] = Unit {0}
IsSettled (zero ∷ to_come) = ⊥
IsSettled (suc count ∷ to_come) = Unit {0}

pub settled_is : (to_come : List ℕ) → IsSettled (settled to_come)
settled_is [] = tt
settled_is (zero ∷ to_come) = settled_is to_come
settled_is (suc count ∷ to_come) = tt

-- nodes with so many subtrees come one after the other, none too deep, and then the tree is whole
abbrev pub Waits : List ℕ → List ℕ → Type 0
Waits [] to_come = is_whole to_come ≡ true
Waits (count ∷ counts) to_come = (is_whole to_come ≡ false) × ((is_too_deep to_come ≡ false) × Waits counts (grown_by count to_come))

length_replicate : (n x : ℕ) → length (replicate n x) ≡ n
length_replicate zero x = refl
length_replicate (suc n) x = let rest = length_replicate n x in omega (arith, rest)

pub waits_all : (counts to_come : List ℕ) → IsSettled to_come → is_forest (length (depths_of to_come)) counts ≡ true → are_shallow (depths_of to_come) counts ≡ true → Waits counts to_come
waits_all [] [] s f shallow = refl
waits_all [] (zero ∷ to_come) s f shallow = absurd s
waits_all [] (suc left ∷ to_come) s f shallow = absurd (false≢true f)
waits_all (count ∷ counts) [] s f shallow = absurd (false≢true f)
waits_all (count ∷ counts) (zero ∷ to_come) s f shallow = absurd s
waits_all (count ∷ counts) (suc left ∷ to_come) s f shallow =
    let tail : List ℕ = replicate left (length to_come) ++ depths_of to_come in
    let fronted : List ℕ = replicate count (length to_come + 1) ++ tail in
    let parts = and_parts (nat_le (length to_come) most_moves) (are_shallow fronted counts) shallow in
    let long : length fronted ≡ count + length tail = omega (arith, length-append (replicate count (length to_come + 1)) tail, length_replicate count (length to_come + 1)) in
    let step = depths_step count left to_come in (
      refl,
      (
        not_too_deep (suc left) to_come (leb-true (length to_come) most_moves parts.0),
        waits_all counts (grown_by count (suc left ∷ to_come)) (settled_is (count ∷ left ∷ to_come))
            (subst (λ (ds : List ℕ). is_forest (length ds) counts ≡ true) (sym step) (subst (λ (n : ℕ). is_forest n counts ≡ true) (sym long) f))
            (subst (λ (ds : List ℕ). are_shallow ds counts ≡ true) (sym step) parts.1),
      ),
    )

-- the nodes of one tree that isn't too deep
pub tree_waits : (counts : List ℕ) → is_forest 1 counts ≡ true → is_shallow counts ≡ true → Waits counts one_tree
tree_waits counts f shallow = waits_all counts one_tree tt f shallow
