-- A tree that grows node by node: how many trees are still to come, and how many moves are above each.
use Rattle.std.proofs.Common.{◌≡◌, ℕ, zero, suc, ◌+◌, ◌-◌, ◌≤◌, Bool, false, ◌&&◌, List, [], ◌∷◌, ◌++◌, length, replicate, refl, sym, ap, ◌∙◌, arith}
use Rattle.std.proofs.lemmas.Bool.{le-leb}
use Rattle.spiel_efg.specs.Tree.{are_shallow, is_forest, most_moves}
use Rattle.spiel_efg.specs.Reading.{is_whole}
use Rattle.spiel_efg.specs.ReadingNodes.{grown_by, settled}
use Rattle.spiel_efg.proofs.Forests.{forest_step}

-- how many trees are to come
abbrev pub still : List ℕ → ℕ
still [] = 0
still (count ∷ to_come) = count + still to_come

-- how many moves there are above each of them
abbrev pub waits : List ℕ → List ℕ
waits [] = []
waits (count ∷ to_come) = replicate count (length to_come) ++ waits to_come

still_settled : (to_come : List ℕ) → still (settled to_come) ≡ still to_come
still_settled [] = refl
still_settled (zero ∷ to_come) = let rest = still_settled to_come in omega (arith, rest)
still_settled (suc count ∷ to_come) = refl

waits_settled : (to_come : List ℕ) → waits (settled to_come) ≡ waits to_come
waits_settled [] = refl
waits_settled (zero ∷ to_come) = waits_settled to_come
waits_settled (suc count ∷ to_come) = refl

pub settled_twice : (to_come : List ℕ) → settled (settled to_come) ≡ settled to_come
settled_twice [] = refl
settled_twice (zero ∷ to_come) = settled_twice to_come
settled_twice (suc count ∷ to_come) = refl

none_in_front : (to_come others : List ℕ) → settled to_come ≡ zero ∷ others → ⊥
none_in_front [] others e = absurd cc
none_in_front (zero ∷ to_come) others e = none_in_front to_come others e
none_in_front (suc count ∷ to_come) others e = let bad : suc count ≡ zero = ap front e in omega (arith, bad)
  where
    front : List ℕ → ℕ
    front [] = 0
    front (n ∷ ns) = n

pub forest_more : (count : ℕ) (to_come counts : List ℕ) → settled to_come ≡ to_come → is_whole to_come ≡ false → is_forest (still to_come) (count ∷ counts) ≡ is_forest (still (grown_by count to_come)) counts
forest_more count [] counts e f = absurd cc
forest_more count (zero ∷ to_come) counts e f = absurd (none_in_front to_come to_come e)
forest_more count (suc more ∷ to_come) counts e f =
    forest_step (suc more + still to_come) count counts (omega arith)
    ∙ ap (λ (k : ℕ). is_forest k counts) (by (still_settled (count ∷ more ∷ to_come)))
  where
    by : still (settled (count ∷ more ∷ to_come)) ≡ still (count ∷ more ∷ to_come) → suc more + still to_come - 1 + count ≡ still (settled (count ∷ more ∷ to_come))
    by e = omega (arith, e)

pub shallow_more : (count : ℕ) (to_come counts : List ℕ) → settled to_come ≡ to_come → is_whole to_come ≡ false → length to_come ≤ suc most_moves
    → are_shallow (waits to_come) (count ∷ counts) ≡ are_shallow (waits (grown_by count to_come)) counts
shallow_more count [] counts e f l = absurd cc
shallow_more count (zero ∷ to_come) counts e f l = absurd (none_in_front to_come to_come e)
shallow_more count (suc more ∷ to_come) counts e f l =
    let depth : ℕ = length to_come in
    let others : List ℕ = replicate more depth ++ waits to_come in
    let next : depth + 1 ≡ length (more ∷ to_come) = omega arith in
    ap (λ (b : Bool). b && are_shallow (replicate count (depth + 1) ++ others) counts) (le-leb depth most_moves (omega (arith, l)))
    ∙ ap (λ (d : ℕ). are_shallow (replicate count d ++ others) counts) next
    ∙ ap (λ (ds : List ℕ). are_shallow ds counts) (sym (waits_settled (count ∷ more ∷ to_come)))
