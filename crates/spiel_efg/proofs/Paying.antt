-- Payoffs: what a node pays, which payoffs are small, and the cap.
use Rattle.std.proofs.Common.{◌≡◌, ℕ, zero, suc, ◌+◌, ◌-◌, ◌*◌, ◌^◌, ◌<◌, ◌≤◌, max, Bool, true, false, not, ◌&&◌, ◌==◌, List, [], ◌∷◌, ◌++◌, length, map, drop, replicate, get_or, refl, sym, ap, subst, ◌∙◌, arith, nat_le, Some, None, if◌then◌else◌, cond, append_assoc}
use Rattle.std.specs.Prelude.{ℤ, pos, ◌+ℤ◌, nat_abs, slice_index, slice_index_or, flat_map}
use Rattle.std.specs.List.{list_all, range_with_len}
use Rattle.std.proofs.lemmas.Bool.{false≢true, leb-true, leb-false, le-leb, lt-leb}
use Rattle.std.proofs.lemmas.Int.{ints}
use Rattle.std.proofs.lemmas.List.{append-nil, drop_all, length-map, length-append, length-replicate, length-drop}
use Rattle.spiel_frac.specs.Fraction.{Fraction}
use Rattle.spiel_matrix.specs.Pays.{are_small, greatest, in_parts}
use Rattle.spiel_efg.specs.declared.parts.EfgNode.{EfgNode}
use Rattle.spiel_efg.specs.declared.parts.EfgOutcome.{EfgOutcome}
use Rattle.spiel_efg.specs.declared.parts.EfgParts.{EfgParts}
use Rattle.spiel_efg.specs.declared.fault.PartsFault.{PartsFault}
use Rattle.spiel_efg.specs.declared.fault.PartsFault.TheVariants.{Bad, NoMemory}
use Rattle.spiel_efg.specs.declared.pays.PayTable.{PayTable}
use Rattle.spiel_efg.specs.EfgPays.{all_pays, are_lists_small, cap_for, cap_with, efg_cap, efg_unit, leaf_pays, own_pay, pay_in, pay_lists, pays_among, pays_of, returns_of, small, with_leaf}
use Rattle.spiel_efg.specs.Faults.{IsRefused}
use Rattle.spiel_efg.specs.Mentions.{are_equal, place_of}
use Rattle.spiel_efg.specs.Tables.{IsPayTable}
use Rattle.spiel_efg.specs.Tree.{counts_of, is_forest, subtrees}
use Rattle.spiel_efg.proofs.Forests.{forest_room, forest_step, rest_is}
use Rattle.spiel_efg.proofs.InOrder.{equal_true, range_push}

abbrev nothing : Fraction
nothing = record { num = pos 0; den = 1 }

-- ---- the rows
pub rows_are : (outcomes : List EfgOutcome) (nodes : List EfgNode) (seen rows : List ℕ) → true ≡ are_equal seen (0 ∷ map (λ outcome. outcome.number) outcomes) → rows ≡ map (λ node. place_of seen node.outcome) nodes
    → rows ≡ map (λ node. place_of (0 ∷ map (λ outcome. outcome.number) outcomes) node.outcome) nodes
rows_are outcomes nodes seen rows e f = f ∙ ap (λ xs. map (λ node. place_of xs node.outcome) nodes) (equal_true seen (0 ∷ map (λ outcome. outcome.number) outcomes) (sym e))

-- ---- what a row pays
zero_parts : (unit : ℕ) → pos 0 ≡ in_parts unit nothing
zero_parts unit = omega (arith, ints)

part_at : (unit : ℕ) (pays : List Fraction) (p : ℕ) → slice_index_or (map (in_parts unit) pays) p (pos 0) ≡ in_parts unit (slice_index_or pays p nothing)
part_at unit [] p = zero_parts unit
part_at unit (pay ∷ pays) zero = refl
part_at unit (pay ∷ pays) (suc p) = part_at unit pays p

among : (unit : ℕ) (outcomes : List EfgOutcome) (number p : ℕ)
    → slice_index_or (slice_index_or (pay_lists unit outcomes) (place_of (map (λ outcome. outcome.number) outcomes) number) []) p (pos 0) ≡ in_parts unit (slice_index_or (pays_among outcomes number) p nothing)
among unit [] number p = zero_parts unit
among unit (outcome ∷ others) number p = by (number == outcome.number) (among unit others number p)
  where
    by : (b : Bool) → slice_index_or (slice_index_or (pay_lists unit others) (place_of (map (λ outcome. outcome.number) others) number) []) p (pos 0) ≡ in_parts unit (slice_index_or (pays_among others number) p nothing)
        → slice_index_or (slice_index_or (pay_lists unit (outcome ∷ others)) (cond (not b) (1 + place_of (map (λ outcome. outcome.number) others) number) 0) []) p (pos 0) ≡ in_parts unit (slice_index_or (if b then outcome.pays else pays_among others number) p nothing)
    by true later = part_at unit outcome.pays p
    by false later = let next : 1 + place_of (map (λ outcome. outcome.number) others) number ≡ suc (place_of (map (λ outcome. outcome.number) others) number) = omega arith in rw next later

own_is : (unit : ℕ) (outcomes : List EfgOutcome) (number p : ℕ) → pay_in (pay_lists unit outcomes) (place_of (0 ∷ map (λ outcome. outcome.number) outcomes) number) p ≡ in_parts unit (slice_index_or (pays_of outcomes number) p nothing)
own_is unit outcomes number p = by (number == 0)
  where
    by : (b : Bool) → pay_in (pay_lists unit outcomes) (cond (not b) (1 + place_of (map (λ outcome. outcome.number) outcomes) number) 0) p ≡ in_parts unit (slice_index_or (if b then [] else pays_among outcomes number) p nothing)
    by true = zero_parts unit
    by false = let next : 1 + place_of (map (λ outcome. outcome.number) outcomes) number ≡ suc (place_of (map (λ outcome. outcome.number) outcomes) number) = omega arith in rw next (among unit outcomes number p)

row_at : (f : EfgNode → ℕ) (nodes : List EfgNode) (k : ℕ) (d : EfgNode) → k < length nodes → slice_index (map f nodes) k ≡ f (slice_index_or nodes k d)
row_at f [] k d l = absurd (omega arith)
row_at f (node ∷ nodes) zero d l = refl
row_at f (node ∷ nodes) (suc k) d l = row_at f nodes k d (omega arith)

pub own_at : (parts : EfgParts) (table : PayTable) (place p : ℕ) (d : EfgNode) → IsPayTable parts table → place < length parts.nodes
    → pay_in table.lists (slice_index table.rows place) p ≡ own_pay parts p (slice_index_or parts.nodes place d)
own_at parts table place p d is l =
    ap (λ lists. pay_in lists (slice_index table.rows place) p) is.lists
    ∙ ap (λ rows. pay_in (pay_lists (efg_unit parts) parts.outcomes) (slice_index rows place) p) is.rows
    ∙ ap (λ row. pay_in (pay_lists (efg_unit parts) parts.outcomes) row p) (row_at (λ node. place_of (0 ∷ map (λ outcome. outcome.number) parts.outcomes) node.outcome) parts.nodes place d l)
    ∙ own_is (efg_unit parts) parts.outcomes (slice_index_or parts.nodes place d).outcome p

pub rows_long : (parts : EfgParts) (table : PayTable) → IsPayTable parts table → length table.rows ≡ length parts.nodes
rows_long parts table is = ap length is.rows ∙ length-map parts.nodes (λ node. place_of (0 ∷ map (λ outcome. outcome.number) parts.outcomes) node.outcome)

-- ---- small payoffs
small_append : (unit : ℕ) (xs ys : List Fraction) → are_small unit (xs ++ ys) ≡ (are_small unit xs && are_small unit ys)
small_append unit [] ys = refl
small_append unit (x ∷ xs) ys = by (nat_le (nat_abs (in_parts unit x)) (2 ^ 62)) (small_append unit xs ys)
  where
    by : (b : Bool) → are_small unit (xs ++ ys) ≡ (are_small unit xs && are_small unit ys) → (b && are_small unit (xs ++ ys)) ≡ ((b && are_small unit xs) && are_small unit ys)
    by true e = e
    by false e = refl

pub lists_small : (unit : ℕ) (outcomes : List EfgOutcome) → are_lists_small unit outcomes ≡ are_small unit (all_pays outcomes)
lists_small unit [] = refl
lists_small unit (outcome ∷ others) = ap (λ b. are_small unit outcome.pays && b) (lists_small unit others) ∙ sym (small_append unit outcome.pays (all_pays others))

-- ---- the cap of a player
greatest_low : (sizes : List ℕ) → 1 ≤ greatest sizes
greatest_low [] = omega arith
greatest_low (size ∷ sizes) = omega (arith, greatest_low sizes)

abbrev sizes : List ℤ → List ℕ
sizes returns = map nat_abs returns

cap_some : (cap count next : ℕ) (here : ℤ) (later : List ℤ) → Some next ≡ cap_with cap count here → cap ≤ 2 ^ 62
    → (max cap (greatest (sizes (with_leaf count here later))) ≡ max next (greatest (sizes later))) × (next ≤ 2 ^ 62) × (cap ≤ next)
cap_some cap zero next here later e high = by (nat_le (nat_abs here) (2 ^ 62)) refl e
  where
    by : (b : Bool) → nat_le (nat_abs here) (2 ^ 62) ≡ b → Some next ≡ (if b then Some (max cap (nat_abs here)) else None)
        → (max cap (max (nat_abs here) (greatest (sizes later))) ≡ max next (greatest (sizes later))) × (next ≤ 2 ^ 62) × (cap ≤ next)
    by true t e =
        let same : next ≡ max cap (nat_abs here) = cc in
        let low = leb-true (nat_abs here) (2 ^ 62) t in
        (omega arith, omega arith, omega arith)
    by false t e = absurd cc
cap_some cap (suc count) next here later e high = let same : next ≡ cap = cc in (omega arith, omega arith, omega arith)

cap_none : (cap count : ℕ) (here : ℤ) (later : List ℤ) → None ≡ cap_with cap count here → 2 ^ 62 < max cap (greatest (sizes (with_leaf count here later)))
cap_none cap zero here later e = by (nat_le (nat_abs here) (2 ^ 62)) refl e
  where
    by : (b : Bool) → nat_le (nat_abs here) (2 ^ 62) ≡ b → None ≡ (if b then Some (max cap (nat_abs here)) else None) → 2 ^ 62 < max cap (max (nat_abs here) (greatest (sizes later)))
    by true t e = absurd cc
    by false t e = let high = leb-false (nat_abs here) (2 ^ 62) t in omega arith
cap_none cap (suc count) here later e = absurd cc

pub small_is : (n : ℕ) → n ≤ 2 ^ 62 → Some n ≡ small n
small_is n l = rw (le-leb n (2 ^ 62) l) refl

pub large_is : (n : ℕ) → 2 ^ 62 < n → None ≡ small n
large_is n l = rw (lt-leb n (2 ^ 62) l) refl

pub small_back : (n m : ℕ) → Some m ≡ small n → (m ≡ n) × (n ≤ 2 ^ 62)
small_back n m e = by (nat_le n (2 ^ 62)) refl e
  where
    by : (b : Bool) → nat_le n (2 ^ 62) ≡ b → Some m ≡ (if b then Some n else None) → (m ≡ n) × (n ≤ 2 ^ 62)
    by true t e = (cc, leb-true n (2 ^ 62) t)
    by false t e = absurd cc

pub large_back : (n : ℕ) → None ≡ small n → 2 ^ 62 < n
large_back n e = by (nat_le n (2 ^ 62)) refl e
  where
    by : (b : Bool) → nat_le n (2 ^ 62) ≡ b → None ≡ (if b then Some n else None) → 2 ^ 62 < n
    by true t e = absurd cc
    by false t e = leb-false n (2 ^ 62) t

-- what waits isn't far from 0 behind so many nodes
abbrev pub are_near : ℕ → List ℤ → Bool
are_near place waiting = list_all (λ z. nat_le (nat_abs z) (place * 2 ^ 63)) waiting

both : (a b : Bool) → (a && b) ≡ true → (a ≡ true) × (b ≡ true)
both true b e = (refl, e)
both false b e = absurd (false≢true e)

near_more : (place : ℕ) (waiting : List ℤ) → are_near place waiting ≡ true → are_near (place + 1) waiting ≡ true
near_more place [] e = refl
near_more place (z ∷ waiting) e =
    let two = both (nat_le (nat_abs z) (place * 2 ^ 63)) (are_near place waiting) e in
    rw (le-leb (nat_abs z) ((place + 1) * 2 ^ 63) (omega (arith, leb-true (nat_abs z) (place * 2 ^ 63) two.0)), near_more place waiting two.1) refl

near_put : (place count : ℕ) (here : ℤ) (waiting : List ℤ) → nat_abs here ≤ (place + 1) * 2 ^ 63 → are_near (place + 1) waiting ≡ true → are_near (place + 1) (replicate count here ++ waiting) ≡ true
near_put place zero here waiting l e = e
near_put place (suc count) here waiting l e = rw (le-leb (nat_abs here) ((place + 1) * 2 ^ 63) l, near_put place count here waiting l e) refl

pub first_near : (place : ℕ) (above : ℤ) (left waiting : List ℤ) → waiting ≡ above ∷ left → are_near place waiting ≡ true → nat_abs above ≤ place * 2 ^ 63
first_near place above left waiting e near =
    let all : are_near place (above ∷ left) ≡ true = subst (λ w. are_near place w ≡ true) e near in
    leb-true (nat_abs above) (place * 2 ^ 63) (both (nat_le (nat_abs above) (place * 2 ^ 63)) (are_near place left) all).0

pub step_near : (place count : ℕ) (above here : ℤ) (left waiting after : List ℤ) → waiting ≡ above ∷ left → are_near place waiting ≡ true → nat_abs here ≤ (place + 1) * 2 ^ 63 → after ≡ replicate count here ++ left → are_near (place + 1) after ≡ true
step_near place count above here left waiting after e near l f =
    let all : are_near place (above ∷ left) ≡ true = subst (λ w. are_near place w ≡ true) e near in
    rw f (near_put place count here left l (near_more place left (both (nat_le (nat_abs above) (place * 2 ^ 63)) (are_near place left) all).1))

-- ---- a step along the nodes
pub step_trees : (counts : List ℕ) (place : ℕ) (above here : ℤ) (left waiting after : List ℤ) → waiting ≡ above ∷ left → place < length counts → is_forest (length waiting) (drop place counts) ≡ true
    → after ≡ replicate (get_or counts place 0) here ++ left → (is_forest (length after) (drop (place + 1) counts) ≡ true) × (length left + get_or counts place 0 ≤ length counts)
step_trees counts place above here left waiting after e l trees f =
    let count : ℕ = get_or counts place 0 in
    let long : length waiting ≡ suc (length left) = ap length e in
    let more : length after ≡ length waiting - 1 + count = omega (arith, long, ap length f, length-append (replicate count here) left, length-replicate count here) in
    let rest : is_forest (length waiting - 1 + count) (drop (place + 1) counts) ≡ true = sym (ap (λ xs. is_forest (length waiting) xs) (rest_is counts place 0 l) ∙ forest_step (length waiting) count (drop (place + 1) counts) (omega arith)) ∙ trees in
    (rw more rest, omega (arith, long, forest_room (length waiting - 1 + count) (drop (place + 1) counts) rest, length-drop (place + 1) counts))

module _ (parts : EfgParts) (p : ℕ) where
  -- the greatest size of the returns that are still to come, with a cap so far
  abbrev pub cap_to_come : ℕ → List ℤ → ℕ → ℕ
  cap_to_come cap waiting place = max cap (greatest (map nat_abs (leaf_pays (subtrees parts.sets) (own_pay parts p) waiting (drop place parts.nodes))))

  pub step_cap : (cap count place : ℕ) (above here : ℤ) (left waiting after : List ℤ) (d : EfgNode) → waiting ≡ above ∷ left → place < length parts.nodes → count ≡ subtrees parts.sets (slice_index_or parts.nodes place d)
      → here ≡ above +ℤ own_pay parts p (slice_index_or parts.nodes place d) → after ≡ replicate count here ++ left
      → cap_to_come cap waiting place ≡ max cap (greatest (map nat_abs (with_leaf count here (leaf_pays (subtrees parts.sets) (own_pay parts p) after (drop (place + 1) parts.nodes)))))
  step_cap cap count place above here left waiting after d e l f g h = rw (e, rest_is parts.nodes place d l, h, g, f) refl

  abbrev leaves : List ℤ → ℕ → List ℤ
  leaves waiting place = leaf_pays (subtrees parts.sets) (own_pay parts p) waiting (drop place parts.nodes)

  no_leaves : (waiting : List ℤ) (place : ℕ) → length parts.nodes ≤ place → leaves waiting place ≡ []
  no_leaves waiting place l = ap (λ xs. leaf_pays (subtrees parts.sets) (own_pay parts p) waiting xs) (drop_all place parts.nodes l) ∙ by waiting
    where
      by : (waiting : List ℤ) → leaf_pays (subtrees parts.sets) (own_pay parts p) waiting [] ≡ []
      by [] = refl
      by (above ∷ others) = refl

  ended : (cap total : ℕ) (returns : List ℤ) → returns ≡ [] → 1 ≤ cap → cap ≤ 2 ^ 62 → max cap (greatest (map nat_abs returns)) ≡ total → Some cap ≡ small total
  ended cap total returns none low high e =
      let one : max cap 1 ≡ total = sym (ap (λ zs. max cap (greatest (map nat_abs zs))) none) ∙ e in
      let same : cap ≡ total = omega arith in
      subst (λ t. Some cap ≡ small t) same (small_is cap high)

  -- nothing waits
  pub done_cap : (cap total place : ℕ) (waiting : List ℤ) → waiting ≡ [] → 1 ≤ cap → cap ≤ 2 ^ 62 → cap_to_come cap waiting place ≡ total → Some cap ≡ small total
  done_cap cap total place waiting none low high e = ended cap total (leaves waiting place) (ap (λ w. leaves w place) none) low high e

  -- no node is left
  pub end_cap : (cap total place : ℕ) (waiting : List ℤ) → length parts.nodes ≤ place → 1 ≤ cap → cap ≤ 2 ^ 62 → cap_to_come cap waiting place ≡ total → Some cap ≡ small total
  end_cap cap total place waiting l low high e = ended cap total (leaves waiting place) (no_leaves waiting place l) low high e

  -- a return is too large
  pub stop_cap : (cap total count place : ℕ) (above here : ℤ) (left waiting : List ℤ) (d : EfgNode) → waiting ≡ above ∷ left → place < length parts.nodes → count ≡ subtrees parts.sets (slice_index_or parts.nodes place d)
      → here ≡ above +ℤ own_pay parts p (slice_index_or parts.nodes place d) → None ≡ cap_with cap count here → cap_to_come cap waiting place ≡ total → None ≡ small total
  stop_cap cap total count place above here left waiting d e l f g none h =
      let later = leaf_pays (subtrees parts.sets) (own_pay parts p) (replicate count here ++ left) (drop (place + 1) parts.nodes) in
      let step = step_cap cap count place above here left waiting (replicate count here ++ left) d e l f g refl in
      let large = cap_none cap count here later none in
      large_is total (subst (λ n. 2 ^ 62 < n) (sym step ∙ h) large)

  -- one node more
  pub next_cap : (cap total count place next : ℕ) (above here : ℤ) (left waiting after : List ℤ) (d : EfgNode) → waiting ≡ above ∷ left → place < length parts.nodes → count ≡ subtrees parts.sets (slice_index_or parts.nodes place d)
      → here ≡ above +ℤ own_pay parts p (slice_index_or parts.nodes place d) → after ≡ replicate count here ++ left → Some next ≡ cap_with cap count here → cap ≤ 2 ^ 62 → cap_to_come cap waiting place ≡ total
      → (cap_to_come next after (place + 1) ≡ total) × (next ≤ 2 ^ 62) × (cap ≤ next)
  next_cap cap total count place next above here left waiting after d e l f g h some high whole =
      let later = leaves after (place + 1) in
      let step = step_cap cap count place above here left waiting after d e l f g h in
      let more = cap_some cap count next here later some high in
      (sym more.0 ∙ sym step ∙ whole, more.1, more.2)

  -- at first the root waits
  pub start_cap : (waiting : List ℤ) → waiting ≡ pos 0 ∷ [] → cap_to_come 1 waiting 0 ≡ cap_for parts p
  start_cap waiting e =
      let low = greatest_low (map nat_abs (returns_of parts p)) in
      let one : max 1 (cap_for parts p) ≡ cap_for parts p = omega arith in
      ap (λ w. cap_to_come 1 w 0) e ∙ one

-- how many subtrees stand behind a node
pub count_at : (parts : EfgParts) (counts : List ℕ) (place : ℕ) (d : EfgNode) → counts ≡ counts_of parts.sets parts.nodes → place < length counts → (get_or counts place 0 ≡ subtrees parts.sets (slice_index_or parts.nodes place d)) × (place < length parts.nodes)
count_at parts counts place d e l =
    let within : place < length parts.nodes = omega (arith, l, ap length e, length-map parts.nodes (subtrees parts.sets)) in
    (ap (λ xs. get_or xs place 0) e ∙ row_at (subtrees parts.sets) parts.nodes place d within, within)

-- ---- the cap of all players
greatest_append : (xs ys : List ℕ) → greatest (xs ++ ys) ≡ max (greatest xs) (greatest ys)
greatest_append [] ys = let low = greatest_low ys in omega arith
greatest_append (x ∷ xs) ys = omega (arith, greatest_append xs ys)

flat_append : (f : ℕ → List ℕ) (xs ys : List ℕ) → flat_map f (xs ++ ys) ≡ flat_map f xs ++ flat_map f ys
flat_append f [] ys = refl
flat_append f (x ∷ xs) ys = ap (λ zs. f x ++ zs) (flat_append f xs ys) ∙ sym (append_assoc (f x) (flat_map f xs) (flat_map f ys))

abbrev pub cap_below : EfgParts → ℕ → ℕ
cap_below parts count = greatest (flat_map (λ p. map nat_abs (returns_of parts p)) (range_with_len 0 count))

pub cap_more : (parts : EfgParts) (count : ℕ) → cap_below parts (count + 1) ≡ max (cap_below parts count) (cap_for parts count)
cap_more parts count =
    let f : ℕ → List ℕ = λ p. map nat_abs (returns_of parts p) in
    let first : 0 + count ≡ count = omega arith in
    let last : range_with_len 0 (count + 1) ≡ range_with_len 0 count ++ count ∷ [] = sym (subst (λ z. range_with_len 0 count ++ z ∷ [] ≡ range_with_len 0 (count + 1)) first (range_push 0 count)) in
    ap (λ ps. greatest (flat_map f ps)) last
    ∙ ap greatest (flat_append f (range_with_len 0 count) (count ∷ []))
    ∙ greatest_append (flat_map f (range_with_len 0 count)) (f count ++ [])
    ∙ ap (λ xs. max (cap_below parts count) (greatest xs)) (append-nil (f count))

cap_rises : (parts : EfgParts) (count more : ℕ) → cap_below parts count ≤ cap_below parts (count + more)
cap_rises parts count zero = let same : count + 0 ≡ count = omega arith in rw same (omega arith)
cap_rises parts count (suc more) =
    let same : count + suc more ≡ count + more + 1 = omega arith in
    rw same (omega (arith, cap_rises parts count more, cap_more parts (count + more)))

pub cap_beyond : (parts : EfgParts) (p : ℕ) → p < length parts.players → None ≡ small (cap_for parts p) → None ≡ small (efg_cap parts)
cap_beyond parts p l e =
    let here = large_back (cap_for parts p) e in
    let left : ℕ = length parts.players - (p + 1) in
    let same : p + 1 + left ≡ length parts.players = omega arith in
    let rises : cap_below parts (p + 1) ≤ efg_cap parts = subst (λ n. cap_below parts (p + 1) ≤ cap_below parts n) same (cap_rises parts (p + 1) left) in
    large_is (efg_cap parts) (omega (arith, here, rises, cap_more parts p))

-- ---- whether payoffs are fine
-- where each payoff is small, the rest decides
pub lists_pass : (unit : ℕ) (outcomes : List EfgOutcome) (rest : Bool) → are_lists_small unit outcomes ≡ true → rest ≡ (are_small unit (all_pays outcomes) && rest)
lists_pass unit outcomes rest e = ap (λ b. b && rest) {x = true} {y = are_small unit (all_pays outcomes)} (sym e ∙ lists_small unit outcomes)

-- where one isn't, nothing more does
pub lists_refused : (unit : ℕ) (outcomes : List EfgOutcome) (rest : Bool) (fault : PartsFault) → IsRefused (are_lists_small unit outcomes) fault → IsRefused (are_small unit (all_pays outcomes) && rest) fault
lists_refused unit outcomes rest Bad e = ap (λ b. b && rest) {x = are_small unit (all_pays outcomes)} {y = false} (sym (lists_small unit outcomes) ∙ e)
lists_refused unit outcomes rest NoMemory e = tt

pub cap_passes : (n cap : ℕ) → Some cap ≡ small n → (cap ≡ n) × (nat_le n (2 ^ 62) ≡ true)
cap_passes n cap e = let two = small_back n cap e in (two.0, le-leb n (2 ^ 62) two.1)

pub cap_fails : (n : ℕ) → None ≡ small n → nat_le n (2 ^ 62) ≡ false
cap_fails n e = lt-leb n (2 ^ 62) (large_back n e)
