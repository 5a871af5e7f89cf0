-- Extensive games with sound parts keep the laws.
use Rattle.std.proofs.Common.{◌≡◌, ℕ, zero, suc, ◌+◌, ◌-◌, ◌%◌, ◌^◌, ◌<◌, ◌≤◌, Bool, true, not, ◌&&◌, ◌==◌, List, [], ◌∷◌, ◌++◌, length, map, drop, replicate, refl, sym, subst, ◌∙◌, arith, nat_le, nat_lt, Option, Some, None}
use Rattle.std.specs.Prelude.{ℤ, pos, ◌+ℤ◌, nat_abs, codes, slice_index_or, sum, is_none, unwrap_or, flat_map}
use Rattle.std.specs.List.{All, Contains, list_all, range_with_len}
use Rattle.std.specs.Fmt.{decimal}
use Rattle.std.proofs.lemmas.Bool.{false≢true, leb-true, le-leb, ltb-true, eqb-true}
use Rattle.std.proofs.lemmas.List.{length-map, length-append}
use Rattle.std.proofs.lemmas.List.Elements.{All-push, All-append, All-from_recursion}
use Rattle.std.proofs.lemmas.List.FromFn.{get_or-range_with_len, length-range_with_len}
use Rattle.std.proofs.lemmas.Fmt.{length-decimal-le, decimal_by_steps}
use Rattle.std.proofs.lemmas.Int.{ints}
use Rattle.std.proofs.lemmas.List.Folds.{list_all-map}
use Rattle.spiel_api.specs.declared.place.Place.TheVariants.{End, Move}
use Rattle.spiel_api.specs.Plays.{IsPlay}
use Rattle.spiel_api.specs.Laws.{IsLawful, IsPrintable}
use Rattle.spiel_api.proofs.LawLemmas.{IsPrintable-computed, has_size}
use Rattle.spiel_api.proofs.NodeLaws.{AreChoices, AreChoices-range, range_within}
use Rattle.spiel_api.proofs.TurnLaws.{IsTurn, turns_lawful}
use Rattle.spiel_matrix.specs.MatrixLaws.{name_printed, greatest_low}
use Rattle.spiel_matrix.specs.Pays.{common_unit, greatest, in_parts}
use Rattle.spiel_efg.specs.declared.parts.EfgSet.{EfgSet}
use Rattle.spiel_efg.specs.declared.parts.EfgNode.{EfgNode}
use Rattle.spiel_efg.specs.declared.parts.EfgParts.{EfgParts}
use Rattle.spiel_efg.specs.declared.parts.NodeKind.{NodeKind}
use Rattle.spiel_efg.specs.declared.parts.NodeKind.TheVariants.{Chance, Personal, Terminal}
use Rattle.spiel_efg.specs.Sets.{action_count, are_weights, is_negative, is_set, is_unit, no_set, probabilities, set_at, whole_weights}
use Rattle.spiel_efg.specs.Tree.{behind, counts_of, most_nodes, nodes_after, subtrees}
use Rattle.spiel_efg.specs.EfgPays.{efg_cap, efg_unit, leaf_pays, own_pay, pay_along, returns_of, with_leaf}
use Rattle.spiel_efg.specs.Sound.{is_among, is_kind, is_sound}
use Rattle.spiel_efg.specs.Efg.{action_text, efg_rules, efg_turns, first_kind, kind_after, kind_info, kind_name, kind_numbers, kind_place, kind_weights, mover_at, no_action, set_text}
use Rattle.spiel_efg.specs.EfgPlays.{IsEfg, IsPath, IsThere, after_all, and_true, both, drop_front, drop_some, each_passes, efg_from, forest_counts, play_path, play_short, play_there}

-- ---- texts
abbrev IsPrinted : ℕ → Type 0
IsPrinted b = (32 ≤ b) × (b ≤ 126)

digits_printed : (n : ℕ) → n < 2 ^ 32 → IsPrintable 10 (decimal n)
digits_printed n l = record {
  short = omega (arith, length-decimal-le 10 n (omega arith) (omega arith) (omega arith));
  ascii = decimal_by_steps (λ n text. All IsPrinted text)
      (λ n m. All-from_recursion IsPrinted ((48 + n) ∷ []) ((omega arith, omega arith), tt))
      (λ n text m printed. All-push IsPrinted text (48 + n % 10) printed (omega arith, omega arith)) n (omega arith);
}

set_printed : (n : ℕ) → n < 2 ^ 32 → IsPrintable 32768 (set_text n)
set_printed n l =
    let word : IsPrintable 4 (codes "set ") = IsPrintable-computed 4 (codes "set ") refl refl in
    let digits = digits_printed n l in
    record {
      short = omega (arith, length-append (codes "set ") (decimal n), word.short, digits.short);
      ascii = All-append IsPrinted (codes "set ") (decimal n) word.ascii digits.ascii;
    }

-- ---- what nodes of a game have
pub record IsChanceSet (sets : List EfgSet) (place : ℕ) : Type 0 where
  pub within : place < length sets
  pub drawn : (set_at sets place).player ≡ None
  pub some : 0 < length (set_at sets place).actions
  pub few : length (set_at sets place).actions ≤ most_nodes
  pub low : 1 ≤ sum (whole_weights (probabilities (set_at sets place).actions))
  pub high : sum (whole_weights (probabilities (set_at sets place).actions)) ≤ 2 ^ 62

pub record IsPlayerSet (players : ℕ) (sets : List EfgSet) (place : ℕ) : Type 0 where
  pub within : place < length sets
  pub some : 0 < length (set_at sets place).actions
  pub few : length (set_at sets place).actions ≤ most_nodes
  pub mover : mover_at sets place < players
  pub number : (set_at sets place).number < 2 ^ 32

abbrev pub IsFine : ℕ → List EfgSet → NodeKind → Type 0
IsFine players sets (Chance place) = IsChanceSet sets place
IsFine players sets (Personal place) = IsPlayerSet players sets place
IsFine players sets Terminal = Unit {0}

sums_to_unit : (one : EfgSet) → is_set one ≡ true → is_none one.player ≡ true → (1 ≤ sum (whole_weights (probabilities one.actions))) × (sum (whole_weights (probabilities one.actions)) ≤ 2 ^ 62)
sums_to_unit one e f = by one.player f (both (nat_lt 0 (length one.actions)) (are_weights one.player (probabilities one.actions)) (both (nat_lt one.number (2 ^ 32)) (nat_lt 0 (length one.actions) && are_weights one.player (probabilities one.actions)) e).1).1
  where
    by : (player : Option ℕ) → is_none player ≡ true → are_weights player (probabilities one.actions) ≡ true → (1 ≤ sum (whole_weights (probabilities one.actions))) × (sum (whole_weights (probabilities one.actions)) ≤ 2 ^ 62)
    by (Some player) f e = absurd (false≢true f)
    by None f e =
        let weights = probabilities one.actions in
        let total : ℕ = sum (whole_weights weights) in
        let unit : ℕ = common_unit weights in
        let two = both (is_unit unit) (total == unit) (both (list_all (λ weight. not (is_negative weight)) weights) (is_unit unit && (total == unit)) e).1 in
        let three = both (nat_le 1 unit) (nat_le unit (2 ^ 62)) two.0 in
        let same : total ≡ unit = eqb-true total unit two.1 in
        (omega (arith, leb-true 1 unit three.0), omega (arith, leb-true unit (2 ^ 62) three.1))

none_from : (player : Option ℕ) → is_none player ≡ true → player ≡ None
none_from None e = refl
none_from (Some player) e = absurd (false≢true e)

mover_from : (players : ℕ) (player : Option ℕ) → is_among players player ≡ true → unwrap_or player 0 < players
mover_from players None e = absurd (false≢true e)
mover_from players (Some player) e = ltb-true player players e

fine_kind : (players : ℕ) (sets : List EfgSet) (kind : NodeKind) → list_all is_set sets ≡ true → is_kind players sets kind ≡ true → action_count sets kind ≤ most_nodes → IsFine players sets kind
fine_kind players sets (Chance place) right e few =
    let two = both (nat_lt place (length sets)) (is_none (set_at sets place).player) e in
    let one : is_set (set_at sets place) ≡ true = each_passes is_set sets place no_set right (ltb-true place (length sets) two.0) in
    let parts = both (nat_lt (set_at sets place).number (2 ^ 32)) (nat_lt 0 (length (set_at sets place).actions) && are_weights (set_at sets place).player (probabilities (set_at sets place).actions)) one in
    let more = both (nat_lt 0 (length (set_at sets place).actions)) (are_weights (set_at sets place).player (probabilities (set_at sets place).actions)) parts.1 in
    let total = sums_to_unit (set_at sets place) one two.1 in
    record { within = ltb-true place (length sets) two.0; drawn = none_from (set_at sets place).player two.1; some = ltb-true 0 (length (set_at sets place).actions) more.0; few = few; low = total.0; high = total.1 }
fine_kind players sets (Personal place) right e few =
    let two = both (nat_lt place (length sets)) (is_among players (set_at sets place).player) e in
    let one : is_set (set_at sets place) ≡ true = each_passes is_set sets place no_set right (ltb-true place (length sets) two.0) in
    let parts = both (nat_lt (set_at sets place).number (2 ^ 32)) (nat_lt 0 (length (set_at sets place).actions) && are_weights (set_at sets place).player (probabilities (set_at sets place).actions)) one in
    let more = both (nat_lt 0 (length (set_at sets place).actions)) (are_weights (set_at sets place).player (probabilities (set_at sets place).actions)) parts.1 in
    record {
      within = ltb-true place (length sets) two.0;
      some = ltb-true 0 (length (set_at sets place).actions) more.0;
      few = few;
      mover = mover_from players (set_at sets place).player two.1;
      number = ltb-true (set_at sets place).number (2 ^ 32) parts.0;
    }
fine_kind players sets Terminal right e few = tt

-- ---- the returns at the leaves
leaves_front : (cap count : ℕ) (here : ℤ) (later : List ℤ) → list_all (λ z. nat_le (nat_abs z) cap) (with_leaf count here later) ≡ true → list_all (λ z. nat_le (nat_abs z) cap) later ≡ true
leaves_front cap zero here later e = (both (nat_le (nat_abs here) cap) (list_all (λ z. nat_le (nat_abs z) cap) later) e).1
leaves_front cap (suc count) here later e = e

leaf_here : (cap count : ℕ) (here : ℤ) (later : List ℤ) → count ≡ 0 → list_all (λ z. nat_le (nat_abs z) cap) (with_leaf count here later) ≡ true → nat_abs here ≤ cap
leaf_here cap zero here later z e = leb-true (nat_abs here) cap (both (nat_le (nat_abs here) cap) (list_all (λ z. nat_le (nat_abs z) cap) later) e).0
leaf_here cap (suc count) here later z e = absurd (omega arith)

module _ (count : EfgNode → ℕ) (own : EfgNode → ℤ) (cap : ℕ) where
  abbrev are_low : List ℤ → Bool
  are_low returns = list_all (λ z. nat_le (nat_abs z) cap) returns

  behind_leaves : (k : ℕ) (waiting : List ℤ) (nodes : List EfgNode) → are_low (leaf_pays count own waiting nodes) ≡ true → are_low (leaf_pays count own (drop k waiting) (behind count k nodes)) ≡ true
  behind_leaves zero waiting nodes e = e
  behind_leaves (suc k) [] [] e = refl
  behind_leaves (suc k) (above ∷ others) [] e = nothing (drop k others)
    where
      nothing : (waiting : List ℤ) → are_low (leaf_pays count own waiting []) ≡ true
      nothing [] = refl
      nothing (above ∷ others) = refl
  behind_leaves (suc k) [] (node ∷ nodes) e = refl
  behind_leaves (suc k) (above ∷ others) (node ∷ nodes) e =
      let here = above +ℤ own node in
      let rest = leaves_front cap (count node) here (leaf_pays count own (replicate (count node) here ++ others) nodes) e in
      let later = behind_leaves (count node + k) (replicate (count node) here ++ others) nodes rest in
      subst (λ w. are_low (leaf_pays count own w (behind count (count node + k) nodes)) ≡ true) (drop_front count (count node) k here others) later

  abbrev IsLeaf : List EfgNode → Type 0
  IsLeaf [] = ⊥
  IsLeaf (node ∷ nodes) = count node ≡ 0

  leaf_bound : (above : ℤ) (others : List ℤ) (nodes : List EfgNode) (h : List ℕ) → are_low (leaf_pays count own (above ∷ others) nodes) ≡ true → IsPath count nodes h → IsLeaf (nodes_after count nodes h)
      → nat_abs (above +ℤ pay_along count own nodes h) ≤ cap
  leaf_bound above others [] [] e path leaf = absurd leaf
  leaf_bound above others (node ∷ nodes) [] e path leaf =
      leaf_here cap (count node) (above +ℤ own node) (leaf_pays count own (replicate (count node) (above +ℤ own node) ++ others) nodes) leaf e
  leaf_bound above others [] (a ∷ h) e path leaf = absurd path
  leaf_bound above others (node ∷ nodes) (a ∷ h) e path leaf =
      let here = above +ℤ own node in
      let rest = leaves_front cap (count node) here (leaf_pays count own (replicate (count node) here ++ others) nodes) e in
      let later = behind_leaves a (replicate (count node) here ++ others) nodes rest in
      let waiting = drop_some count a (count node) here others path.0 in
      let bound = leaf_bound here (replicate (count node - a - 1) here ++ others) (behind count a nodes) h
      (subst (λ w. are_low (leaf_pays count own w (behind count a nodes)) ≡ true) waiting later) path.1 leaf in
      let same : here +ℤ pay_along count own (behind count a nodes) h ≡ above +ℤ (own node +ℤ pay_along count own (behind count a nodes) h) = omega (arith, ints) in
      subst (λ z. nat_abs z ≤ cap) same bound

-- ---- the cap
greatest_front : (xs ys : List ℕ) → (greatest xs ≤ greatest (xs ++ ys)) × (greatest ys ≤ greatest (xs ++ ys))
greatest_front [] ys = (greatest_low ys, omega arith)
greatest_front (x ∷ xs) ys = let later = greatest_front xs ys in (omega (arith, later.0), omega (arith, later.1))

greatest_part : (f : ℕ → List ℕ) (ps : List ℕ) (i : ℕ) → i < length ps → greatest (f (slice_index_or ps i 0)) ≤ greatest (flat_map f ps)
greatest_part f [] i l = absurd (omega arith)
greatest_part f (p ∷ ps) zero l = (greatest_front (f p) (flat_map f ps)).0
greatest_part f (p ∷ ps) (suc i) l = omega (arith, greatest_part f ps i (omega arith), (greatest_front (f p) (flat_map f ps)).1)

sizes_low : (returns : List ℤ) (most : ℕ) → greatest (map nat_abs returns) ≤ most → list_all (λ z. nat_le (nat_abs z) most) returns ≡ true
sizes_low [] most l = refl
sizes_low (z ∷ returns) most l = and_true (nat_le (nat_abs z) most) (list_all (λ z. nat_le (nat_abs z) most) returns) (le-leb (nat_abs z) most (omega arith)) (sizes_low returns most (omega arith))

cap_of_player : (parts : EfgParts) (p : ℕ) → p < length parts.players → greatest (map nat_abs (returns_of parts p)) ≤ efg_cap parts
cap_of_player parts p l =
    let players : List ℕ = range_with_len 0 (length parts.players) in
    let at : slice_index_or players p 0 ≡ p = omega (arith, get_or-range_with_len 0 (length parts.players) p 0 l) in
    subst (λ q. greatest (map nat_abs (returns_of parts q)) ≤ efg_cap parts) at (greatest_part (λ p. map nat_abs (returns_of parts p)) players p (omega (arith, l, length-range_with_len 0 (length parts.players))))

all_both : (one two : EfgNode → Bool) (nodes : List EfgNode) → list_all one nodes ≡ true → list_all two nodes ≡ true → list_all (λ node. one node && two node) nodes ≡ true
all_both one two [] e f = refl
all_both one two (node ∷ nodes) e f =
    let x = both (one node) (list_all one nodes) e in
    let y = both (two node) (list_all two nodes) f in
    and_true (one node && two node) (list_all (λ node. one node && two node) nodes) (and_true (one node) (two node) x.0 y.0) (all_both one two nodes x.1 y.1)

module _ (parts : EfgParts) (is : is_sound parts ≡ true) where
  sound : IsEfg parts
  sound = efg_from parts is

  abbrev players : ℕ
  players = length parts.players

  abbrev is_fine : EfgNode → Bool
  is_fine node = is_kind players parts.sets node.kind && nat_le (subtrees parts.sets node) most_nodes

  all_fine : list_all is_fine parts.nodes ≡ true
  all_fine = all_both (λ node. is_kind players parts.sets node.kind) (λ node. nat_le (subtrees parts.sets node) most_nodes) parts.nodes sound.kinds
      (sym (list_all-map (λ count. nat_le count most_nodes) (subtrees parts.sets) parts.nodes) ∙ (forest_counts 1 most_nodes (counts_of parts.sets parts.nodes) sound.tree sound.nodes_few).1)

  first_fine : (nodes : List EfgNode) → list_all is_fine nodes ≡ true → IsFine players parts.sets (first_kind nodes)
  first_fine [] e = tt
  first_fine (node ∷ nodes) e =
      let here = both (is_fine node) (list_all is_fine nodes) e in
      let two = both (is_kind players parts.sets node.kind) (nat_le (subtrees parts.sets node) most_nodes) here.0 in
      fine_kind players parts.sets node.kind sound.sets two.0 (leb-true (subtrees parts.sets node) most_nodes two.1)

  pub fine_after : (h : List ℕ) → IsFine players parts.sets (kind_after parts h)
  fine_after h = first_fine (nodes_after (subtrees parts.sets) parts.nodes h) (after_all (subtrees parts.sets) is_fine parts.nodes h all_fine)

  -- what holds of each kind of node holds everywhere
  everywhere : (P : NodeKind → Type 0) → P Terminal → ((place : ℕ) → IsChanceSet parts.sets place → P (Chance place)) → ((place : ℕ) → IsPlayerSet players parts.sets place → P (Personal place)) → (h : List ℕ) → P (kind_after parts h)
  everywhere P over drawn personal h = by (kind_after parts h) (fine_after h)
    where
      by : (kind : NodeKind) → IsFine players parts.sets kind → P kind
      by (Chance place) fine = drawn place fine
      by (Personal place) fine = personal place fine
      by Terminal fine = over

  weight_count : (place : ℕ) → length (whole_weights (probabilities (set_at parts.sets place).actions)) ≡ length (range_with_len 0 (length (set_at parts.sets place).actions))
  weight_count place =
      let actions = (set_at parts.sets place).actions in
      omega (arith, length-map (probabilities actions) (λ weight. nat_abs (in_parts (common_unit (probabilities actions)) weight)), length-map actions (λ action. action.weight), length-range_with_len 0 (length actions))

  choices : (place : ℕ) → 0 < length (set_at parts.sets place).actions → length (set_at parts.sets place).actions ≤ most_nodes → AreChoices (range_with_len 0 (length (set_at parts.sets place).actions))
  choices place some few = AreChoices-range 0 (length (set_at parts.sets place).actions) some (omega arith)

  turns : (h : List ℕ) → IsTurn players (kind_place parts.sets (kind_after parts h)) (kind_numbers parts.sets (kind_after parts h)) (kind_weights parts.sets (kind_after parts h))
  turns h = everywhere (λ kind. IsTurn players (kind_place parts.sets kind) (kind_numbers parts.sets kind) (kind_weights parts.sets kind)) tt
      (λ place is. (choices place is.some is.few, record { each = weight_count place; low = is.low; high = is.high }))
      (λ place is. (is.mover, choices place is.some is.few)) h

  -- an action's name
  named : (place a : ℕ) → length (set_at parts.sets place).actions ≤ most_nodes → Contains (range_with_len 0 (length (set_at parts.sets place).actions)) a → IsPrintable 128 (action_text (set_at parts.sets place).actions a)
  named place a few c = name_printed (slice_index_or (set_at parts.sets place).actions a no_action).name a (omega (arith, (range_within 0 (length (set_at parts.sets place).actions) a c).1))

  leaf_from : (nodes : List EfgNode) → IsThere (subtrees parts.sets) nodes → kind_place parts.sets (first_kind nodes) ≡ End → IsLeaf (subtrees parts.sets) (own_pay parts 0) 0 nodes
  leaf_from [] there e = absurd (false≢true there.forest)
  leaf_from (node ∷ nodes) there e = by node.kind e
    where
      by : (kind : NodeKind) → kind_place parts.sets kind ≡ End → action_count parts.sets kind ≡ 0
      by (Chance place) e = absurd cc
      by (Personal place) e = absurd cc
      by Terminal e = refl

  -- no return at a leaf passes the cap
  pub return_low : (h : List ℕ) (p : ℕ) → IsPlay (efg_rules parts) h → kind_place parts.sets (kind_after parts h) ≡ End → p < players → nat_abs (pay_along (subtrees parts.sets) (own_pay parts p) parts.nodes h) ≤ efg_cap parts
  return_low h p play end l =
      let low = sizes_low (returns_of parts p) (efg_cap parts) (cap_of_player parts p l) in
      let bound = leaf_bound (subtrees parts.sets) (own_pay parts p) (efg_cap parts) (pos 0) [] parts.nodes h low (play_path parts h play)
      (leaf_from (nodes_after (subtrees parts.sets) parts.nodes h) (play_there parts sound h play) end) in
      let same : pos 0 +ℤ pay_along (subtrees parts.sets) (own_pay parts p) parts.nodes h ≡ pay_along (subtrees parts.sets) (own_pay parts p) parts.nodes h = omega (arith, ints) in
      subst (λ z. nat_abs z ≤ efg_cap parts) same bound

  size : has_size players (efg_unit parts) (efg_cap parts) ≡ true
  size =
      let low : 1 ≤ efg_cap parts = greatest_low (flat_map (λ p. map nat_abs (returns_of parts p)) (range_with_len 0 players)) in
      and_true _ _ sound.players_count
      (and_true _ _ (and_true _ _ (le-leb 1 (efg_unit parts) sound.unit_low) (le-leb (efg_unit parts) (2 ^ 62) sound.unit_high))
      (and_true _ _ (le-leb 1 (efg_cap parts) low) (le-leb (efg_cap parts) (2 ^ 62) sound.cap_high)))

  pub efg_lawful : IsLawful (efg_rules parts)
  efg_lawful = turns_lawful (efg_turns parts) (record {
    size = size;
    short = λ h play. omega (arith, play_short parts sound h play);
    turns = λ h play. turns h;
    infos = λ h p play turn. everywhere (λ kind. kind_place parts.sets kind ≡ Move p → IsPrintable 32768 (kind_info parts.sets kind)) (λ e. absurd cc) (λ place is e. absurd cc) (λ place is e. set_printed (set_at parts.sets place).number is.number) h turn;
    names = λ h p a play c. everywhere (λ kind. Contains (kind_numbers parts.sets kind) a → IsPrintable 128 (kind_name parts.sets kind a)) (λ c. absurd (omega (arith, c.1))) (λ place is c. named place a is.few c) (λ place is c. named place a is.few c) h c;
    capped = λ h p play end l. return_low h p play end l;
  })
