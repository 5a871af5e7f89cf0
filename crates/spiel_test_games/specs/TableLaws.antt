-- Games that are given as tables keep the laws.
use Rattle.std.specs.Prelude.{◌≡◌, ◌≢◌, ℕ, zero, suc, ◌+◌, ◌-◌, ◌^◌, ◌<◌, ◌≤◌, ℤ, pos, nat_abs, Bool, true, false, ◌&&◌, ◌==◌, nat_le, nat_lt, List, [], ◌∷◌, ◌++◌, length, sum, take, slice_index, slice_index_or, codes, Option, Some, None, IfSome, All, ⊤}
use Rattle.std.specs.List.{Contains, fold, list_all, range_with_len, slice_get}
use Rattle.std.specs.List.Sorted.{IsStrictlyIncreasing}
use Rattle.std.specs.Borrow.{Bor}
use Rattle.std.proofs.Common.{refl, sym, arith, subst, eq-eqb, length-take-le}
use Rattle.std.proofs.lemmas.Bool.{false≢true, leb-true, ne_eqb, ltb-true, ltb-false}
use Rattle.std.proofs.lemmas.List.{length-map, take_more, get_or_past}
use Rattle.std.proofs.lemmas.List.FromFn.{get_or-range_with_len, length-range_with_len}
use Rattle.std.proofs.lemmas.Option.{get_or_from_slice_get, slice_get_within}
use Rattle.spiel_api.specs.declared.place.Place.TheVariants.{End, Chance, Move, Joint}
use Rattle.spiel_api.specs.Rules.{next_at}
use Rattle.spiel_api.specs.Plays.{IsPlay}
use Rattle.spiel_api.specs.Place.{HasInfo, IsAmongPlayers, IsOpen, IsOutside}
use Rattle.spiel_api.specs.Laws.{IsLawful, IsPrintable, HasLegalNumbers, HasChanceWeights}
use Rattle.spiel_api.proofs.PlayLemmas.{IsPlay-take, IsPlay-last}
use Rattle.spiel_api.proofs.LawLemmas.{IsPrintable-computed, IsStrictlyIncreasing-computed, without_joint_steps}
use Rattle.spiel_test_games.specs.declared.node.Node.{Node}
use Rattle.spiel_test_games.specs.declared.node.Node.TheVariants.{Chance as Draw, Decision, Terminal}
use Rattle.spiel_test_games.specs.Node.{Outcome, are_outcomes, are_pays, entry_after, is_decision, is_node, is_printable, is_printed, is_total, weights_in}
use Rattle.spiel_test_games.specs.Table.{is_table, next_node, node_after, node_at, node_if, node_in, numbers_if, numbers_of, pay_of, place_of, seen_at, table_rules, weights_of}

-- ---- what the tests tell
both : (a b : Bool) → (a && b) ≡ true → (a ≡ true) × (b ≡ true)
both true b e = (refl, e)
both false b e = absurd (false≢true e)

-- what passes for each element passes for one of them
each_passes : {X : Type 0} (test : X → Bool) (xs : List X) (i : ℕ) (d : X) → list_all test xs ≡ true → i < length xs → test (slice_index_or xs i d) ≡ true
each_passes test [] i d e l = absurd (omega arith)
each_passes test (x ∷ xs) zero d e l = (both (test x) (list_all test xs) e).0
each_passes test (x ∷ xs) (suc i) d e l = each_passes test xs i d (both (test x) (list_all test xs) e).1 (omega arith)

record AreOutcomes (outcomes : List Outcome) : Type 0 where
  many : length outcomes ≤ 2 ^ 20
  low : 1 ≤ sum (weights_in outcomes)
  high : sum (weights_in outcomes) ≤ 2 ^ 62

outcomes_from : (outcomes : List Outcome) → are_outcomes outcomes ≡ true → AreOutcomes outcomes
outcomes_from outcomes e =
    let total : ℕ = sum (weights_in outcomes) in
    let one = both (nat_le (length outcomes) (2 ^ 20)) (is_total total) e in
    let two = both (nat_le 1 total) (nat_le total (2 ^ 62)) one.1 in
    record {
      many = leb-true (length outcomes) (2 ^ 20) one.0;
      low = leb-true 1 total two.0;
      high = leb-true total (2 ^ 62) two.1;
    }

printable_from : (text : List ℕ) → is_printable text ≡ true → IsPrintable 32768 text
printable_from text e =
    let two = both (nat_le (length text) 32768) (list_all is_printed text) e in
    IsPrintable-computed 32768 text two.0 two.1

record IsDecision (players mover : ℕ) (seen entries : List ℕ) : Type 0 where
  mover_is : mover < players
  printable : IsPrintable 32768 seen
  some : 0 < length entries
  many : length entries ≤ 2 ^ 20

decision_from : (players mover : ℕ) (seen entries : List ℕ) → is_decision players mover seen entries ≡ true → IsDecision players mover seen entries
decision_from players mover seen entries e =
    let one = both (nat_lt mover players) (is_printable seen && (nat_le 1 (length entries) && nat_le (length entries) (2 ^ 20))) e in
    let two = both (is_printable seen) (nat_le 1 (length entries) && nat_le (length entries) (2 ^ 20)) one.1 in
    let three = both (nat_le 1 (length entries)) (nat_le (length entries) (2 ^ 20)) two.1 in
    record {
      mover_is = ltb-true mover players one.0;
      printable = printable_from seen two.0;
      some = leb-true 1 (length entries) three.0;
      many = leb-true (length entries) (2 ^ 20) three.1;
    }

record IsTable (players unit : ℕ) (nodes : List Node) : Type 0 where
  players_low : 1 ≤ players
  players_high : players ≤ 64
  unit_low : 1 ≤ unit
  unit_high : unit ≤ 2 ^ 62
  each : list_all (λ node. is_node players node) nodes ≡ true

table_from : (players unit : ℕ) (nodes : List Node) → is_table players unit nodes ≡ true → IsTable players unit nodes
table_from players unit nodes e =
    let each : Bool = list_all (λ node. is_node players node) nodes in
    let one = both (nat_le 1 players) (nat_le players 64 && (nat_le 1 unit && (nat_le unit (2 ^ 62) && each))) e in
    let two = both (nat_le players 64) (nat_le 1 unit && (nat_le unit (2 ^ 62) && each)) one.1 in
    let three = both (nat_le 1 unit) (nat_le unit (2 ^ 62) && each) two.1 in
    let four = both (nat_le unit (2 ^ 62)) each three.1 in
    record {
      players_low = leb-true 1 players one.0;
      players_high = leb-true players 64 two.0;
      unit_low = leb-true 1 unit three.0;
      unit_high = leb-true unit (2 ^ 62) four.0;
      each = four.1;
    }

-- ---- numbers from 0 on
-- the number at an index is the index
number_at_or : (has : Bool) (count i d : ℕ) → i < length (numbers_if has count) → slice_index_or (numbers_if has count) i d ≡ i
number_at_or false count i d l = absurd (omega arith)
number_at_or true count i d l =
    let within : i < count = subst (λ n. i < n) (length-range_with_len 0 count) l in
    let at : slice_index_or (range_with_len 0 count) i d ≡ 0 + i = get_or-range_with_len 0 count i d within in
    omega arith

numbers_rise : (has : Bool) (count : ℕ) → IsStrictlyIncreasing (numbers_if has count)
numbers_rise has count k l =
    let one = number_at_or has count k 0 (omega arith) in
    let two = number_at_or has count (k + 1) 0 l in
    omega arith

numbers_count : (has : Bool) (count : ℕ) → length (numbers_if has count) ≤ count
numbers_count false count = omega arith
numbers_count true count = let e = length-range_with_len 0 count in omega arith

numbers_small : (has : Bool) (count : ℕ) → count ≤ 2 ^ 20 → All (λ a. a < 2 ^ 32 - 1) (numbers_if has count)
numbers_small has count few k d l =
    let at = number_at_or has count k d l in
    let most = numbers_count has count in
    omega arith

-- whoever has numbers has one
numbers_some : (count : ℕ) → 0 < count → 0 < length (numbers_if true count)
numbers_some count some = let e = length-range_with_len 0 count in omega arith

same_player : (p : ℕ) → (p == p) ≡ true
same_player p = eq-eqb p p refl

-- another player has none
other_waits : (p q r count : ℕ) → Move r ≡ Move q → p ≢ q → numbers_if (r == p) count ≡ []
other_waits p q r count e n =
    let same : r ≡ q = cc in
    let other : (r == p) ≡ false = ne_eqb r p (λ x. n (omega arith)) in
    subst (λ b. numbers_if b count ≡ []) (sym other) refl

-- outcomes whose weights sum to 1 or more
outcomes_some : (outcomes : List Outcome) → AreOutcomes outcomes → 0 < length outcomes
outcomes_some [] are = let low = are.low in absurd (omega arith)
outcomes_some (outcome ∷ rest) are = omega arith

-- the number at an index of a node is the index
pub number_at : (node : Option Node) (p i : ℕ) → i < length (numbers_of node p) → slice_index (numbers_of node p) i ≡ i
number_at None p i l = absurd (omega arith)
number_at (Some (Draw outcomes)) p i l = number_at_or true (length outcomes.now) i 0 l
number_at (Some (Decision mover seen entries)) p i l = number_at_or (mover == p) (length entries.now) i 0 l
number_at (Some (Terminal pays)) p i l = absurd (omega arith)

-- ---- how many numbers a player has
pub draw_count : (found : Option Node) (node : Node) (outcomes : Bor (List Outcome)) (p : ℕ) → Some node ≡ found → node ≡ Draw outcomes → length outcomes.now ≡ length (numbers_of found p)
draw_count found node outcomes p e f =
    let count : ℕ = length outcomes.now in
    subst (λ z. count ≡ length (numbers_of z p)) e
    (subst (λ z. count ≡ length (numbers_of (Some z) p)) (sym f) (sym (length-range_with_len 0 count)))

pub decision_count : (found : Option Node) (node : Node) (mover : ℕ) (seen entries : Bor (List ℕ)) (p : ℕ) → Some node ≡ found → node ≡ Decision mover seen entries → mover ≡ p → length entries.now ≡ length (numbers_of found p)
decision_count found node mover seen entries p e f m =
    let count : ℕ = length entries.now in
    subst (λ z. count ≡ length (numbers_of z p)) e
    (subst (λ z. count ≡ length (numbers_of (Some z) p)) (sym f)
    (subst (λ b. count ≡ length (numbers_if b count)) (sym (eq-eqb mover p m)) (sym (length-range_with_len 0 count))))

module _ (players unit : ℕ) (nodes : List Node) (is : is_table players unit nodes ≡ true) where
  sound : IsTable players unit nodes
  sound = table_from players unit nodes is

  -- ---- the nodes of the table are sound
  abbrev IsSound : Option Node → Type 0
  IsSound None = ⊤
  IsSound (Some node) = is_node players node ≡ true

  slice_sound : (entry : ℕ) (found : Option Node) → slice_get nodes entry ≡ found → IsSound found
  slice_sound entry None e = tt
  slice_sound entry (Some node) e = subst (λ z. is_node players z ≡ true) (get_or_from_slice_get nodes entry node node e) (each_passes (λ z. is_node players z) nodes entry node sound.each (slice_get_within nodes entry node e))

  node_in_sound : (entry : Option ℕ) → IsSound (node_in nodes entry)
  node_in_sound None = tt
  node_in_sound (Some entry) = slice_sound entry (slice_get nodes entry) refl

  next_sound : (node : Option Node) (a : ℕ) → IsSound (next_node nodes node a)
  next_sound None a = tt
  next_sound (Some node) a = node_in_sound (entry_after node a)

  fold_sound : (found : Option Node) (h : List ℕ) → IsSound found → IsSound (fold (next_node nodes) found h)
  fold_sound found [] s = s
  fold_sound found (a ∷ rest) s = fold_sound (next_node nodes found a) rest (next_sound found a)

  -- the node to which numbers lead may stand in the table
  pub node_after_sound : (h : List ℕ) (found : Option Node) → found ≡ node_after nodes h → IfSome found (λ node. is_node players node ≡ true)
  node_after_sound h found e = tell found (subst (λ z. IsSound z) (sym e) (fold_sound (node_in nodes (Some 0)) h (node_in_sound (Some 0))))
    where
      tell : (found : Option Node) → IsSound found → IfSome found (λ node. is_node players node ≡ true)
      tell None s = tt
      tell (Some node) s = s

  node_at_sound : (h : List ℕ) → IsSound (node_at nodes h)
  node_at_sound h = by (nat_lt (length h) 4096)
    where
      by : (b : Bool) → IsSound (node_if b (node_after nodes h))
      by true = fold_sound (node_in nodes (Some 0)) h (node_in_sound (Some 0))
      by false = tt

  -- what holds where no node is, at sound draws, decisions and ends holds everywhere
  everywhere : (P : Option Node → Type 0) → P None → ((outcomes : Bor (List Outcome)) → AreOutcomes outcomes.now → P (Some (Draw outcomes))) → ((mover : ℕ) (seen entries : Bor (List ℕ)) → IsDecision players mover seen.now entries.now → P (Some (Decision mover seen entries))) → ((pays : Bor (List ℤ)) → are_pays pays.now ≡ true → P (Some (Terminal pays))) → (h : List ℕ) → P (node_at nodes h)
  everywhere P none draw decision terminal h = by (node_at nodes h) (node_at_sound h)
    where
      by : (node : Option Node) → IsSound node → P node
      by None s = none
      by (Some (Draw outcomes)) s = draw outcomes (outcomes_from outcomes.now s)
      by (Some (Decision mover seen entries)) s = decision mover seen entries (decision_from players mover seen.now entries.now s)
      by (Some (Terminal pays)) s = terminal pays s

  -- ---- the laws
  legal_numbers : HasLegalNumbers (table_rules players unit nodes)
  legal_numbers = record {
    mover = λ h play. everywhere (λ node. IsAmongPlayers players (place_of node)) tt (λ outcomes are. tt) (λ mover seen entries is. is.mover_is) (λ pays are. tt) h;
    rises = λ h p play m. everywhere (λ node. IsStrictlyIncreasing (numbers_of node p)) (IsStrictlyIncreasing-computed [] refl) (λ outcomes are. numbers_rise true (length outcomes.now)) (λ mover seen entries is. numbers_rise (mover == p) (length entries.now)) (λ pays are. IsStrictlyIncreasing-computed [] refl) h;
    small = λ h p play m. everywhere (λ node. All (λ a. a < 2 ^ 32 - 1) (numbers_of node p)) (numbers_small false 0 (omega arith)) (λ outcomes are. numbers_small true (length outcomes.now) are.many) (λ mover seen entries is. numbers_small (mover == p) (length entries.now) is.many) (λ pays are. numbers_small false 0 (omega arith)) h;
    goes_on = λ h play. everywhere (λ node. IsOpen (place_of node) → 0 < length (next_at (place_of node) (numbers_of node))) (λ o. absurd o) (λ outcomes are o. numbers_some (length outcomes.now) (outcomes_some outcomes.now are)) (λ mover seen entries is o. subst (λ b. 0 < length (numbers_if b (length entries.now))) (sym (same_player mover)) (numbers_some (length entries.now) is.some)) (λ pays are o. absurd o) h;
    stops = λ h p play m. everywhere (λ node. place_of node ≡ End → numbers_of node p ≡ []) (λ e. refl) (λ outcomes are e. cc) (λ mover seen entries is e. cc) (λ pays are e. refl) h;
    waits = λ h p q play m. everywhere (λ node. place_of node ≡ Move q → p ≢ q → numbers_of node p ≡ []) (λ e n. refl) (λ outcomes are e n. cc) (λ mover seen entries is e n. other_waits p q mover (length entries.now) e n) (λ pays are e n. refl) h;
    shared = λ h p q play m n. everywhere (λ node. place_of node ≡ Chance → numbers_of node p ≡ numbers_of node q) (λ e. refl) (λ outcomes are e. refl) (λ mover seen entries is e. cc) (λ pays are e. refl) h;
  }

  chance_weights : HasChanceWeights (table_rules players unit nodes)
  chance_weights = record {
    weighed = λ h play. everywhere (λ node. place_of node ≡ Chance → length (weights_of node) ≡ length (next_at (place_of node) (numbers_of node))) (λ e. cc) (λ outcomes are e. let one = length-map outcomes.now (λ outcome. outcome.0) in let two = length-range_with_len 0 (length outcomes.now) in omega arith) (λ mover seen entries is e. cc) (λ pays are e. cc) h;
    weight_low = λ h play. everywhere (λ node. place_of node ≡ Chance → 1 ≤ sum (weights_of node)) (λ e. cc) (λ outcomes are e. are.low) (λ mover seen entries is e. cc) (λ pays are e. cc) h;
    weight_high = λ h play. everywhere (λ node. place_of node ≡ Chance → sum (weights_of node) ≤ 2 ^ 62) (λ e. cc) (λ outcomes are e. are.high) (λ mover seen entries is e. cc) (λ pays are e. cc) h;
  }

  -- nobody chooses at once with others
  table_alone : (h : List ℕ) (p : ℕ) → IsPlay (table_rules players unit nodes) h → place_of (node_at nodes h) ≡ Joint p → ⊥
  table_alone h p play = everywhere (λ node. place_of node ≡ Joint p → ⊥) (λ e. cc) (λ outcomes are e. cc) (λ mover seen entries is e. cc) (λ pays are e. cc) h

  -- the root isn't inside a joint step
  table_begins : IsOutside (place_of (node_at nodes []))
  table_begins = everywhere (λ node. IsOutside (place_of node)) tt (λ outcomes are. tt) (λ mover seen entries is. tt) (λ pays are. tt) []

  -- a number is legal only after fewer than 4,096
  has_room : (h : List ℕ) (a : ℕ) → Contains (next_at (place_of (node_at nodes h)) (numbers_of (node_at nodes h))) a → length h < 4096
  has_room h a c = by (nat_lt (length h) 4096) (ltb-true (length h) 4096) c
    where
      by : (b : Bool) → (b ≡ true → length h < 4096) → Contains (next_at (place_of (node_if b (node_after nodes h))) (numbers_of (node_if b (node_after nodes h)))) a → length h < 4096
      by true told c = told refl
      by false told c = absurd (omega (arith, c.1))

  -- the number with the index 4,096 would not be legal
  no_more : (h : List ℕ) → IsPlay (table_rules players unit nodes) h → 4096 < length h → ⊥
  no_more h play long =
      let front : List ℕ = take 4096 h in
      let last : ℕ = slice_index h 4096 in
      let more : IsPlay (table_rules players unit nodes) (front ++ last ∷ []) = subst (λ z. IsPlay (table_rules players unit nodes) z) (take_more h 4096 0 long) (IsPlay-take (table_rules players unit nodes) h (4096 + 1) play) in
      let room : length front < 4096 = has_room front last (IsPlay-last (table_rules players unit nodes) front last more) in
      let count : length front ≡ 4096 = length-take-le 4096 h (omega arith) in
      omega arith

  table_short : (h : List ℕ) → IsPlay (table_rules players unit nodes) h → length h ≤ 4096
  table_short h play = by (nat_lt 4096 (length h)) refl
    where
      by : (b : Bool) → nat_lt 4096 (length h) ≡ b → length h ≤ 4096
      by true e = absurd (no_more h play (ltb-true 4096 (length h) e))
      by false e = ltb-false 4096 (length h) e

  -- what isn't given is 0
  pays_capped : (pays : List ℤ) (p : ℕ) → are_pays pays ≡ true → nat_abs (slice_index_or pays p (pos 0)) ≤ 2 ^ 62
  pays_capped pays p are = by (nat_lt p (length pays)) refl
    where
      by : (b : Bool) → nat_lt p (length pays) ≡ b → nat_abs (slice_index_or pays p (pos 0)) ≤ 2 ^ 62
      by true e =
          let pay : ℤ = slice_index_or pays p (pos 0) in
          leb-true (nat_abs pay) (2 ^ 62) (each_passes (λ z. nat_le (nat_abs z) (2 ^ 62)) pays p (pos 0) are (ltb-true p (length pays) e))
      by false e = subst (λ z. nat_abs z ≤ 2 ^ 62) (sym (get_or_past pays p (pos 0) (ltb-false p (length pays) e))) (omega arith)

  pub table_lawful : IsLawful (table_rules players unit nodes)
  table_lawful = record {
    limits = record {
      players_low = sound.players_low;
      players_high = sound.players_high;
      unit_low = sound.unit_low;
      unit_high = sound.unit_high;
      cap_low = omega arith;
      cap_high = omega arith;
      short = table_short;
    };
    numbers = legal_numbers;
    chance = chance_weights;
    joint = without_joint_steps (table_rules players unit nodes) table_begins table_alone;
    texts = record {
      infos = λ h p play has l. everywhere (λ node. HasInfo (place_of node) p → IsPrintable 32768 (seen_at node)) (λ has. absurd has) (λ outcomes are has. absurd has) (λ mover seen entries is has. is.printable) (λ pays are has. absurd has) h has;
      names = λ h p a play c. IsPrintable-computed 128 (codes "go") refl refl;
    };
    capped = λ h p play e l. everywhere (λ node. nat_abs (pay_of node p) ≤ 2 ^ 62) (omega arith) (λ outcomes are. omega arith) (λ mover seen entries is. omega arith) (λ pays are. pays_capped pays.now p are) h;
    one_shot = λ o. absurd (false≢true o);
  }
