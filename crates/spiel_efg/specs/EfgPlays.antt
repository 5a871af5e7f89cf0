-- What sound parts tell, and what the plays of an extensive game are made of.
use Rattle.std.proofs.Common.{◌≡◌, ℕ, zero, suc, ◌+◌, ◌-◌, ◌^◌, ◌<◌, ◌≤◌, Bool, true, false, ◌&&◌, List, [], ◌∷◌, ◌++◌, length, drop, replicate, refl, sym, ap, subst, ◌∙◌, arith, nat_le}
use Rattle.std.specs.Prelude.{slice_index_or, map}
use Rattle.std.specs.List.{Contains, list_all}
use Rattle.std.proofs.lemmas.Bool.{false≢true, leb-true, le-leb}
use Rattle.spiel_api.specs.Rules.{next_at, next_of}
use Rattle.spiel_api.specs.Plays.{Follows, IsPlay}
use Rattle.spiel_api.specs.Turns.{numbers_for}
use Rattle.spiel_api.proofs.NodeLaws.{range_within}
use Rattle.spiel_api.proofs.TurnLaws.{next_numbers}
use Rattle.spiel_matrix.specs.Pays.{are_small}
use Rattle.spiel_efg.specs.declared.parts.EfgSet.{EfgSet}
use Rattle.spiel_efg.specs.declared.parts.EfgNode.{EfgNode}
use Rattle.spiel_efg.specs.declared.parts.EfgParts.{EfgParts}
use Rattle.spiel_efg.specs.declared.parts.NodeKind.{NodeKind}
use Rattle.spiel_efg.specs.Sets.{action_count, have_own_numbers, is_set, is_unit}
use Rattle.spiel_efg.specs.Tree.{are_shallow, behind, counts_of, is_forest, is_shallow, is_tree, most_moves, most_nodes, nodes_after, subtrees}
use Rattle.spiel_efg.specs.Mentions.{are_sets_in_order}
use Rattle.spiel_efg.specs.EfgPays.{all_pays, are_pays_fine, efg_cap, efg_unit}
use Rattle.spiel_efg.specs.Sound.{are_outcomes, are_sets, has_form, is_kind, is_player_count, is_sound}
use Rattle.spiel_efg.specs.Efg.{efg_rules, first_kind, kind_numbers, kind_place}

-- ---- what the tests tell
pub both : (a b : Bool) → (a && b) ≡ true → (a ≡ true) × (b ≡ true)
both true b e = (refl, e)
both false b e = absurd (false≢true e)

pub and_true : (a b : Bool) → a ≡ true → b ≡ true → (a && b) ≡ true
and_true a b e f = rw (e, f) refl

-- what passes for each element passes for one of them
pub each_passes : {X : Type 0} (test : X → Bool) (xs : List X) (i : ℕ) (d : X) → list_all test xs ≡ true → i < length xs → test (slice_index_or xs i d) ≡ true
each_passes test [] i d e l = absurd (omega arith)
each_passes test (x ∷ xs) zero d e l = (both (test x) (list_all test xs) e).0
each_passes test (x ∷ xs) (suc i) d e l = each_passes test xs i d (both (test x) (list_all test xs) e).1 (omega arith)

pub record IsEfg (parts : EfgParts) : Type 0 where
  pub players_count : is_player_count (length parts.players) ≡ true
  pub players_low : 1 ≤ length parts.players
  pub players_high : length parts.players ≤ 64
  pub sets : list_all is_set parts.sets ≡ true
  pub own : have_own_numbers parts.sets ≡ true
  pub ordered : are_sets_in_order parts.sets parts.nodes ≡ true
  pub kinds : list_all (λ node. is_kind (length parts.players) parts.sets node.kind) parts.nodes ≡ true
  pub nodes_few : length (counts_of parts.sets parts.nodes) ≤ most_nodes
  pub tree : is_forest 1 (counts_of parts.sets parts.nodes) ≡ true
  pub shallow : is_shallow (counts_of parts.sets parts.nodes) ≡ true
  pub outcomes : are_outcomes (length parts.players) parts.outcomes parts.nodes ≡ true
  pub unit_low : 1 ≤ efg_unit parts
  pub unit_high : efg_unit parts ≤ 2 ^ 62
  pub small : are_small (efg_unit parts) (all_pays parts.outcomes) ≡ true
  pub cap_high : efg_cap parts ≤ 2 ^ 62

pub efg_from : (parts : EfgParts) → is_sound parts ≡ true → IsEfg parts
efg_from parts e =
    let players : ℕ = length parts.players in
    let counts : List ℕ = counts_of parts.sets parts.nodes in
    let outcomes : Bool = are_outcomes players parts.outcomes parts.nodes in
    let sets : Bool = are_sets players parts.sets parts.nodes in
    let kinds : Bool = list_all (λ node. is_kind players parts.sets node.kind) parts.nodes in
    let ordered : Bool = are_sets_in_order parts.sets parts.nodes in
    let all = both (has_form parts) (are_pays_fine parts) e in
    let one = both (is_player_count players) (sets && (is_tree counts && outcomes)) all.0 in
    let two = both sets (is_tree counts && outcomes) one.1 in
    let three = both (is_tree counts) outcomes two.1 in
    let count = both (nat_le 1 players) (nat_le players 64) one.0 in
    let four = both (list_all is_set parts.sets) (have_own_numbers parts.sets && (kinds && ordered)) two.0 in
    let five = both (have_own_numbers parts.sets) (kinds && ordered) four.1 in
    let six = both kinds ordered five.1 in
    let seven = both (nat_le (length counts) most_nodes) (is_forest 1 counts && is_shallow counts) three.0 in
    let eight = both (is_forest 1 counts) (is_shallow counts) seven.1 in
    let small : Bool = are_small (efg_unit parts) (all_pays parts.outcomes) in
    let nine = both (is_unit (efg_unit parts)) (small && nat_le (efg_cap parts) (2 ^ 62)) all.1 in
    let ten = both small (nat_le (efg_cap parts) (2 ^ 62)) nine.1 in
    let unit = both (nat_le 1 (efg_unit parts)) (nat_le (efg_unit parts) (2 ^ 62)) nine.0 in
    record {
      players_count = one.0;
      players_low = leb-true 1 players count.0;
      players_high = leb-true players 64 count.1;
      sets = four.0;
      own = five.0;
      ordered = six.1;
      kinds = six.0;
      nodes_few = leb-true (length counts) most_nodes seven.0;
      tree = eight.0;
      shallow = eight.1;
      outcomes = three.1;
      unit_low = leb-true 1 (efg_unit parts) unit.0;
      unit_high = leb-true (efg_unit parts) (2 ^ 62) unit.1;
      small = ten.0;
      cap_high = leb-true (efg_cap parts) (2 ^ 62) ten.1;
    }

-- ---- trees
forest_step : (k count : ℕ) (counts : List ℕ) → 0 < k → is_forest k (count ∷ counts) ≡ is_forest (k - 1 + count) counts
forest_step zero count counts l = absurd (omega arith)
forest_step (suc k) count counts l = ap (λ n. is_forest n counts) (omega arith)

-- no node has more subtrees than there are nodes
pub forest_counts : (k n : ℕ) (counts : List ℕ) → is_forest k counts ≡ true → length counts ≤ n → (k ≤ n) × (list_all (λ count. nat_le count n) counts ≡ true)
forest_counts zero n [] e l = (omega arith, refl)
forest_counts (suc k) n [] e l = absurd (false≢true e)
forest_counts zero n (count ∷ counts) e l = absurd (false≢true e)
forest_counts (suc k) n (count ∷ counts) e l =
    let later = forest_counts (count + k) (n - 1) counts e (omega arith) in
    (omega (arith, later.0), and_true (nat_le count n) (list_all (λ count. nat_le count n) counts) (le-leb count n (omega (arith, later.0))) (weaker counts later.1))
  where
    weaker : (counts : List ℕ) → list_all (λ count. nat_le count (n - 1)) counts ≡ true → list_all (λ count. nat_le count n) counts ≡ true
    weaker [] e = refl
    weaker (count ∷ counts) e =
        let two = both (nat_le count (n - 1)) (list_all (λ count. nat_le count (n - 1)) counts) e in
        and_true (nat_le count n) (list_all (λ count. nat_le count n) counts) (le-leb count n (omega (arith, leb-true count (n - 1) two.0))) (weaker counts two.1)

module _ (count : EfgNode → ℕ) where
  -- ---- the nodes behind some trees
  -- each action of a history is one of its node's
  abbrev pub IsPath : List EfgNode → List ℕ → Type 0
  IsPath nodes [] = Unit {0}
  IsPath [] (a ∷ h) = ⊥
  IsPath (node ∷ nodes) (a ∷ h) = (a < count node) × IsPath (behind count a nodes) h

  pub behind_all : (test : EfgNode → Bool) (k : ℕ) (nodes : List EfgNode) → list_all test nodes ≡ true → list_all test (behind count k nodes) ≡ true
  behind_all test zero nodes e = e
  behind_all test (suc k) [] e = refl
  behind_all test (suc k) (node ∷ nodes) e = behind_all test (count node + k) nodes (both (test node) (list_all test nodes) e).1

  pub after_all : (test : EfgNode → Bool) (nodes : List EfgNode) (h : List ℕ) → list_all test nodes ≡ true → list_all test (nodes_after count nodes h) ≡ true
  after_all test nodes [] e = e
  after_all test [] (a ∷ h) e = refl
  after_all test (node ∷ nodes) (a ∷ h) e = after_all test (behind count a nodes) h (behind_all test a nodes (both (test node) (list_all test nodes) e).1)

  pub behind_forest : (a k : ℕ) (nodes : List EfgNode) → is_forest (a + k) (map count nodes) ≡ true → is_forest k (map count (behind count a nodes)) ≡ true
  behind_forest zero k nodes e = subst (λ n. is_forest n (map count nodes) ≡ true) (omega arith) e
  behind_forest (suc a) k [] e =
      let same : suc a + k ≡ suc (a + k) = omega arith in
      let none : is_forest (suc (a + k)) [] ≡ true = subst (λ n. is_forest n [] ≡ true) same e in
      absurd (false≢true none)
  behind_forest (suc a) k (node ∷ nodes) e =
      let same : suc a + k - 1 + count node ≡ count node + a + k = omega arith in
      let step : is_forest (suc a + k - 1 + count node) (map count nodes) ≡ true = sym (forest_step (suc a + k) (count node) (map count nodes) (omega arith)) ∙ e in
      behind_forest (count node + a) k nodes (subst (λ n. is_forest n (map count nodes) ≡ true) same step)

  -- one action more
  pub after_more : (nodes : List EfgNode) (h : List ℕ) (a : ℕ) → nodes_after count nodes (h ++ a ∷ []) ≡ nodes_after count (nodes_after count nodes h) (a ∷ [])
  after_more nodes [] a = refl
  after_more [] (b ∷ h) a = refl
  after_more (node ∷ nodes) (b ∷ h) a = after_more (behind count b nodes) h a

  -- there is a node where a path leads
  pub record IsThere (nodes : List EfgNode) : Type 0 where
    pub trees : ℕ
    pub forest : is_forest (suc trees) (map count nodes) ≡ true

  pub there_after : (nodes : List EfgNode) (h : List ℕ) → IsPath nodes h → IsThere nodes → IsThere (nodes_after count nodes h)
  there_after nodes [] path there = there
  there_after [] (a ∷ h) path there = absurd path
  there_after (node ∷ nodes) (a ∷ h) path there =
      let left : ℕ = count node - a - 1 + there.trees in
      let low : a < count node = path.0 in
      let same : count node + there.trees ≡ a + suc left = omega arith in
      there_after (behind count a nodes) h path.1 (record {
        trees = left;
        forest = behind_forest a (suc left) nodes (subst (λ n. is_forest n (map count nodes) ≡ true) same there.forest);
      })

  -- ---- depth
  pub drop_front : {X : Type 0} (k m : ℕ) (x : X) (xs : List X) → drop (k + m) (replicate k x ++ xs) ≡ drop m xs
  drop_front zero m x xs = ap (λ n. drop n xs) (omega arith)
  drop_front (suc k) m x xs = let same : suc k + m ≡ suc (k + m) = omega arith in rw same (drop_front k m x xs)

  behind_shallow : (k : ℕ) (waiting : List ℕ) (nodes : List EfgNode) → are_shallow waiting (map count nodes) ≡ true → are_shallow (drop k waiting) (map count (behind count k nodes)) ≡ true
  behind_shallow zero waiting nodes e = e
  behind_shallow (suc k) [] [] e = refl
  behind_shallow (suc k) (depth ∷ others) [] e = nothing (drop k others)
    where
      nothing : (waiting : List ℕ) → are_shallow waiting [] ≡ true
      nothing [] = refl
      nothing (depth ∷ others) = refl
  behind_shallow (suc k) [] (node ∷ nodes) e = refl
  behind_shallow (suc k) (depth ∷ others) (node ∷ nodes) e =
      let rest = (both (nat_le depth most_moves) (are_shallow (replicate (count node) (depth + 1) ++ others) (map count nodes)) e).1 in
      let later = behind_shallow (count node + k) (replicate (count node) (depth + 1) ++ others) nodes rest in
      subst (λ w. are_shallow w (map count (behind count (count node + k) nodes)) ≡ true) (drop_front (count node) k (depth + 1) others) later

  -- what waits behind some trees of a node
  pub drop_some : {X : Type 0} (a k : ℕ) (x : X) (xs : List X) → a < k → drop a (replicate k x ++ xs) ≡ x ∷ (replicate (k - a - 1) x ++ xs)
  drop_some zero zero x xs l = absurd (omega arith)
  drop_some zero (suc k) x xs l = let same : suc k - 0 - 1 ≡ k = omega arith in rw same refl
  drop_some (suc a) zero x xs l = absurd (omega arith)
  drop_some (suc a) (suc k) x xs l = let same : suc k - suc a - 1 ≡ k - a - 1 = omega arith in rw same (drop_some a k x xs (omega arith))

  pub path_short : (depth : ℕ) (others : List ℕ) (nodes : List EfgNode) (h : List ℕ) → are_shallow (depth ∷ others) (map count nodes) ≡ true → depth ≤ most_moves + 1 → IsPath nodes h → depth + length h ≤ most_moves + 1
  path_short depth others nodes [] e l path = omega arith
  path_short depth others [] (a ∷ h) e l path = absurd path
  path_short depth others (node ∷ nodes) (a ∷ h) e l path =
      let two = both (nat_le depth most_moves) (are_shallow (replicate (count node) (depth + 1) ++ others) (map count nodes)) e in
      let rest = behind_shallow a (replicate (count node) (depth + 1) ++ others) nodes two.1 in
      let waiting = drop_some a (count node) (depth + 1) others path.0 in
      let later = path_short (depth + 1) (replicate (count node - a - 1) (depth + 1) ++ others) (behind count a nodes) h
      (subst (λ w. are_shallow w (map count (behind count a nodes)) ≡ true) waiting rest) (omega (arith, leb-true depth most_moves two.0)) path.1 in
      omega arith

-- ---- numbers
pub kind_below : (sets : List EfgSet) (kind : NodeKind) (a : ℕ) → Contains (next_at (kind_place sets kind) (numbers_for (kind_place sets kind) (kind_numbers sets kind))) a → a < action_count sets kind
kind_below sets kind a c = omega (arith, (range_within 0 (action_count sets kind) a (next_numbers (kind_place sets kind) (kind_numbers sets kind) a c)).1)

module _ (parts : EfgParts) where
  first_path : (nodes : List EfgNode) (a : ℕ) → a < action_count parts.sets (first_kind nodes) → IsPath (subtrees parts.sets) nodes (a ∷ [])
  first_path [] a l = absurd (omega arith)
  first_path (node ∷ nodes) a l = (l, tt)

  join_paths : (nodes : List EfgNode) (a : ℕ) (h : List ℕ) → IsPath (subtrees parts.sets) nodes (a ∷ []) → IsPath (subtrees parts.sets) (nodes_after (subtrees parts.sets) nodes (a ∷ [])) h → IsPath (subtrees parts.sets) nodes (a ∷ h)
  join_paths [] a h one rest = absurd one
  join_paths (node ∷ nodes) a h one rest = (one.0, rest)

  along : (h rest : List ℕ) → Follows (next_of (efg_rules parts)) h rest → IsPath (subtrees parts.sets) (nodes_after (subtrees parts.sets) parts.nodes h) rest
  along h [] f = tt
  along h (a ∷ rest) f =
      let nodes : List EfgNode = nodes_after (subtrees parts.sets) parts.nodes h in
      let here = first_path nodes a (kind_below parts.sets (first_kind nodes) a f.0) in
      join_paths nodes a rest here (subst (λ z. IsPath (subtrees parts.sets) z rest) (after_more (subtrees parts.sets) parts.nodes h a) (along (h ++ a ∷ []) rest f.1))

  -- a play is a path
  pub play_path : (h : List ℕ) → IsPlay (efg_rules parts) h → IsPath (subtrees parts.sets) parts.nodes h
  play_path h play = along [] h play.steps

  module _ (sound : IsEfg parts) where
    root_there : IsThere (subtrees parts.sets) parts.nodes
    root_there = record { trees = 0; forest = sound.tree }

    -- there is a node where a play leads
    pub play_there : (h : List ℕ) → IsPlay (efg_rules parts) h → IsThere (subtrees parts.sets) (nodes_after (subtrees parts.sets) parts.nodes h)
    play_there h play = there_after (subtrees parts.sets) parts.nodes h (play_path h play) root_there

    pub play_short : (h : List ℕ) → IsPlay (efg_rules parts) h → length h ≤ most_moves + 1
    play_short h play = omega (arith, path_short (subtrees parts.sets) 0 [] parts.nodes h sound.shallow (omega arith) (play_path h play))
