-- Where the children of nodes stand, and what is got on the way to them.
use Rattle.std.proofs.Common.{◌≡◌, ℕ, zero, suc, ◌+◌, ◌-◌, ◌<◌, ◌≤◌, true, List, [], ◌∷◌, ◌++◌, length, map, drop, take, get_or, reverse, refl, sym, ap, subst, ◌∙◌, arith}
use Rattle.std.specs.Prelude.{ℤ, pos, ◌+ℤ◌, slice_index, slice_index_or}
use Rattle.std.proofs.lemmas.Bool.{false≢true}
use Rattle.std.proofs.lemmas.Int.{ints}
use Rattle.std.proofs.lemmas.List.{drop-drop, take_more, get_or-drop, get_or-reverse, get_or-take, length-drop, length-map, length-take}
use Rattle.spiel_api.specs.Plays.{IsPlay}
use Rattle.spiel_api.specs.Rules.{next_of}
use Rattle.spiel_api.proofs.PlayLemmas.{IsPlay-front, IsPlay-last, IsPlay-more, IsPlay-take}
use Rattle.spiel_api.specs.States.{StandsFor}
use Rattle.std.specs.List.{Contains}
use Rattle.spiel_efg.specs.Sets.{action_count}
use Rattle.spiel_efg.specs.declared.efg.EfgState.{EfgState}
use Rattle.spiel_efg.specs.declared.parts.EfgNode.{EfgNode}
use Rattle.spiel_efg.specs.declared.parts.EfgParts.{EfgParts}
use Rattle.spiel_efg.specs.Efg.{efg_rules, first_kind, kind_after}
use Rattle.spiel_efg.specs.EfgPays.{pay_along}
use Rattle.spiel_efg.specs.EfgPlays.{IsThere, after_more, efg_from, kind_below, play_there}
use Rattle.spiel_efg.specs.EfgState.{IsEfgAt, no_node, places_above}
use Rattle.spiel_efg.specs.Places.{children_from, roots}
use Rattle.spiel_efg.specs.Sound.{is_sound}
use Rattle.spiel_efg.specs.Tree.{behind, counts_of, is_forest, most_nodes, nodes_after, subtrees}
use Rattle.spiel_efg.proofs.Forests.{rest_is}

-- ---- the roots of trees that stand one behind another
roots_count : (p k : ℕ) (counts : List ℕ) → is_forest k counts ≡ true → length (roots p counts) ≡ k
roots_count p zero [] e = refl
roots_count p (suc k) [] e = absurd (false≢true e)
roots_count p zero (count ∷ counts) e = absurd (false≢true e)
roots_count p (suc k) (count ∷ counts) e = omega (arith, roots_count (p + 1) (count + k) counts e, length-drop count (roots (p + 1) counts))

record LeadsTo (count : EfgNode → ℕ) (nodes : List EfgNode) (p a r : ℕ) : Type 0 where
  low : p ≤ r
  is : behind count a nodes ≡ drop (r - p) nodes

root_leads : (count : EfgNode → ℕ) (nodes : List EfgNode) (p a : ℕ) → a < length (roots p (map count nodes)) → LeadsTo count nodes p a (get_or (roots p (map count nodes)) a 0)
root_leads count [] p a l = absurd (omega arith)
root_leads count (node ∷ nodes) p zero l = let none : p - p ≡ 0 = omega arith in record { low = omega arith; is = rw none refl }
root_leads count (node ∷ nodes) p (suc a) l =
    let rest : List ℕ = roots (p + 1) (map count nodes) in
    let within : count node + a < length rest = omega (arith, l, length-drop (count node) rest) in
    let later = root_leads count nodes (p + 1) (count node + a) within in
    let root : ℕ = get_or rest (count node + a) 0 in
    let same : get_or (drop (count node) rest) a 0 ≡ root = get_or-drop (count node) rest a 0 in
    let low : p + 1 ≤ root = later.low in
    let next : root - p ≡ suc (root - (p + 1)) = omega arith in
    rw same (record { low = omega arith; is = rw next later.is })

-- the child of a node
pub child_leads : (count : EfgNode → ℕ) (nodes : List EfgNode) (node : EfgNode) (place a : ℕ) → place < length nodes → node ≡ get_or nodes place node → IsThere count (drop place nodes) → a < count node
    → behind count a (drop (place + 1) nodes) ≡ drop (get_or (take (count node) (roots (place + 1) (map count (drop (place + 1) nodes)))) a 0) nodes
child_leads count nodes node place a l e there low =
    let rest : List EfgNode = drop (place + 1) nodes in
    let counts : List ℕ = map count rest in
    let at : drop place nodes ≡ node ∷ rest = rest_is nodes place node l ∙ ap (λ x. x ∷ rest) (sym e) in
    let forest : is_forest (suc there.trees) (count node ∷ counts) ≡ true = subst (λ xs. is_forest (suc there.trees) (map count xs) ≡ true) at there.forest in
    let many = roots_count (place + 1) (count node + there.trees) counts forest in
    let leads = root_leads count rest (place + 1) a (omega arith) in
    let root : ℕ = get_or (roots (place + 1) counts) a 0 in
    let same : place + 1 + (root - (place + 1)) ≡ root = let low = leads.low in omega arith in
    leads.is ∙ drop-drop (root - (place + 1)) (place + 1) nodes ∙ ap (λ n. drop n nodes) (same ∙ sym (get_or-take (count node) (roots (place + 1) counts) a 0 low))

pub child_many : (count : EfgNode → ℕ) (nodes : List EfgNode) (node : EfgNode) (place : ℕ) → place < length nodes → node ≡ get_or nodes place node → IsThere count (drop place nodes)
    → length (take (count node) (roots (place + 1) (map count (drop (place + 1) nodes)))) ≡ count node
child_many count nodes node place l e there =
    let rest : List EfgNode = drop (place + 1) nodes in
    let counts : List ℕ = map count rest in
    let at : drop place nodes ≡ node ∷ rest = rest_is nodes place node l ∙ ap (λ x. x ∷ rest) (sym e) in
    let forest : is_forest (suc there.trees) (count node ∷ counts) ≡ true = subst (λ xs. is_forest (suc there.trees) (map count xs) ≡ true) at there.forest in
    omega (arith, roots_count (place + 1) (count node + there.trees) counts forest, length-take (count node) (roots (place + 1) counts))

-- ---- what is kept of them
children_long : (p : ℕ) (counts : List ℕ) → length (children_from p counts) ≡ length counts
children_long p [] = refl
children_long p (count ∷ counts) = ap suc (children_long (p + 1) counts)

child_row : (p : ℕ) (counts : List ℕ) (k : ℕ) → k < length counts → get_or (children_from p counts) k [] ≡ take (get_or counts k 0) (roots (p + k + 1) (drop (k + 1) counts))
child_row p [] k l = absurd (omega arith)
child_row p (count ∷ counts) zero l = let same : p + 0 + 1 ≡ p + 1 = omega arith in rw same refl
child_row p (count ∷ counts) (suc k) l =
    let same : p + suc k + 1 ≡ p + 1 + k + 1 = omega arith in
    let next : suc k + 1 ≡ suc (k + 1) = omega arith in
    rw (same, next) (child_row (p + 1) counts k (omega arith))

-- the row that is kept for a node, those of later nodes before it
pub kept_row : (counts : List ℕ) (k n : ℕ) → n ≡ length counts → k < n → get_or (reverse (children_from 0 counts)) (n - 1 - k) [] ≡ take (get_or counts k 0) (roots (k + 1) (drop (k + 1) counts))
kept_row counts k n e l =
    let long = children_long 0 counts in
    let within : n - 1 - k < length (children_from 0 counts) = omega arith in
    let turned : length (children_from 0 counts) - 1 - (n - 1 - k) ≡ k = omega arith in
    let start : 0 + k + 1 ≡ k + 1 = omega arith in
    get_or-reverse (children_from 0 counts) (n - 1 - k) [] within
    ∙ ap (λ m. get_or (children_from 0 counts) m []) turned
    ∙ child_row 0 counts k (omega arith)
    ∙ ap (λ m. take (get_or counts k 0) (roots m (drop (k + 1) counts))) start

-- ---- what is got on a path
abbrev pub first_own : (EfgNode → ℤ) → List EfgNode → ℤ
first_own own [] = pos 0
first_own own (node ∷ nodes) = own node

pub first_along : (count : EfgNode → ℕ) (own : EfgNode → ℤ) (nodes : List EfgNode) → pay_along count own nodes [] ≡ first_own own nodes
first_along count own [] = refl
first_along count own (node ∷ nodes) = refl

-- one action more
pub pay_more : (count : EfgNode → ℕ) (own : EfgNode → ℤ) (nodes : List EfgNode) (h : List ℕ) (a : ℕ) → pay_along count own (nodes) (h ++ a ∷ []) ≡ pay_along count own nodes h +ℤ first_own own (nodes_after count nodes (h ++ a ∷ []))
pay_more count own [] [] a = refl
pay_more count own [] (b ∷ h) a = refl
pay_more count own (node ∷ nodes) [] a = ap (λ z. own node +ℤ z) (first_along count own (behind count a nodes))
pay_more count own (node ∷ nodes) (b ∷ h) a =
    let later = pay_more count own (behind count b nodes) h a in
    let after : List EfgNode = nodes_after count (behind count b nodes) (h ++ a ∷ []) in
    ap (λ z. own node +ℤ z) later ∙ omega (arith, ints)

-- ---- the places above a node
module _ (count : EfgNode → ℕ) where
  nowhere : (h : List ℕ) → nodes_after count [] h ≡ []
  nowhere [] = refl
  nowhere (a ∷ h) = refl

  pub above_more : (total : ℕ) (nodes : List EfgNode) (h : List ℕ) (a : ℕ) → places_above count total nodes (h ++ a ∷ []) ≡ places_above count total nodes h ++ (total - length (nodes_after count nodes h)) ∷ []
  above_more total nodes [] a = refl
  above_more total [] (b ∷ h) a =
      ap (λ xs. (total - 0) ∷ xs) (above_more total [] h a ∙ ap (λ nodes. places_above count total [] h ++ (total - length nodes) ∷ []) (nowhere h))
  above_more total (node ∷ nodes) (b ∷ h) a = ap (λ xs. (total - length (node ∷ nodes)) ∷ xs) (above_more total (behind count b nodes) h a)

  -- what stands behind some nodes
  record IsTail (nodes part : List EfgNode) : Type 0 where
    skipped : ℕ
    few : skipped ≤ length nodes
    is : part ≡ drop skipped nodes

  behind_tail : (k : ℕ) (nodes : List EfgNode) → IsTail nodes (behind count k nodes)
  behind_tail zero nodes = record { skipped = 0; few = omega arith; is = refl }
  behind_tail (suc k) [] = record { skipped = 0; few = omega arith; is = refl }
  behind_tail (suc k) (node ∷ nodes) =
      let later = behind_tail (count node + k) nodes in
      let few = later.few in
      record { skipped = suc later.skipped; few = omega arith; is = later.is }

  after_tail : (nodes : List EfgNode) (h : List ℕ) → IsTail nodes (nodes_after count nodes h)
  after_tail nodes [] = record { skipped = 0; few = omega arith; is = refl }
  after_tail [] (a ∷ h) = record { skipped = 0; few = omega arith; is = refl }
  after_tail (node ∷ nodes) (a ∷ h) =
      let one = behind_tail a nodes in
      let two = after_tail (behind count a nodes) h in
      record {
        skipped = suc (one.skipped + two.skipped);
        few = omega (arith, one.few, two.few, ap length one.is, length-drop one.skipped nodes);
        is = two.is ∙ ap (λ xs. drop two.skipped xs) one.is ∙ drop-drop two.skipped one.skipped nodes;
      }

  -- the nodes from the place of one on
  pub tail_at : (nodes : List EfgNode) (h : List ℕ) → drop (length nodes - length (nodes_after count nodes h)) nodes ≡ nodes_after count nodes h
  tail_at nodes h =
      let tail = after_tail nodes h in
      ap (λ k. drop k nodes) (omega (arith, tail.few, ap length tail.is, length-drop tail.skipped nodes)) ∙ sym tail.is

-- ---- states
module _ (parts : EfgParts) (is : is_sound parts ≡ true) where
  at_there : (h : List ℕ) (place : ℕ) → IsPlay (efg_rules parts) h → drop place parts.nodes ≡ nodes_after (subtrees parts.sets) parts.nodes h → IsThere (subtrees parts.sets) (drop place parts.nodes)
  at_there h place play e = subst (λ xs. IsThere (subtrees parts.sets) xs) (sym e) (play_there parts (efg_from parts is) h play)

  pub some_there : (nodes : List EfgNode) → IsThere (subtrees parts.sets) nodes → 0 < length nodes
  some_there [] there = absurd (false≢true there.forest)
  some_there (node ∷ nodes) there = omega arith

  -- the place of a state is that of a node
  pub state_within : (state : EfgState) → IsEfgAt parts state → state.place < length parts.nodes
  state_within state at = omega (arith, some_there (drop state.place parts.nodes) (at_there state.history state.place at.play at.node), length-drop state.place parts.nodes)

  pub state_kind : (state : EfgState) (node : EfgNode) → IsEfgAt parts state → node ≡ get_or parts.nodes state.place node → node.kind ≡ kind_after parts state.history
  state_kind state node at e =
      ap (λ xs. first_kind xs) (sym (rest_is parts.nodes state.place node (state_within state at) ∙ ap (λ x. x ∷ drop (state.place + 1) parts.nodes) (sym e)) ∙ at.node)

  abbrev own_row : List (List ℕ) → ℕ → List ℕ
  own_row children place = slice_index_or children (length parts.nodes - 1 - place) []

  drop_counts : (k : ℕ) (nodes : List EfgNode) → drop k (counts_of parts.sets nodes) ≡ counts_of parts.sets (drop k nodes)
  drop_counts zero nodes = refl
  drop_counts (suc k) [] = refl
  drop_counts (suc k) (node ∷ nodes) = drop_counts k nodes

  get_count : (nodes : List EfgNode) (k : ℕ) → k < length nodes → get_or (counts_of parts.sets nodes) k 0 ≡ subtrees parts.sets (get_or nodes k no_node)
  get_count [] k l = absurd (omega arith)
  get_count (node ∷ nodes) zero l = refl
  get_count (node ∷ nodes) (suc k) l = get_count nodes k (omega arith)

  row_is : (children : List (List ℕ)) (place : ℕ) → children ≡ reverse (children_from 0 (counts_of parts.sets parts.nodes)) → place < length parts.nodes
      → own_row children place ≡ take (subtrees parts.sets (get_or parts.nodes place no_node)) (roots (place + 1) (counts_of parts.sets (drop (place + 1) parts.nodes)))
  row_is children place e l =
      ap (λ rows. own_row rows place) e
      ∙ kept_row (counts_of parts.sets parts.nodes) place (length parts.nodes) (sym (length-map parts.nodes (subtrees parts.sets))) l
      ∙ ap (λ n. take n (roots (place + 1) (drop (place + 1) (counts_of parts.sets parts.nodes)))) (get_count parts.nodes place l)
      ∙ ap (λ xs. take (subtrees parts.sets (get_or parts.nodes place no_node)) (roots (place + 1) xs)) (drop_counts (place + 1) parts.nodes)

  pub record IsStep (children : List (List ℕ)) (h : List ℕ) (a place : ℕ) : Type 0 where
    pub within : place < length parts.nodes
    pub low : a < length (own_row children place)
    pub leads : drop (slice_index (own_row children place) a) parts.nodes ≡ nodes_after (subtrees parts.sets) parts.nodes (h ++ a ∷ [])

  -- an action leads to a child
  pub child_step : (children : List (List ℕ)) (h : List ℕ) (a place : ℕ) → children ≡ reverse (children_from 0 (counts_of parts.sets parts.nodes)) → IsPlay (efg_rules parts) (h ++ a ∷ [])
      → drop place parts.nodes ≡ nodes_after (subtrees parts.sets) parts.nodes h → IsStep children h a place
  child_step children h a place e play node =
      let front = IsPlay-front (efg_rules parts) h (a ∷ []) play in
      let there = at_there h place front node in
      let within : place < length parts.nodes = omega (arith, some_there (drop place parts.nodes) there, length-drop place parts.nodes) in
      let own : EfgNode = get_or parts.nodes place no_node in
      let rest : List EfgNode = drop (place + 1) parts.nodes in
      let at : drop place parts.nodes ≡ own ∷ rest = rest_is parts.nodes place no_node within in
      let kind : first_kind (nodes_after (subtrees parts.sets) parts.nodes h) ≡ own.kind = ap first_kind (sym node ∙ at) in
      let below : a < action_count parts.sets own.kind = subst (λ k. a < action_count parts.sets k) kind (kind_below parts.sets (kind_after parts h) a (IsPlay-last (efg_rules parts) h a play)) in
      let row = row_is children place e within in
      let many = child_many (subtrees parts.sets) parts.nodes own place within (get_same parts.nodes place within) there in
      let leads = child_leads (subtrees parts.sets) parts.nodes own place a within (get_same parts.nodes place within) there below in
      record {
        within = within;
        low = omega (arith, below, many, ap length row);
        leads = ap (λ xs. drop (slice_index xs a) parts.nodes) row ∙ sym leads
            ∙ sym (after_more (subtrees parts.sets) parts.nodes h a ∙ ap (λ xs. nodes_after (subtrees parts.sets) xs (a ∷ [])) (sym node ∙ at));
      }
    where
      get_same : (nodes : List EfgNode) (k : ℕ) → k < length nodes → get_or nodes k no_node ≡ get_or nodes k (get_or nodes k no_node)
      get_same [] k l = absurd (omega arith)
      get_same (node ∷ nodes) zero l = refl
      get_same (node ∷ nodes) (suc k) l = get_same nodes k (omega arith)

  -- the node that is read
  pub read_kind : (state : EfgState) (items : List EfgNode) (node : EfgNode) → items ≡ parts.nodes → IsEfgAt parts state → node ≡ get_or items state.place node → (get_or items state.place node).kind ≡ kind_after parts state.history
  read_kind state items node e at f =
      ap (λ (n : EfgNode). n.kind) {x = get_or items state.place node} {y = node} (sym f)
      ∙ state_kind state node at (f ∙ ap (λ xs. get_or xs state.place node) e)

  pub state_few : (state : EfgState) → IsEfgAt parts state → state.place < most_nodes
  state_few state at = omega (arith, state_within state at, (efg_from parts is).nodes_few, length-map parts.nodes (subtrees parts.sets))

  -- the place of a node is what stands before it
  place_is : (h : List ℕ) (place : ℕ) → IsPlay (efg_rules parts) h → drop place parts.nodes ≡ nodes_after (subtrees parts.sets) parts.nodes h → length parts.nodes - length (nodes_after (subtrees parts.sets) parts.nodes h) ≡ place
  place_is h place play e =
      omega (arith, some_there (drop place parts.nodes) (at_there h place play e), length-drop place parts.nodes, ap length e)

  -- a state behind one action more
  pub stands : (children : List (List ℕ)) (state : EfgState) (a : ℕ) (history above : List ℕ) (place : ℕ) → children ≡ reverse (children_from 0 (counts_of parts.sets parts.nodes)) → IsEfgAt parts state → Contains (next_of (efg_rules parts) state.history) a
      → history ≡ state.history ++ a ∷ [] → above ≡ state.above ++ state.place ∷ [] → place ≡ slice_index (slice_index_or children (length parts.nodes - 1 - state.place) []) a
      → StandsFor (λ s. IsEfgAt parts s) (λ (s : EfgState). s.history) (record { history = history; above = above; place = place }) (state.history ++ a ∷ [])
  stands children state a history above place e at legal f up g =
      let play = IsPlay-more (efg_rules parts) state.history a at.play legal in
      let step = child_step children state.history a state.place e play at.node in
      let more = above_more (subtrees parts.sets) (length parts.nodes) parts.nodes state.history a in
      let last = place_is state.history state.place at.play at.node in
      record {
        sound = record {
          play = subst (λ h. IsPlay (efg_rules parts) h) (sym f) play;
          node = ap (λ k. drop k parts.nodes) g ∙ step.leads ∙ ap (λ h. nodes_after (subtrees parts.sets) parts.nodes h) (sym f);
          above = up ∙ ap (λ xs. xs ++ state.place ∷ []) at.above ∙ ap (λ k. places_above (subtrees parts.sets) (length parts.nodes) parts.nodes state.history ++ k ∷ []) (sym last)
              ∙ sym more ∙ ap (λ h. places_above (subtrees parts.sets) (length parts.nodes) parts.nodes h) (sym f);
        };
        history = f;
      }

  -- the places above a state, of which the last is that of the node before its last action
  pub above_last : (state : EfgState) (h : List ℕ) (a : ℕ) → IsEfgAt parts state → state.history ≡ h ++ a ∷ []
      → state.above ≡ places_above (subtrees parts.sets) (length parts.nodes) parts.nodes h ++ (length parts.nodes - length (nodes_after (subtrees parts.sets) parts.nodes h)) ∷ []
  above_last state h a at e =
      at.above ∙ ap (λ h. places_above (subtrees parts.sets) (length parts.nodes) parts.nodes h) e
      ∙ above_more (subtrees parts.sets) (length parts.nodes) parts.nodes h a

  -- a state before its last action
  pub stood : (state : EfgState) (h : List ℕ) (a : ℕ) (history above : List ℕ) (place : ℕ) → IsEfgAt parts state → state.history ≡ h ++ a ∷ []
      → history ≡ h → above ≡ places_above (subtrees parts.sets) (length parts.nodes) parts.nodes h → place ≡ length parts.nodes - length (nodes_after (subtrees parts.sets) parts.nodes h)
      → StandsFor (λ s. IsEfgAt parts s) (λ (s : EfgState). s.history) (record { history = history; above = above; place = place }) h
  stood state h a history above place at e f up g = record {
    sound = record {
      play = subst (λ h. IsPlay (efg_rules parts) h) (sym f) (IsPlay-front (efg_rules parts) h (a ∷ []) (subst (λ h. IsPlay (efg_rules parts) h) e at.play));
      node = ap (λ k. drop k parts.nodes) g ∙ tail_at (subtrees parts.sets) parts.nodes h ∙ ap (λ h. nodes_after (subtrees parts.sets) parts.nodes h) (sym f);
      above = up ∙ ap (λ h. places_above (subtrees parts.sets) (length parts.nodes) parts.nodes h) (sym f);
    };
    history = f;
  }

  pub action_low : (children : List (List ℕ)) (state : EfgState) (a : ℕ) → children ≡ reverse (children_from 0 (counts_of parts.sets parts.nodes)) → IsEfgAt parts state → Contains (next_of (efg_rules parts) state.history) a
      → a < length (slice_index_or children (length parts.nodes - 1 - state.place) [])
  action_low children state a e at legal = (child_step children state.history a state.place e (IsPlay-more (efg_rules parts) state.history a at.play legal) at.node).low

  -- the front of a play with its next action
  pub play_front : (h : List ℕ) (k : ℕ) → IsPlay (efg_rules parts) h → k < length h → IsPlay (efg_rules parts) (take k h ++ slice_index h k ∷ [])
  play_front h k play l = subst (λ z. IsPlay (efg_rules parts) z) (take_more h k 0 l) (IsPlay-take (efg_rules parts) h (k + 1) play)

  -- a step along a play, and what is got there
  pub play_step : (children : List (List ℕ)) (h : List ℕ) (k place : ℕ) → children ≡ reverse (children_from 0 (counts_of parts.sets parts.nodes)) → IsPlay (efg_rules parts) h → k < length h
      → drop place parts.nodes ≡ nodes_after (subtrees parts.sets) parts.nodes (take k h) → IsStep children (take k h) (slice_index h k) place
  play_step children h k place e play l node = child_step children (take k h) (slice_index h k) place e (play_front h k play l) node
