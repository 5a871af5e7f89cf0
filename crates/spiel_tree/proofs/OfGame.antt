-- Each row of a game is that of a play.
use Rattle.std.proofs.Common.{◌≡◌, ℕ, zero, suc, ◌+◌, ◌-◌, ◌^◌, ◌<◌, ◌≤◌, ◌==◌, Bool, true, false, eq-eqb, List, [], ◌∷◌, ◌++◌, length, get_or, refl, ap, sym, subst, ◌∙◌, arith, length-append}
use Rattle.std.specs.Prelude.{ℤ, if◌then◌else◌}
use Rattle.std.specs.List.{All, Contains, flat_map}
use Rattle.std.specs.List.Sorted.{IsStrictlyIncreasing}
use Rattle.std.proofs.lemmas.List.Elements.{All-nil, All-cons, All-append, All-map, All-get_or, All-contains_itself, All-head, All-tail, All-weaker}
use Rattle.spiel_api.specs.declared.place.Place.{Place}
use Rattle.spiel_api.specs.declared.place.Place.TheVariants.{End, Chance, Move, Joint}
use Rattle.spiel_api.specs.Place.{IsAmongPlayers}
use Rattle.spiel_api.specs.Rules.{Rules, next_of, next_at}
use Rattle.spiel_api.specs.Plays.{Follows, IsPlay}
use Rattle.spiel_api.specs.Laws.{IsLawful}
use Rattle.spiel_api.proofs.PlayLemmas.{IsPlay-more, IsPlay-nil}
use Rattle.spiel_tree.specs.Histories.{below, histories_from, histories}
use Rattle.spiel_tree.specs.Rows.{Row, Step, node_of, place_of_number, row_of, rows, pays_at, pays_below, way_from, weights_at}
use Rattle.spiel_tree.specs.Flat.{StepsWithin, no_row, row_at}
use Rattle.spiel_tree.specs.Trees.{Whole, IsGameTree}
use Rattle.spiel_tree.proofs.Ways.{some_row}

all_flat : {X Y : Type 0} (P : X → Type 0) (f : Y → List X) (ys : List Y) → All (λ y. All P (f y)) ys → All P (flat_map f ys)
all_flat P f [] are = All-nil P
all_flat P f (y ∷ ys) are = All-append P (f y) (flat_map f ys) (All-head (λ z. All P (f z)) y ys are) (all_flat P f ys (All-tail (λ z. All P (f z)) y ys are))

pub all_plays : (r : Rules) (k : ℕ) (h : List ℕ) → IsPlay r h → All (IsPlay r) (below (next_of r) k h)
all_plays r zero h play = All-cons (IsPlay r) h [] play (All-nil (IsPlay r))
all_plays r (suc k) h play =
    let f : ℕ → List (List ℕ) = λ a. below (next_of r) k (h ++ a ∷ []) in
    All-cons (IsPlay r) h (flat_map f (next_of r h)) play
    (all_flat (IsPlay r) f (next_of r h)
    (All-weaker (Contains (next_of r h)) (λ a. All (IsPlay r) (f a)) (λ a c. all_plays r k (h ++ a ∷ []) (IsPlay-more r h a play c)) (next_of r h) (All-contains_itself (next_of r h))))

-- the row of a play
pub record IsOfPlay (r : Rules) (row : Row) : Type 0 where
  pub history : List ℕ
  pub play : IsPlay r history
  pub is : row ≡ row_of r history

pub rows_of_plays : (r : Rules) → All (IsOfPlay r) (rows r)
unfolding histories_from
rows_of_plays r =
    All-map (IsOfPlay r) (row_of r) (histories r)
    (All-weaker (IsPlay r) (λ h. IsOfPlay r (row_of r h)) (λ h play. record { history = h; play = play; is = refl }) (histories r)
    (all_plays r (4096 - length {A = ℕ} []) [] (IsPlay-nil r)))

-- ---- what the laws give of each row
-- rising numbers are no fewer than their places
place_low : (xs : List ℕ) (k : ℕ) → IsStrictlyIncreasing xs → k < length xs → k ≤ get_or xs k 0
place_low xs zero rises l = omega arith
place_low xs (suc k) rises l =
    let less : get_or xs k 0 < get_or xs (k + 1) 0 = rises k (omega arith) in
    let same : k + 1 ≡ suc k = omega arith in
    let less : get_or xs k 0 < get_or xs (suc k) 0 = subst (λ (n : ℕ). get_or xs k 0 < get_or xs n 0) same less in
    omega (arith, less, place_low xs k rises (omega arith))

-- so rising numbers below a bound are at most so many
rising_few : (xs : List ℕ) (m : ℕ) → IsStrictlyIncreasing xs → All (λ a. a < m) xs → length xs ≤ m
rising_few [] m rises small = omega arith
rising_few (x ∷ xs) m rises small =
    omega (arith, place_low (x ∷ xs) (length xs) rises (omega arith), All-get_or (λ a. a < m) (x ∷ xs) (length xs) 0 (omega arith) small)

next_few : (r : Rules) → IsLawful r → (h : List ℕ) → IsPlay r h → length (next_of r h) < 2 ^ 32
next_few r laws h play = by (r.place h) refl
  where
    among : (place : Place) → r.place h ≡ place → IsAmongPlayers r.players place
    among place e = subst (IsAmongPlayers r.players) e (laws.numbers.mover h play)

    few : (p : ℕ) → p < r.players → length (r.legal h p) < 2 ^ 32
    few p l = omega (arith, rising_few (r.legal h p) (2 ^ 32 - 1) (laws.numbers.rises h p play l) (laws.numbers.small h p play l))

    by : (place : Place) → r.place h ≡ place → length (next_at place (r.legal h)) < 2 ^ 32
    by End e = omega arith
    by Chance e = few 0 (omega (arith, laws.limits.players_low))
    by (Move p) e = few p (among (Move p) e)
    by (Joint p) e = few p (among (Joint p) e)

pub pays_count : (pay : ℕ → ℤ) (n : ℕ) → length (pays_below pay n) ≡ n
pays_count pay zero = refl
pays_count pay (suc n) = omega (arith, length-append (pays_below pay n) (pay n ∷ []), pays_count pay n)

-- what holds of a row of a game
pub record IsSoundRow (players : ℕ) (row : Row) : Type 0 where
  pub few : length row.here.numbers < 2 ^ 32
  pub weighed : row.here.place ≡ Chance → length row.here.weights ≡ length row.here.numbers
  pub paid : row.here.place ≡ End → length row.here.pays ≡ players
  pub mover : IsAmongPlayers players row.here.place

sound_row : (r : Rules) → IsLawful r → (row : Row) → IsOfPlay r row → IsSoundRow r.players row
sound_row r laws row of =
    subst (IsSoundRow r.players) (sym of.is) (record {
      few = next_few r laws of.history of.play;
      weighed = λ e. ap (λ place. length (weights_at place (r.weights of.history))) e ∙ laws.chance.weighed of.history of.play e;
      paid = λ e. ap (λ place. length (pays_at place (pays_below (r.pay of.history) r.players))) e ∙ pays_count (r.pay of.history) r.players;
      mover = laws.numbers.mover of.history of.play;
    })

pub sound_rows : (tree : Whole) → IsGameTree tree → (k : ℕ) → k < length tree.rows → IsSoundRow tree.players (row_at tree.rows k)
sound_rows tree game k l =
    let r = game.rules in
    subst (λ (t : Whole). k < length t.rows → IsSoundRow t.players (row_at t.rows k)) (sym game.is)
    (λ within. sound_row r game.lawful (row_at (rows r) k) (All-get_or (IsOfPlay r) (rows r) k no_row within (rows_of_plays r))) l

-- ---- the steps of a way
number_at_within : (xs : List ℕ) (a k : ℕ) → k < length xs → get_or xs k a ≡ a → place_of_number xs a < length xs
number_at_within [] a k l e = absurd (omega (arith, l))
number_at_within (x ∷ xs) a zero l e = rw (eq-eqb x a e) (omega arith)
number_at_within (x ∷ xs) a (suc k) l e = by (x == a) (number_at_within xs a k (omega (arith, l)) e)
  where
    by : (b : Bool) → place_of_number xs a < length xs → (if b then 0 else suc (place_of_number xs a)) < length (x ∷ xs)
    by true more = omega arith
    by false more = omega (arith, more)

number_within : (xs : List ℕ) (a : ℕ) → Contains xs a → place_of_number xs a < length xs
number_within xs a c = number_at_within xs a c.0 c.1 c.2

abbrev pub IsWithin : Step → Type 0
IsWithin step = step.index < length step.at.numbers

way_within : (r : Rules) (h xs : List ℕ) → Follows (next_of r) h xs → All IsWithin (way_from r h xs)
way_within r h [] f = All-nil IsWithin
way_within r h (a ∷ xs) f =
    All-cons IsWithin (record { at = node_of r h; index = place_of_number (next_of r h) a }) (way_from r (h ++ a ∷ []) xs)
    (number_within (next_of r h) a f.0) (way_within r (h ++ a ∷ []) xs f.1)

row_steps : (r : Rules) (row : Row) → IsOfPlay r row → All IsWithin row.way
row_steps r row of = subst (λ (row : Row). All IsWithin row.way) (sym of.is) (way_within r [] of.history of.play.steps)

-- in a game each step of a way took a legal number
pub steps_within : (r : Rules) → StepsWithin (rows r)
steps_within r k l = row_steps r (row_at (rows r) k) (All-get_or (IsOfPlay r) (rows r) k no_row l (rows_of_plays r))

pub tree_steps : (tree : Whole) → IsGameTree tree → StepsWithin tree.rows
tree_steps tree game = subst (λ (t : Whole). StepsWithin t.rows) (sym game.is) (steps_within game.rules)

-- the tree of a game has a row
pub tree_some : (tree : Whole) → IsGameTree tree → 0 < length tree.rows
tree_some tree game = subst (λ (t : Whole). 0 < length t.rows) (sym game.is) (some_row game.rules game.lawful [] (IsPlay-nil game.rules))
