-- The way to a history, one step more; and all histories behind one.
use Rattle.std.proofs.Common.{◌≡◌, ℕ, zero, suc, ◌+◌, ◌-◌, ◌<◌, ◌≤◌, List, [], ◌∷◌, ◌++◌, length, map, take, get_or, refl, ap, sym, subst, ◌∙◌, arith, length-append, eq-eqb, append_assoc}
use Rattle.std.specs.Prelude.{slice_index, if◌then◌else◌}
use Rattle.std.specs.List.{Contains, flat_map}
use Rattle.std.specs.List.Sorted.{IsStrictlyIncreasing}
use Rattle.std.proofs.lemmas.Bool.{ne_eqb}
use Rattle.std.proofs.lemmas.List.{length_push, append-nil}
use Rattle.std.proofs.lemmas.List.Elements.{Contains-get_or}
use mathlib.Core.Path.{fun_ext}
use Rattle.spiel_api.specs.declared.place.Place.{Place}
use Rattle.spiel_api.specs.declared.place.Place.TheVariants.{End, Chance, Move, Joint}
use Rattle.spiel_api.specs.Rules.{Rules, next_of, next_at}
use Rattle.spiel_api.specs.Plays.{IsPlay}
use Rattle.spiel_api.specs.Place.{IsAmongPlayers}
use Rattle.spiel_api.specs.Laws.{IsLawful}
use Rattle.spiel_api.proofs.PlayLemmas.{IsPlay-more}
use Rattle.spiel_tree.specs.Histories.{below, histories_from}
use Rattle.spiel_tree.specs.Rows.{Row, info_at, node_of, place_of_number, row_of, rows_from, way_from, way_on}
use Rattle.spiel_tree.specs.Flat.{IsMoverBelow, row_at, shown}

-- ---- places of numbers
-- what follows the first of rising numbers is greater
rises_on : (x : ℕ) (xs : List ℕ) → IsStrictlyIncreasing (x ∷ xs) → IsStrictlyIncreasing xs
rises_on x xs rises k l =
    let after : suc k + 1 ≡ suc (k + 1) = omega arith in
    subst (λ (n : ℕ). get_or xs k 0 < get_or (x ∷ xs) n 0) after (rises (suc k) (omega arith))

first_least : (x : ℕ) (xs : List ℕ) (j : ℕ) → IsStrictlyIncreasing (x ∷ xs) → j < length xs → x < get_or xs j 0
first_least x [] j rises l = absurd (omega arith)
first_least x (y ∷ xs) zero rises l = rises 0 (omega arith)
first_least x (y ∷ xs) (suc j) rises l =
    let here : x < y = rises 0 (omega arith) in
    let more = first_least y xs j (rises_on x (y ∷ xs) rises) (omega arith) in omega arith

-- of rising numbers each stands at its own place alone
pub place_is : (xs : List ℕ) (i : ℕ) → IsStrictlyIncreasing xs → i < length xs → place_of_number xs (get_or xs i 0) ≡ i
place_is [] i rises l = absurd (omega arith)
place_is (x ∷ xs) zero rises l = ap (λ b. if b then 0 else suc (place_of_number xs x)) (eq-eqb x x refl)
place_is (x ∷ xs) (suc i) rises l =
    let less = first_least x xs i rises (omega arith) in
    ap (λ b. if b then 0 else suc (place_of_number xs (get_or xs i 0))) (ne_eqb x (get_or xs i 0) (λ e. omega arith)) ∙ ap suc (place_is xs i (rises_on x xs rises) (omega arith))

-- the numbers of whoever is next rise
pub next_rises : (r : Rules) → IsLawful r → (h : List ℕ) → IsPlay r h → IsStrictlyIncreasing (next_of r h)
next_rises r laws h play = by (r.place h) refl
  where
    among : (place : Place) → r.place h ≡ place → IsAmongPlayers r.players place
    among place e = subst (IsAmongPlayers r.players) e (laws.numbers.mover h play)

    by : (place : Place) → r.place h ≡ place → IsStrictlyIncreasing (next_at place (r.legal h))
    by End e = λ k l. absurd (omega arith)
    by Chance e = laws.numbers.rises h 0 play (omega (arith, laws.limits.players_low))
    by (Move p) e = laws.numbers.rises h p play (among (Move p) e)
    by (Joint p) e = laws.numbers.rises h p play (among (Joint p) e)

-- ---- the way
way_push : (r : Rules) (b xs : List ℕ) (a : ℕ) → way_from r b (xs ++ a ∷ []) ≡ way_from r b xs ++ record { at = node_of r (b ++ xs); index = place_of_number (next_of r (b ++ xs)) a } ∷ []
way_push r b [] a = rw (append-nil b) refl
way_push r b (x ∷ xs) a =
    let more = way_push r (b ++ x ∷ []) xs a in
    let same : b ++ x ∷ [] ++ xs ≡ b ++ x ∷ xs = append_assoc b (x ∷ []) xs in
    ap (λ w. record { at = node_of r b; index = place_of_number (next_of r b) x } ∷ w)
    (more ∙ ap (λ (h : List ℕ). way_from r (b ++ x ∷ []) xs ++ record { at = node_of r h; index = place_of_number (next_of r h) a } ∷ []) same)

-- the way behind a row, by the number at an index
pub way_behind : (r : Rules) → IsLawful r → (h : List ℕ) → IsPlay r h → (i : ℕ) → i < length (next_of r h)
    → way_on (row_of r h) i ≡ way_from r [] (h ++ slice_index (next_of r h) i ∷ [])
way_behind r laws h play i l =
    sym (way_push r [] h (slice_index (next_of r h) i)
    ∙ ap (λ (k : ℕ). way_from r [] h ++ record { at = node_of r h; index = k } ∷ []) (place_is (next_of r h) i (next_rises r laws h play) l))

row_at_append : (rows more : List Row) (row : Row) → row_at (rows ++ row ∷ more) (length rows) ≡ row
row_at_append [] more row = refl
row_at_append (x ∷ rows) more row = row_at_append rows more row

-- the row that was added before stands where it was added
pub row_there : (r : Rules) (h : List ℕ) (rows old more : List Row) (k : ℕ) → rows ≡ old ++ row_of r h ∷ more → k ≡ length old → row_at rows k ≡ row_of r h
row_there r h rows old more k e at =
    ap (λ (all : List Row). row_at all k) e ∙ ap (λ (n : ℕ). row_at (old ++ row_of r h ∷ more) n) at ∙ row_at_append old more (row_of r h)

pub numbers_there : (r : Rules) (h : List ℕ) (rows old more : List Row) (k : ℕ) → rows ≡ old ++ row_of r h ∷ more → k ≡ length old → (row_at rows k).here.numbers ≡ next_of r h
numbers_there r h rows old more k e at = ap (λ (row : Row). row.here.numbers) (row_there r h rows old more k e at)

-- and is the parent's
pub parent_way : (r : Rules) → IsLawful r → (h : List ℕ) → IsPlay r h → (i : ℕ) → i < length (next_of r h) → (rows old more : List Row) (k : ℕ)
    → rows ≡ old ++ row_of r h ∷ more → k ≡ length old → way_on (row_at rows k) i ≡ way_from r [] (h ++ slice_index (next_of r h) i ∷ [])
parent_way r laws h play i l rows old more k e at =
    ap (λ (row : Row). way_on row i) (row_there r h rows old more k e at) ∙ way_behind r laws h play i l

-- ---- a node is that of its place
pub mover_below : (n : ℕ) (place : Place) → IsAmongPlayers n place → IsMoverBelow n place
mover_below n End among = tt
mover_below n Chance among = tt
mover_below n (Move p) among = among
mover_below n (Joint p) among = tt

pub shown_info : (place : Place) (info : ℕ → List ℕ) → shown place (info_at place info) ≡ info_at place info
shown_info End info = refl
shown_info Chance info = refl
shown_info (Move p) info = refl
shown_info (Joint p) info = refl

-- ---- all histories
-- with no number left to tell, nobody is next
pub none_next : (r : Rules) → IsLawful r → (h : List ℕ) → IsPlay r h → 4096 ≤ length h → (xs : List ℕ) → next_of r h ≡ xs → xs ≡ []
none_next r laws h play l [] e = refl
none_next r laws h play l (x ∷ xs) e =
    let c : Contains (next_of r h) x = subst (λ (ys : List ℕ). Contains ys x) (sym e) (Contains-get_or (x ∷ xs) 0 0 (omega arith)) in
    absurd (omega (arith, laws.limits.short (h ++ x ∷ []) (IsPlay-more r h x play c), length_push h x))

unfold_by : (r : Rules) → IsLawful r → (h : List ℕ) → IsPlay r h → (k : ℕ) → 4096 - length h ≡ k
    → below (next_of r) k h ≡ h ∷ flat_map (λ a. histories_from r (h ++ a ∷ [])) (next_of r h)
unfolding histories_from
unfold_by r laws h play zero e =
    sym (ap (λ (xs : List ℕ). h ∷ flat_map (λ a. histories_from r (h ++ a ∷ [])) xs) (none_next r laws h play (omega arith) (next_of r h) refl))
unfold_by r laws h play (suc k) e =
    let same : (a : ℕ) → 4096 - length (h ++ a ∷ []) ≡ k = λ a. omega (arith, length_push h a) in
    ap (λ (f : ℕ → List (List ℕ)). h ∷ flat_map f (next_of r h)) (fun_ext (λ a. ap (λ n. below (next_of r) n (h ++ a ∷ [])) (sym (same a))))

-- a history, and then those that go on from it by each number
histories-unfold : (r : Rules) → IsLawful r → (h : List ℕ) → IsPlay r h
    → histories_from r h ≡ h ∷ flat_map (λ a. histories_from r (h ++ a ∷ [])) (next_of r h)
unfolding histories_from
histories-unfold r laws h play = unfold_by r laws h play (4096 - length h) refl

pub rows-unfold : (r : Rules) → IsLawful r → (h : List ℕ) → IsPlay r h
    → rows_from r h ≡ map (row_of r) (h ∷ flat_map (λ a. histories_from r (h ++ a ∷ [])) (next_of r h))
rows-unfold r laws h play = ap (λ (hs : List (List ℕ)). map (row_of r) hs) (histories-unfold r laws h play)

pub some_row : (r : Rules) → IsLawful r → (h : List ℕ) → IsPlay r h → 0 < length (rows_from r h)
some_row r laws h play = rw (rows-unfold r laws h play) (omega arith)

map_length : {X Y : Type 0} (f : X → Y) (xs : List X) → length (map f xs) ≡ length xs
map_length f [] = refl
map_length f (x ∷ xs) = ap suc (map_length f xs)

-- the piece of one number and those before it are at most all
flat_within : {X : Type 0} (f : ℕ → List X) (xs : List ℕ) (i : ℕ) → i < length xs → length (flat_map f (take i xs)) + length (f (slice_index xs i)) ≤ length (flat_map f xs)
flat_within f [] i l = absurd (omega arith)
flat_within f (x ∷ xs) zero l = omega (arith, length-append (f x) (flat_map f xs))
flat_within f (x ∷ xs) (suc i) l =
    omega (arith, length-append (f x) (flat_map f xs), length-append (f x) (flat_map f (take i xs)), flat_within f xs i (omega arith))

-- the rows so far and those of the next number are at most all
pub rows_within : (r : Rules) → IsLawful r → (h : List ℕ) → IsPlay r h → (old : List Row) (i : ℕ) → i < length (next_of r h)
    → length (old ++ map (row_of r) (h ∷ flat_map (λ a. histories_from r (h ++ a ∷ [])) (take i (next_of r h)))) + length (rows_from r (h ++ slice_index (next_of r h) i ∷ []))
    ≤ length old + length (rows_from r h)
rows_within r laws h play old i l =
    let f : ℕ → List (List ℕ) = λ a. histories_from r (h ++ a ∷ []) in
    rw (rows-unfold r laws h play)
    (omega (
      arith,
      length-append old (map (row_of r) (h ∷ flat_map f (take i (next_of r h)))),
      map_length (row_of r) (flat_map f (take i (next_of r h))),
      map_length (row_of r) (flat_map f (next_of r h)),
      map_length (row_of r) (f (slice_index (next_of r h) i)),
      flat_within f (next_of r h) i l,
    ))
