-- The rows that go on from a row stand right behind it, those by one number behind those by another.
use Rattle.std.proofs.Common.{◌≡◌, ℕ, zero, suc, ◌+◌, ◌-◌, ◌<◌, ◌≤◌, List, [], ◌∷◌, ◌++◌, length, map, take, drop, refl, ap, sym, subst, ◌∙◌, arith, length-append, append_assoc}
use Rattle.std.specs.Prelude.{slice_index, if◌then◌else◌}
use Rattle.std.specs.List.{flat_map}
use Rattle.std.proofs.Math.Seq.{drop-append-add}
use Rattle.std.proofs.lemmas.Bool.{lt-ltb, le-ltb}
use Rattle.std.proofs.lemmas.List.{append-nil, length_push, length-map, map-append, take_all}
use Rattle.std.proofs.lemmas.List.Elements.{Contains-get_or}
use Rattle.spiel_api.specs.Rules.{Rules, next_of}
use Rattle.spiel_api.specs.Plays.{IsPlay}
use Rattle.spiel_api.specs.Laws.{IsLawful}
use Rattle.spiel_api.proofs.PlayLemmas.{IsPlay-more, IsPlay-nil}
use Rattle.spiel_tree.specs.Histories.{below, histories_from}
use Rattle.spiel_tree.specs.Rows.{Row, row_of, rows, way_on}
use Rattle.spiel_tree.specs.Flat.{row_at}
use Rattle.spiel_tree.specs.Subtrees.{IsChild, child_at, deeper, end_of}
use Rattle.spiel_tree.specs.Trees.{Whole, IsGameTree}
use Rattle.spiel_tree.proofs.Children.{in_piece}
use Rattle.spiel_tree.proofs.TreeLaws.{way_length}
use Rattle.spiel_tree.proofs.Ways.{none_next, way_behind}

-- ---- deep rows and those behind them
abbrev AreDeeper : ℕ → List Row → Type 0
AreDeeper d [] = Unit {0}
AreDeeper d (row ∷ rest) = (d < length row.way) × AreDeeper d rest

-- the first of these isn't deeper
abbrev IsShallow : ℕ → List Row → Type 0
IsShallow d [] = Unit {0}
IsShallow d (row ∷ rest) = length row.way ≤ d

deeper_join : (d : ℕ) (xs ys : List Row) → AreDeeper d xs → AreDeeper d ys → AreDeeper d (xs ++ ys)
deeper_join d [] ys a b = b
deeper_join d (x ∷ xs) ys a b = (a.0, deeper_join d xs ys a.1 b)

deeper_none : (d : ℕ) (after : List Row) → IsShallow d after → deeper d after ≡ 0
deeper_none d [] s = refl
deeper_none d (row ∷ rest) s = ap (λ b. if b then suc (deeper d rest) else 0) (le-ltb d (length row.way) s)

deeper_all : (d : ℕ) (xs after : List Row) → AreDeeper d xs → IsShallow d after → deeper d (xs ++ after) ≡ length xs
deeper_all d [] after a s = deeper_none d after s
deeper_all d (x ∷ xs) after a s = ap (λ b. if b then suc (deeper d (xs ++ after)) else 0) (lt-ltb d (length x.way) a.0) ∙ ap suc (deeper_all d xs after a.1 s)

shallow_more : (d e : ℕ) (after : List Row) → d ≤ e → IsShallow d after → IsShallow e after
shallow_more d e [] l s = tt
shallow_more d e (row ∷ rest) l s = omega (arith, l, s)

module _ (r : Rules) where
  row_length : (h : List ℕ) → length (row_of r h).way ≡ length h
  row_length h = way_length r [] h

  -- the histories behind one by each of some numbers
  abbrev pieces : ℕ → List ℕ → List ℕ → List Row
  pieces n h xs = map (row_of r) (flat_map (λ a. below (next_of r) n (h ++ a ∷ [])) xs)

  pieces-cons : (n : ℕ) (h : List ℕ) (x : ℕ) (xs : List ℕ) → pieces n h (x ∷ xs) ≡ map (row_of r) (below (next_of r) n (h ++ x ∷ [])) ++ pieces n h xs
  pieces-cons n h x xs = map-append (row_of r) (below (next_of r) n (h ++ x ∷ [])) (flat_map (λ a. below (next_of r) n (h ++ a ∷ [])) xs)

  -- those by the numbers before one, by it, and by the others
  pieces_split : (n : ℕ) (h xs : List ℕ) (i : ℕ) → i < length xs
      → pieces n h xs ≡ pieces n h (take i xs) ++ (map (row_of r) (below (next_of r) n (h ++ slice_index xs i ∷ [])) ++ pieces n h (drop (suc i) xs))
  pieces_split n h [] i l = absurd (omega arith)
  pieces_split n h (x ∷ xs) zero l = pieces-cons n h x xs
  pieces_split n h (x ∷ xs) (suc i) l =
      let first = map (row_of r) (below (next_of r) n (h ++ x ∷ [])) in
      pieces-cons n h x xs ∙ ap (λ (more : List Row). first ++ more) (pieces_split n h xs i (omega arith))
      ∙ sym (append_assoc first (pieces n h (take i xs)) _)
      ∙ ap (λ (front : List Row). front ++ (map (row_of r) (below (next_of r) n (h ++ slice_index xs i ∷ [])) ++ pieces n h (drop (suc i) xs))) (sym (pieces-cons n h x (take i xs)))

  -- one number more
  pieces_longer : (n : ℕ) (h xs : List ℕ) (i : ℕ) → i < length xs
      → length (pieces n h (take (suc i) xs)) ≡ length (pieces n h (take i xs)) + length (map (row_of r) (below (next_of r) n (h ++ slice_index xs i ∷ [])))
  pieces_longer n h [] i l = absurd (omega arith)
  pieces_longer n h (x ∷ xs) zero l = ap length (pieces-cons n h x []) ∙ length-append (map (row_of r) (below (next_of r) n (h ++ x ∷ []))) [] ∙ omega arith
  pieces_longer n h (x ∷ xs) (suc i) l =
      let first = map (row_of r) (below (next_of r) n (h ++ x ∷ [])) in
      omega (
        arith,
        ap length (pieces-cons n h x (take (suc i) xs)),
        ap length (pieces-cons n h x (take i xs)),
        length-append first (pieces n h (take (suc i) xs)),
        length-append first (pieces n h (take i xs)),
        pieces_longer n h xs i (omega arith),
      )

  each_deeper : (d n : ℕ) (h xs : List ℕ) → ((x : ℕ) → AreDeeper d (map (row_of r) (below (next_of r) n (h ++ x ∷ [])))) → AreDeeper d (pieces n h xs)
  each_deeper d n h [] each = tt
  each_deeper d n h (x ∷ xs) each =
      subst (AreDeeper d) (sym (pieces-cons n h x xs)) (deeper_join d (map (row_of r) (below (next_of r) n (h ++ x ∷ []))) (pieces n h xs) (each x) (each_deeper d n h xs each))

  -- all that go on from a history are at least as deep
  below_deeper : (d n : ℕ) (h : List ℕ) → d < length h → AreDeeper d (map (row_of r) (below (next_of r) n h))
  below_deeper d zero h l = (omega (arith, l, row_length h), tt)
  below_deeper d (suc n) h l = (omega (arith, l, row_length h), each_deeper d n h (next_of r h) (λ x. below_deeper d n (h ++ x ∷ []) (omega (arith, l, length_push h x))))

  -- the first of those by some numbers is one step deeper
  shallow_pieces : (n : ℕ) (h xs : List ℕ) (after : List Row) → IsShallow (suc (length h)) after → IsShallow (suc (length h)) (pieces n h xs ++ after)
  shallow_pieces n h [] after s = s
  shallow_pieces zero h (x ∷ xs) after s = omega (arith, row_length (h ++ x ∷ []), length_push h x)
  shallow_pieces (suc n) h (x ∷ xs) after s = omega (arith, row_length (h ++ x ∷ []), length_push h x)

  -- ---- where the rows of a history begin
  record StartsAt (all : List Row) (k n : ℕ) (h : List ℕ) : Type 0 where
    play : IsPlay r h
    before : List Row
    after : List Row
    split : all ≡ before ++ (map (row_of r) (below (next_of r) n h) ++ after)
    count : length before ≡ k
    shallow : IsShallow (length h) after

  head_there : (before : List Row) (n : ℕ) (h : List ℕ) (after : List Row) → row_at (before ++ (map (row_of r) (below (next_of r) n h) ++ after)) (length before) ≡ row_of r h
  head_there [] zero h after = refl
  head_there [] (suc n) h after = refl
  head_there (row ∷ before) n h after = head_there before n h after

  row_is : (all : List Row) (k n : ℕ) (h : List ℕ) → StartsAt all k n h → row_at all k ≡ row_of r h
  row_is all k n h at = ap (λ (rows : List Row). row_at rows k) at.split ∙ ap (row_at (at.before ++ (map (row_of r) (below (next_of r) n h) ++ at.after))) (sym at.count) ∙ head_there at.before n h at.after

  starts_within : (all : List Row) (k n : ℕ) (h : List ℕ) → StartsAt all k n h → k < length all
  starts_within all k zero h at = omega (arith, at.count, ap length at.split, length-append at.before (row_of r h ∷ at.after))
  starts_within all k (suc n) h at =
      let split : all ≡ at.before ++ (row_of r h ∷ (pieces n h (next_of r h) ++ at.after)) = at.split in
      omega (arith, at.count, ap length split, length-append at.before (row_of r h ∷ (pieces n h (next_of r h) ++ at.after)))

  -- the rows of a history end before the first that isn't deeper
  ends_by : (all : List Row) (k n : ℕ) (h : List ℕ) → StartsAt all k n h → (tail : List Row) → map (row_of r) (below (next_of r) n h) ≡ row_of r h ∷ tail → AreDeeper (length h) tail
      → end_of all k ≡ k + length (map (row_of r) (below (next_of r) n h))
  ends_by all k n h at tail is deep =
      let split : all ≡ at.before ++ (row_of r h ∷ (tail ++ at.after)) = at.split ∙ ap (λ (rows : List Row). at.before ++ (rows ++ at.after)) is in
      let one : suc k ≡ length at.before + 1 = omega (arith, at.count) in
      let dropped : drop (suc k) all ≡ tail ++ at.after = ap (λ (rows : List Row). drop (suc k) rows) split ∙ ap (λ (m : ℕ). drop m (at.before ++ (row_of r h ∷ (tail ++ at.after)))) one ∙ drop-append-add at.before (row_of r h ∷ (tail ++ at.after)) 1 in
      let depth : length (row_at all k).way ≡ length h = ap (λ (row : Row). length row.way) (row_is all k n h at) ∙ row_length h in
      let run : deeper (length (row_at all k).way) (drop (suc k) all) ≡ length tail = ap (λ (d : ℕ). deeper d (drop (suc k) all)) depth ∙ ap (deeper (length h)) dropped ∙ deeper_all (length h) tail at.after deep at.shallow in
      omega (arith, run, ap length is)

  ends : (all : List Row) (k n : ℕ) (h : List ℕ) → StartsAt all k n h → end_of all k ≡ k + length (map (row_of r) (below (next_of r) n h))
  ends all k zero h at = ends_by all k zero h at [] refl tt
  ends all k (suc n) h at = ends_by all k (suc n) h at (pieces n h (next_of r h)) refl (each_deeper (length h) n h (next_of r h) (λ x. below_deeper (length h) n (h ++ x ∷ []) (omega (arith, length_push h x))))

  -- the rows behind a history by one of its numbers
  down : (all : List Row) (k n : ℕ) (h : List ℕ) → StartsAt all k (suc n) h → (i : ℕ) → i < length (next_of r h)
      → StartsAt all (suc (k + length (pieces n h (take i (next_of r h))))) n (h ++ slice_index (next_of r h) i ∷ [])
  down all k n h at i l =
      let xs = next_of r h in
      let x = slice_index xs i in
      let first = pieces n h (take i xs) in
      let own = map (row_of r) (below (next_of r) n (h ++ x ∷ [])) in
      let rest = pieces n h (drop (suc i) xs) in
      let split : all ≡ at.before ++ (row_of r h ∷ (pieces n h xs ++ at.after)) = at.split in
      record {
        play = IsPlay-more r h x at.play (Contains-get_or xs i 0 l);
        before = at.before ++ (row_of r h ∷ first);
        after = rest ++ at.after;
        split = split
            ∙ ap (λ (more : List Row). at.before ++ (row_of r h ∷ (more ++ at.after))) (pieces_split n h xs i l)
            ∙ ap (λ (more : List Row). at.before ++ (row_of r h ∷ more)) (append_assoc first (own ++ rest) at.after ∙ ap (λ (more : List Row). first ++ more) (append_assoc own rest at.after))
            ∙ sym (append_assoc at.before (row_of r h ∷ first) (own ++ (rest ++ at.after)));
        count = omega (arith, at.count, length-append at.before (row_of r h ∷ first));
        shallow = shallow_more (suc (length h)) (length (h ++ x ∷ [])) (rest ++ at.after) (omega (arith, length_push h x))
            (shallow_pieces n h (drop (suc i) xs) at.after (shallow_more (length h) (suc (length h)) at.after (omega arith) at.shallow));
      }

  -- each row is that of some history, with the numbers that a play may still have
  record IsFound (all : List Row) (k most : ℕ) : Type 0 where
    left : ℕ
    history : List ℕ
    at : StartsAt all k left history
    same : left + length history ≡ most

  find : (all : List Row) (from n : ℕ) (h : List ℕ) → StartsAt all from n h → (k : ℕ) → k < length (below (next_of r) n h) → IsFound all (from + k) (n + length h)
  find all from zero h at zero l = record { left = 0; history = h; at = subst (λ m. StartsAt all m 0 h) (omega arith) at; same = refl }
  find all from zero h at (suc k) l = absurd (omega (arith, l))
  find all from (suc n) h at zero l = record { left = suc n; history = h; at = subst (λ m. StartsAt all m (suc n) h) (omega arith) at; same = refl }
  find all from (suc n) h at (suc k) l =
      let f : ℕ → List (List ℕ) = λ a. below (next_of r) n (h ++ a ∷ []) in
      let p = in_piece f (next_of r h) k (omega (arith, l)) in
      let x = slice_index (next_of r h) p.index in
      let start = suc (from + length (pieces n h (take p.index (next_of r h)))) in
      let found = find all start n (h ++ x ∷ []) (down all from n h at p.index p.index_within) p.place p.within in
      record {
        left = found.left;
        history = found.history;
        at = subst (λ m. StartsAt all m found.left found.history) (omega (arith, p.is, length-map (flat_map f (take p.index (next_of r h))) (row_of r))) found.at;
        same = omega (arith, found.same, length_push h x);
      }

  -- where those by each number begin
  child_place : (all : List Row) (k n : ℕ) (h : List ℕ) → StartsAt all k (suc n) h → (i : ℕ) → i ≤ length (next_of r h) → child_at all k i ≡ suc (k + length (pieces n h (take i (next_of r h))))
  child_place all k n h at zero l = omega arith
  child_place all k n h at (suc i) l =
      let xs = next_of r h in
      let within : i < length xs = omega (arith, l) in
      ap (end_of all) (child_place all k n h at i (omega (arith, l)))
      ∙ ends all (suc (k + length (pieces n h (take i xs)))) n (h ++ slice_index xs i ∷ []) (down all k n h at i within)
      ∙ omega (arith, pieces_longer n h xs i within)

  -- ---- in a list of all plays
  -- the rows of all histories
  abbrev all_rows : ℕ → List Row
  all_rows n = map (row_of r) (below (next_of r) n [])

  root : (n : ℕ) → StartsAt (all_rows n) 0 n []
  root n = record { play = IsPlay-nil r; before = []; after = []; split = sym (append-nil (all_rows n)); count = refl; shallow = tt }

  numbers_are : (all : List Row) (k n : ℕ) (h : List ℕ) → StartsAt all k n h → (row_at all k).here.numbers ≡ next_of r h
  numbers_are all k n h at = ap (λ (row : Row). row.here.numbers) (row_is all k n h at)

  -- a play that can have no number more has none next
  none_left : IsLawful r → (all : List Row) (k : ℕ) (h : List ℕ) → StartsAt all k 0 h → 4096 ≤ length h → (row_at all k).here.numbers ≡ []
  none_left laws all k h at long = numbers_are all k 0 h at ∙ none_next r laws h at.play long (next_of r h) refl

  child_by : IsLawful r → (all : List Row) (k n : ℕ) (h : List ℕ) → StartsAt all k n h → 4096 ≤ n + length h → (i : ℕ) → i < length (row_at all k).here.numbers → IsChild all k i (child_at all k i)
  child_by laws all k zero h at long i l = absurd (omega (arith, l, ap length (none_left laws all k h at (omega (arith, long)))))
  child_by laws all k (suc n) h at long i l =
      let within : i < length (next_of r h) = omega (arith, l, ap length (numbers_are all k (suc n) h at)) in
      let x = slice_index (next_of r h) i in
      let place = suc (k + length (pieces n h (take i (next_of r h)))) in
      let child = down all k n h at i within in
      subst (IsChild all k i) (sym (child_place all k n h at i (omega (arith, within))))
      (record {
        after = omega arith;
        within = starts_within all place n (h ++ x ∷ []) child;
        way = ap (λ (row : Row). row.way) (row_is all place n (h ++ x ∷ []) child) ∙ sym (way_behind r laws h at.play i within) ∙ ap (λ (row : Row). way_on row i) (sym (row_is all k (suc n) h at));
      })

  ends_by_last : IsLawful r → (all : List Row) (k n : ℕ) (h : List ℕ) → StartsAt all k n h → 4096 ≤ n + length h → child_at all k (length (row_at all k).here.numbers) ≡ end_of all k
  ends_by_last laws all k zero h at long =
      ap (child_at all k) (ap length (none_left laws all k h at (omega (arith, long)))) ∙ omega (arith, ends all k zero h at)
  ends_by_last laws all k (suc n) h at long =
      let xs = next_of r h in
      ap (child_at all k) (ap length (numbers_are all k (suc n) h at))
      ∙ child_place all k n h at (length xs) (omega arith)
      ∙ ap (λ (ys : List ℕ). suc (k + length (pieces n h ys))) (take_all (length xs) xs (omega arith))
      ∙ omega (arith, ends all k (suc n) h at)

  child_of_all : IsLawful r → (n : ℕ) → 4096 ≤ n → (k i : ℕ) → k < length (all_rows n) → i < length (row_at (all_rows n) k).here.numbers → IsChild (all_rows n) k i (child_at (all_rows n) k i)
  child_of_all laws n long k i l m =
      let found = find (all_rows n) 0 n [] (root n) k (omega (arith, l, length-map (below (next_of r) n []) (row_of r))) in
      let at : StartsAt (all_rows n) k found.left found.history = subst (λ m. StartsAt (all_rows n) m found.left found.history) (omega arith) found.at in
      child_by laws (all_rows n) k found.left found.history at (omega (arith, long, found.same)) i m

  end_of_all : IsLawful r → (n : ℕ) → 4096 ≤ n → (k : ℕ) → k < length (all_rows n) → child_at (all_rows n) k (length (row_at (all_rows n) k).here.numbers) ≡ end_of (all_rows n) k
  end_of_all laws n long k l =
      let found = find (all_rows n) 0 n [] (root n) k (omega (arith, l, length-map (below (next_of r) n []) (row_of r))) in
      let at : StartsAt (all_rows n) k found.left found.history = subst (λ m. StartsAt (all_rows n) m found.left found.history) (omega arith) found.at in
      ends_by_last laws (all_rows n) k found.left found.history at (omega (arith, long, found.same))

  root_of_all : (n : ℕ) → end_of (all_rows n) 0 ≡ length (all_rows n)
  root_of_all n = ends (all_rows n) 0 n [] (root n) ∙ omega arith

-- ---- in the tree of a game
rows_child : (r : Rules) → IsLawful r → (k i : ℕ) → k < length (rows r) → i < length (row_at (rows r) k).here.numbers → IsChild (rows r) k i (child_at (rows r) k i)
unfolding histories_from
rows_child r laws = child_of_all r laws (4096 - length {A = ℕ} []) (omega arith)

rows_end : (r : Rules) → IsLawful r → (k : ℕ) → k < length (rows r) → child_at (rows r) k (length (row_at (rows r) k).here.numbers) ≡ end_of (rows r) k
unfolding histories_from
rows_end r laws = end_of_all r laws (4096 - length {A = ℕ} []) (omega arith)

rows_root : (r : Rules) → end_of (rows r) 0 ≡ length (rows r)
unfolding histories_from
rows_root r = root_of_all r (4096 - length {A = ℕ} [])

-- each number of a row leads to the row at its place
pub child_there : (tree : Whole) → IsGameTree tree → (k i : ℕ) → k < length tree.rows → i < length (row_at tree.rows k).here.numbers → IsChild tree.rows k i (child_at tree.rows k i)
child_there tree game = subst (λ (t : Whole). (k i : ℕ) → k < length t.rows → i < length (row_at t.rows k).here.numbers → IsChild t.rows k i (child_at t.rows k i)) (sym game.is) (rows_child game.rules game.lawful)

-- the rows behind a row end behind those by its last number
pub children_end : (tree : Whole) → IsGameTree tree → (k : ℕ) → k < length tree.rows → child_at tree.rows k (length (row_at tree.rows k).here.numbers) ≡ end_of tree.rows k
children_end tree game = subst (λ (t : Whole). (k : ℕ) → k < length t.rows → child_at t.rows k (length (row_at t.rows k).here.numbers) ≡ end_of t.rows k) (sym game.is) (rows_end game.rules game.lawful)

-- all rows go on from the first
pub root_end : (tree : Whole) → IsGameTree tree → end_of tree.rows 0 ≡ length tree.rows
root_end tree game = subst (λ (t : Whole). end_of t.rows 0 ≡ length t.rows) (sym game.is) (rows_root game.rules)
