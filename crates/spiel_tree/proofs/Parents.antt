-- Each history but the first goes on from an earlier one.
use Rattle.std.proofs.Common.{◌≡◌, ℕ, zero, suc, ◌+◌, ◌-◌, ◌<◌, List, [], ◌∷◌, ◌++◌, length, map, take, refl, ap, sym, subst, ◌∙◌, arith}
use Rattle.std.specs.Prelude.{slice_index}
use Rattle.std.specs.List.{flat_map}
use Rattle.std.proofs.lemmas.List.Concat.{get_or-flat_map}
use Rattle.spiel_api.specs.Rules.{Rules, next_of}
use Rattle.spiel_api.specs.Laws.{IsLawful}
use Rattle.spiel_tree.specs.Histories.{below, histories_from}
use Rattle.spiel_tree.specs.Rows.{Row, row_of, rows, way_from, way_on}
use Rattle.spiel_tree.specs.Flat.{row_at}
use Rattle.spiel_tree.specs.Closed.{GoesFrom}
use Rattle.spiel_tree.specs.Trees.{IsGameTree, Whole}
use Rattle.spiel_tree.proofs.Children.{first_below, history_at, in_piece}
use Rattle.spiel_tree.proofs.TreeLaws.{play_at}
use Rattle.spiel_tree.proofs.Ways.{way_behind}

-- the history at a place goes on from that at an earlier place, by one of its numbers
pub record ComesFrom (next : List ℕ → List ℕ) (hs : List (List ℕ)) (k : ℕ) : Type 0 where
  pub place : ℕ
  pub index : ℕ
  pub before : place < k
  pub legal : index < length (next (history_at hs place))
  pub is : history_at hs k ≡ history_at hs place ++ slice_index (next (history_at hs place)) index ∷ []

pub parent_below : (next : List ℕ → List ℕ) (n : ℕ) (h : List ℕ) (k : ℕ) → 0 < k → k < length (below next n h) → ComesFrom next (below next n h) k
parent_below next zero h k p l = absurd (omega (arith, p, l))
parent_below next (suc n) h zero p l = absurd (omega (arith, p))
parent_below next (suc n) h (suc k) p l =
    let f : ℕ → List (List ℕ) = λ a. below next n (h ++ a ∷ []) in
    let piece = in_piece f (next h) k (omega (arith, l)) in
    let x = slice_index (next h) piece.index in
    let start = length (flat_map f (take piece.index (next h))) in
    let at : (m : ℕ) → m < length (f x) → history_at (flat_map f (next h)) (start + m) ≡ history_at (f x) m = λ m w. get_or-flat_map f (next h) piece.index m 0 [] piece.index_within w in
    by piece.place piece.index piece.index_within piece.within piece.is at (λ m q w. parent_below next n (h ++ x ∷ []) m q w)
  where
    f : ℕ → List (List ℕ)
    f a = below next n (h ++ a ∷ [])

    all : List (List ℕ)
    all = h ∷ flat_map f (next h)

    by : (m i : ℕ) → i < length (next h) → m < length (f (slice_index (next h) i)) → k ≡ length (flat_map f (take i (next h))) + m
        → ((o : ℕ) → o < length (f (slice_index (next h) i)) → history_at (flat_map f (next h)) (length (flat_map f (take i (next h))) + o) ≡ history_at (f (slice_index (next h) i)) o)
        → ((o : ℕ) → 0 < o → o < length (f (slice_index (next h) i)) → ComesFrom next (f (slice_index (next h) i)) o)
        → ComesFrom next all (suc k)
    by zero i legal w e at above = record {
      place = 0;
      index = i;
      before = omega arith;
      legal = legal;
      is = ap (history_at (flat_map f (next h))) e ∙ at 0 w ∙ (first_below next n (h ++ slice_index (next h) i ∷ [])).1;
    }
    by (suc m) i legal w e at above =
        let start = length (flat_map f (take i (next h))) in
        let parent = above (suc m) (omega arith) w in
        let there : history_at (flat_map f (next h)) (start + parent.place) ≡ history_at (f (slice_index (next h) i)) parent.place = at parent.place (omega (arith, parent.before, w)) in
        record {
          place = suc (start + parent.place);
          index = parent.index;
          before = omega (arith, parent.before, e);
          legal = subst (λ (g : List ℕ). parent.index < length (next g)) (sym there) parent.legal;
          is = ap (history_at (flat_map f (next h))) e ∙ at (suc m) w ∙ parent.is ∙ ap (λ (g : List ℕ). g ++ slice_index (next g) parent.index ∷ []) (sym there);
        }

-- so do the rows
goes_from : (r : Rules) → IsLawful r → (n k : ℕ) → 0 < k → k < length (map (row_of r) (below (next_of r) n [])) → GoesFrom (map (row_of r) (below (next_of r) n [])) k
goes_from r laws n k p l =
    let hs = below (next_of r) n [] in
    let at = play_at r n k l in
    let parent = parent_below (next_of r) n [] k p at.within in
    let above = play_at r n parent.place (omega (arith, parent.before, l)) in
    record {
      parent = parent.place;
      index = parent.index;
      before = parent.before;
      legal = subst (λ (row : Row). parent.index < length row.here.numbers) (sym above.row) parent.legal;
      way = ap (λ (row : Row). row.way) at.row ∙ ap (way_from r []) parent.is ∙ sym (way_behind r laws (history_at hs parent.place) above.play parent.index parent.legal)
          ∙ ap (λ (row : Row). way_on row parent.index) (sym above.row);
    }

rows_go_from : (r : Rules) → IsLawful r → (k : ℕ) → 0 < k → k < length (rows r) → GoesFrom (rows r) k
unfolding histories_from
rows_go_from r laws = goes_from r laws (4096 - length {A = ℕ} [])

-- each row of the tree of a game but the first goes on from an earlier one
pub tree_goes_from : (tree : Whole) → IsGameTree tree → (k : ℕ) → 0 < k → k < length tree.rows → GoesFrom tree.rows k
tree_goes_from tree game = subst (λ (t : Whole). (k : ℕ) → 0 < k → k < length t.rows → GoesFrom t.rows k) (sym game.is) (rows_go_from game.rules game.lawful)

-- nothing leads to the first row
root_by : (r : Rules) (n : ℕ) → (row_at (map (row_of r) (below (next_of r) n [])) 0).way ≡ []
root_by r zero = refl
root_by r (suc n) = refl

root_of : (r : Rules) → (row_at (rows r) 0).way ≡ []
unfolding histories_from
root_of r = root_by r (4096 - length {A = ℕ} [])

pub tree_root : (tree : Whole) → IsGameTree tree → (row_at tree.rows 0).way ≡ []
tree_root tree game = subst (λ (t : Whole). (row_at t.rows 0).way ≡ []) (sym game.is) (root_of game.rules)
