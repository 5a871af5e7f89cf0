-- The tree of a game has perfect recall, one list of numbers for each information state, and nobody who chooses at once with others.
use Rattle.std.proofs.Common.{◌≡◌, ℕ, zero, suc, ◌+◌, ◌-◌, ◌<◌, List, [], ◌∷◌, ◌++◌, length, map, Some, None, ap, sym, subst, ◌∙◌, arith}
use Rattle.std.specs.Prelude.{slice_index}
use Rattle.spiel_api.specs.declared.place.Place.{Place}
use Rattle.spiel_api.specs.declared.place.Place.TheVariants.{Joint}
use Rattle.spiel_api.specs.Place.{IsOutside}
use Rattle.spiel_api.specs.Rules.{Rules, next_of}
use Rattle.spiel_api.specs.Plays.{IsPlay}
use Rattle.spiel_api.specs.Laws.{IsLawful}
use Rattle.spiel_tree.specs.Histories.{below, histories_from}
use Rattle.spiel_tree.specs.Rows.{Row, row_of, rows}
use Rattle.spiel_tree.specs.Flat.{row_at}
use Rattle.spiel_tree.specs.States.{first_row}
use Rattle.spiel_tree.specs.Faults.{fault_by, own_past}
use Rattle.spiel_tree.specs.PerfectRecall.{AreOfOneState, HasPerfectRecall}
use Rattle.spiel_tree.specs.Trees.{IsGameTree, Whole}
use Rattle.spiel_tree.specs.declared.faults.Fault.TheVariants.{Simultaneous}
use Rattle.spiel_tree.proofs.Children.{first_below, history_at}
use Rattle.spiel_tree.proofs.Decisions.{like_first}
use Rattle.spiel_tree.proofs.Parents.{parent_below}
use Rattle.spiel_tree.proofs.TreeLaws.{play_at}

-- ---- two rows of one information state
-- at both the player made the same own choices before
pub tree_recall : (tree : Whole) → IsGameTree tree → (p k l : ℕ) → AreOfOneState tree.rows p k l → own_past p (row_at tree.rows k).way ≡ own_past p (row_at tree.rows l).way
tree_recall tree game p k l are =
    sym (like_first tree.rows k p game.faultless are.within are.moves).past
    ∙ ap (λ (info : List ℕ). own_past p (row_at tree.rows (first_row p info tree.rows)).way) are.info
    ∙ (like_first tree.rows l p game.faultless are.other_within are.other_moves).past

-- and has the same numbers
pub tree_actions : (tree : Whole) → IsGameTree tree → (p k l : ℕ) → AreOfOneState tree.rows p k l → (row_at tree.rows k).here.numbers ≡ (row_at tree.rows l).here.numbers
tree_actions tree game p k l are =
    sym (like_first tree.rows k p game.faultless are.within are.moves).numbers
    ∙ ap (λ (info : List ℕ). (row_at tree.rows (first_row p info tree.rows)).here.numbers) are.info
    ∙ (like_first tree.rows l p game.faultless are.other_within are.other_moves).numbers

-- ---- nobody chooses at once with others
-- a row at which a player chooses at once with others, as one before it
pub record ChoosesBefore (rows : List Row) (k p : ℕ) : Type 0 where
  pub row : ℕ
  pub before : row < k
  pub place : (row_at rows row).here.place ≡ Joint p

-- a later player chooses only behind the player before
joint_before : (r : Rules) → IsLawful r → (n k p : ℕ) → k < length (map (row_of r) (below (next_of r) n [])) → (row_at (map (row_of r) (below (next_of r) n [])) k).here.place ≡ Joint (p + 1)
    → ChoosesBefore (map (row_of r) (below (next_of r) n [])) k p
joint_before r laws n zero p l e =
    let root : row_at (map (row_of r) (below (next_of r) n [])) 0 ≡ row_of r [] = (play_at r n 0 l).row ∙ ap (row_of r) (first_below (next_of r) n []).1 in
    let inside : p + 1 ≡ 0 = subst IsOutside (ap (λ (row : Row). row.here.place) (sym root) ∙ e) laws.joint.begins in
    absurd (omega (arith, inside))
joint_before r laws n (suc k) p l e =
    let hs = below (next_of r) n [] in
    let at = play_at r n (suc k) l in
    let parent = parent_below (next_of r) n [] (suc k) (omega arith) at.within in
    let above = play_at r n parent.place (omega (arith, parent.before, l)) in
    let g = history_at hs parent.place in
    let a = slice_index (next_of r g) parent.index in
    let play : IsPlay r (g ++ a ∷ []) = subst (IsPlay r) parent.is at.play in
    let there : r.place (g ++ a ∷ []) ≡ Joint (p + 1) = ap r.place (sym parent.is) ∙ ap (λ (row : Row). row.here.place) (sym at.row) ∙ e in
    record {
      row = parent.place;
      before = parent.before;
      place = ap (λ (row : Row). row.here.place) above.row ∙ laws.joint.enters g a p play there;
    }

rows_joint_before : (r : Rules) → IsLawful r → (k p : ℕ) → k < length (rows r) → (row_at (rows r) k).here.place ≡ Joint (p + 1) → ChoosesBefore (rows r) k p
unfolding histories_from
rows_joint_before r laws = joint_before r laws (4096 - length {A = ℕ} [])

tree_joint_before : (tree : Whole) → IsGameTree tree → (k p : ℕ) → k < length tree.rows → (row_at tree.rows k).here.place ≡ Joint (p + 1) → ChoosesBefore tree.rows k p
tree_joint_before tree game =
    subst (λ (t : Whole). (k p : ℕ) → k < length t.rows → (row_at t.rows k).here.place ≡ Joint (p + 1) → ChoosesBefore t.rows k p) (sym game.is) (rows_joint_before game.rules game.lawful)

-- nobody begins, so nobody goes on
pub no_joint : (tree : Whole) → IsGameTree tree → (k p : ℕ) → k < length tree.rows → (row_at tree.rows k).here.place ≡ Joint p → ⊥
no_joint tree game k zero l e =
    let fault : Some (Simultaneous k) ≡ None = ap (λ (place : Place). fault_by tree.rows k (row_at tree.rows k) place) (sym e) ∙ game.faultless k l in
    (cc)
no_joint tree game k (suc p) l e =
    let next : Joint (suc p) ≡ Joint (p + 1) = ap Joint (omega arith) in
    let begun = tree_joint_before tree game k p l (e ∙ next) in
    no_joint tree game begun.row p (omega (arith, begun.before, l)) begun.place

pub tree_has_recall : (tree : Whole) → IsGameTree tree → HasPerfectRecall tree.rows
tree_has_recall tree game = record { recall = tree_recall tree game; actions = tree_actions tree game; turns = no_joint tree game }
