-- From a row of a tree to those that go on from it by one number more.
use Rattle.std.proofs.Common.{◌≡◌, ℕ, suc, ◌+◌, ◌*◌, ◌/◌, ◌<◌, ◌≤◌, true, false, List, [], ◌∷◌, ◌++◌, length, Option, None, refl, ap, ap₂, sym, subst, ◌∙◌, arith}
use Rattle.std.proofs.lemmas.Bool.{cond-true, cond-false}
use Rattle.std.proofs.Math.Nat.{le_of_dvd}
use Rattle.spiel_tree.specs.Rows.{Row, Step, way_on}
use Rattle.spiel_tree.specs.Flat.{moves, row_at}
use Rattle.spiel_tree.specs.States.{state_number}
use Rattle.spiel_tree.specs.Trees.{IsParent, last_index}
use Rattle.spiel_tree.specs.Subtrees.{IsChild, child_at, end_of}
use Rattle.spiel_tree.proofs.OfGame.{tree_some}
use Rattle.spiel_tree.proofs.Subtrees.{child_there, children_end, root_end}
use Rattle.spiel_response.specs.Reach.{is_left_out, reach, scale_of, total_of, totals_to, weight_by}
use Rattle.spiel_response.specs.Values.{Judged}
use Rattle.spiel_response.specs.Weighed.{IsJudgeable, scale_before, share_of}
use Rattle.spiel_response.specs.SlotTable.{own_slot, slot_start}
use Rattle.spiel_response.proofs.Leaves.{scale_all}
use Rattle.spiel_response.proofs.OwnSlots.{child_past, child_step}
use Rattle.spiel_response.proofs.Passing.{child_totals, reach_past, reach_step}
use Rattle.spiel_response.proofs.Products.{scale_is_least, totals_divide}

last_pushed : (way : List Step) (step : Step) → last_index (way ++ step ∷ []) ≡ step.index
last_pushed [] step = refl
last_pushed (a ∷ []) step = refl
last_pushed (a ∷ b ∷ way) step = last_pushed (b ∷ way) step

-- what a row's number at an index leads to
pub record IsBelow (j : Judged) (k i child : ℕ) : Type 0 where
  pub within : child < length j.tree.rows
  pub parent : IsParent j.tree.rows k child
  pub index : last_index (row_at j.tree.rows child).way ≡ i

pub below : (j : Judged) → IsJudgeable j → (k i child : ℕ) → k < length j.tree.rows → i < length (row_at j.tree.rows k).here.numbers → child ≡ child_at j.tree.rows k i → IsBelow j k i child
below j ok k i child l m e =
    let rows = j.tree.rows in
    let is : IsChild rows k i child = subst (IsChild rows k i) (sym e) (child_there j.tree ok.game k i l m) in
    let last : last_index (row_at rows child).way ≡ i = ap last_index is.way ∙ last_pushed (row_at rows k).way (record { at = (row_at rows k).here; index = i }) in
    record {
      within = is.within;
      parent = record { before = is.after; way = is.way ∙ ap (way_on (row_at rows k)) (sym last); index = omega (arith, last, m) };
      index = last;
    }

-- the first stands next to the row, each other behind all that go on from the one before
pub first_child : (rows : List Row) (k : ℕ) → k + 1 ≡ child_at rows k 0
first_child rows k = omega arith

pub next_child : (rows : List Row) (k i : ℕ) → end_of rows (child_at rows k i) ≡ child_at rows k (i + 1)
next_child rows k i = ap (child_at rows k) (let next : suc i ≡ i + 1 = omega arith in next)

-- behind the last one all that go on from the row are passed
pub last_child : (j : Judged) → IsJudgeable j → (k n : ℕ) → k < length j.tree.rows → n ≡ length (row_at j.tree.rows k).here.numbers → child_at j.tree.rows k n ≡ end_of j.tree.rows k
last_child j ok k n l e = ap (child_at j.tree.rows k) e ∙ children_end j.tree ok.game k l

-- behind a row from which none goes on nothing else is passed
pub no_child : (j : Judged) → IsJudgeable j → (k n : ℕ) → k < length j.tree.rows → n ≡ length (row_at j.tree.rows k).here.numbers → n ≡ 0 → k + 1 ≡ end_of j.tree.rows k
no_child j ok k n l e none = first_child j.tree.rows k ∙ ap (child_at j.tree.rows k) (sym none) ∙ last_child j ok k n l e

pub whole_end : (j : Judged) → IsJudgeable j → end_of j.tree.rows 0 ≡ length j.tree.rows
whole_end j ok = root_end j.tree ok.game

-- a row's product and total make the product of those below it, which the scale is a multiple of
pub product_below : (j : Judged) → IsJudgeable j → (k i child : ℕ) → k < length j.tree.rows → i < length (row_at j.tree.rows k).here.numbers → child ≡ child_at j.tree.rows k i
    → totals_to j.tree.rows j.profile None (row_at j.tree.rows k) * total_of j.tree.rows j.profile (row_at j.tree.rows k).here ≡ totals_to j.tree.rows j.profile None (row_at j.tree.rows child)
product_below j ok k i child l m e = sym (child_totals j j.tree.rows k child refl (below j ok k i child l m e).parent)

pub product_below_small : (j : Judged) → IsJudgeable j → (k : ℕ) → k < length j.tree.rows → 0 < length (row_at j.tree.rows k).here.numbers
    → totals_to j.tree.rows j.profile None (row_at j.tree.rows k) * total_of j.tree.rows j.profile (row_at j.tree.rows k).here ≤ scale_of j.tree.rows j.profile
product_below_small j ok k l m =
    let child = child_at j.tree.rows k 0 in
    let small : totals_to j.tree.rows j.profile None (row_at j.tree.rows child) ≤ scale_of j.tree.rows j.profile =
    le_of_dvd (scale_is_least j ok).positive (totals_divide j ok None child (below j ok k 0 child l m refl).within) in
    omega (arith, small, product_below j ok k 0 child l m refl)

-- ---- reach weights
-- a row's reach weight over its total
pub share_left : (j : Judged) (left : Option ℕ) (row : Row) (reached : ℕ) → reached ≡ reach j.tree.rows j.profile left row → is_left_out left row.here.place ≡ true → reached ≡ share_of j left row
share_left j left row reached e out = e ∙ sym (cond-true (is_left_out left row.here.place) (reach j.tree.rows j.profile left row) (reach j.tree.rows j.profile left row / total_of j.tree.rows j.profile row.here) out)

pub share_taken : (j : Judged) (left : Option ℕ) (row : Row) (reached total : ℕ) → reached ≡ reach j.tree.rows j.profile left row → total ≡ total_of j.tree.rows j.profile row.here → is_left_out left row.here.place ≡ false
    → reached / total ≡ share_of j left row
share_taken j left row reached total e t kept =
    ap₂ (λ (x y : ℕ). x / y) e t
    ∙ sym (cond-false (is_left_out left row.here.place) (reach j.tree.rows j.profile left row) (reach j.tree.rows j.profile left row / total_of j.tree.rows j.profile row.here) kept)

-- the reach weight of what is behind it by a number
pub left_below : (j : Judged) → IsJudgeable j → (left : Option ℕ) (k i share : ℕ) → k < length j.tree.rows → i < length (row_at j.tree.rows k).here.numbers → share ≡ share_of j left (row_at j.tree.rows k)
    → is_left_out left (row_at j.tree.rows k).here.place ≡ true → share ≡ reach j.tree.rows j.profile left (row_at j.tree.rows (child_at j.tree.rows k i))
left_below j ok left k i share l m e out =
    let row = row_at j.tree.rows k in
    let child = child_at j.tree.rows k i in
    e ∙ cond-true (is_left_out left row.here.place) (reach j.tree.rows j.profile left row) (reach j.tree.rows j.profile left row / total_of j.tree.rows j.profile row.here) out
    ∙ reach_past j j.tree.rows left k child refl (below j ok k i child l m refl).parent out

pub taken_below : (j : Judged) → IsJudgeable j → (left : Option ℕ) (k i share weight : ℕ) → k < length j.tree.rows → i < length (row_at j.tree.rows k).here.numbers → share ≡ share_of j left (row_at j.tree.rows k)
    → weight ≡ weight_by j.tree.rows j.profile (row_at j.tree.rows k).here i (row_at j.tree.rows k).here.place
    → is_left_out left (row_at j.tree.rows k).here.place ≡ false → share * weight ≡ reach j.tree.rows j.profile left (row_at j.tree.rows (child_at j.tree.rows k i))
taken_below j ok left k i share weight l m e w kept =
    let row = row_at j.tree.rows k in
    let child = child_at j.tree.rows k i in
    let at = below j ok k i child l m refl in
    let reached = reach j.tree.rows j.profile left row in
    let total = total_of j.tree.rows j.profile row.here in
    ap (λ (n : ℕ). n * weight) (e ∙ cond-false (is_left_out left row.here.place) reached (reached / total) kept)
    ∙ reach_step j ok j.tree.rows left k child weight total reached refl at.within at.parent kept refl (w ∙ ap (λ (n : ℕ). weight_by j.tree.rows j.profile row.here n row.here.place) (sym at.index)) refl

-- ---- own slots
pub slot_past : (j : Judged) → IsJudgeable j → (p k i above : ℕ) → k < length j.tree.rows → i < length (row_at j.tree.rows k).here.numbers → above ≡ own_slot j p (row_at j.tree.rows k)
    → moves p (row_at j.tree.rows k).here.place ≡ false → above ≡ own_slot j p (row_at j.tree.rows (child_at j.tree.rows k i))
slot_past j ok p k i above l m e other =
    let child = child_at j.tree.rows k i in
    e ∙ child_past j p k child (below j ok k i child l m refl).parent other

pub slot_taken : (j : Judged) → IsJudgeable j → (p k i start : ℕ) → k < length j.tree.rows → i < length (row_at j.tree.rows k).here.numbers → start ≡ slot_start j (state_number j.tree.rows p (row_at j.tree.rows k).here.info)
    → moves p (row_at j.tree.rows k).here.place ≡ true → start + i ≡ own_slot j p (row_at j.tree.rows (child_at j.tree.rows k i))
slot_taken j ok p k i start l m e mine =
    let child = child_at j.tree.rows k i in
    let at = below j ok k i child l m refl in
    ap₂ (λ (x y : ℕ). x + y) e (sym at.index) ∙ child_step j p k child at.parent mine

-- ---- from the first row
pub some_rows : (j : Judged) → IsJudgeable j → 0 < length j.tree.rows
some_rows j ok = tree_some j.tree ok.game

pub scale_whole : (j : Judged) → IsJudgeable j → scale_before j (end_of j.tree.rows 0) ≡ scale_of j.tree.rows j.profile
scale_whole j ok = scale_all j (end_of j.tree.rows 0) (omega (arith, whole_end j ok))
