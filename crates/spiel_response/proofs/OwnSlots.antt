-- The slots of a player: no other player has them, and the slot before an information state is the same at
-- all of its rows.
use Rattle.std.proofs.Common.{◌≡◌, ℕ, zero, suc, ◌+◌, ◌-◌, ◌<◌, ◌≤◌, inl, inr, Bool, true, false, cond, List, [], ◌∷◌, ◌++◌, length, refl, ap, sym, subst, ◌∙◌, arith, ltb, lt-ltb}
use Rattle.std.specs.Prelude.{IsTrue}
use Rattle.std.specs.List.{AllByRecursion}
use Rattle.std.specs.Str.{bytes_eq}
use Rattle.std.proofs.lemmas.Bool.{cond-true, false≢true}
use Rattle.std.proofs.lemmas.Slice.Eq.{bytes_eq-Decides}
use Rattle.spiel_tree.specs.FirstSeen.{place_of_text, text_at}
use Rattle.spiel_tree.specs.Rows.{Step}
use Rattle.spiel_tree.specs.Flat.{moves, row_at}
use Rattle.spiel_tree.specs.States.{InfoState, first_row, state_at, state_number, texts_seen}
use Rattle.spiel_tree.specs.Trees.{IsParent, last_index}
use Rattle.spiel_tree.proofs.FirstRows.{first_decides, first_row_there}
use Rattle.spiel_tree.proofs.Parents.{tree_root}
use Rattle.spiel_tree.proofs.StateCounts.{text_number}
use Rattle.spiel_tree.proofs.StateNumbers.{one_player_more, state_there}
use Rattle.spiel_response.specs.Values.{Judged}
use Rattle.spiel_response.specs.Weighed.{IsJudgeable}
use Rattle.spiel_response.specs.Responses.{OwnStep, sum_below}
use Rattle.spiel_response.specs.Remembered.{IsRising, passes}
use Rattle.spiel_response.specs.BestResponses.{count_at, first_state, own_steps, player_leaves}
use Rattle.spiel_response.specs.Slots.{AreStarts, IsOwnSlot, key, last_slot, slot_from}
use Rattle.spiel_response.specs.SlotTable.{IsParentSlot, own_slot, slot_count, slot_start, state_count}
use Rattle.spiel_response.proofs.BestResponses.{states_within}
use Rattle.spiel_response.proofs.Exchange.{all_contained, both_facts, every_leaf}
use Rattle.spiel_response.proofs.OwnSteps.{own_steps-on, rising_row, state_within, step_at, steps_below}
use Rattle.spiel_response.proofs.PlayerLeaves.{past_there, players_leaves}
use Rattle.spiel_response.proofs.SlotSteps.{last_is_slot, past_slot}
use Rattle.spiel_response.proofs.SlotSums.{slot_below, start_positive}

-- ---- the slots in order
sum_below_rises : (f : ℕ → ℕ) (a n : ℕ) → sum_below f a ≤ sum_below f (a + n)
sum_below_rises f a zero = let same : a ≡ a + 0 = omega arith in let e = ap (sum_below f) same in omega arith
sum_below_rises f a (suc n) =
    let ih = sum_below_rises f a n in
    let next : a + suc n ≡ suc (a + n) = omega arith in
    let e = ap (sum_below f) next in
    omega arith

pub starts_rise : (j : Judged) (a b : ℕ) → a ≤ b → slot_start j a ≤ slot_start j b
starts_rise j a b l =
    let rises = sum_below_rises (count_at j) a (b - a) in
    let end : a + (b - a) ≡ b = omega arith in
    let e = ap (sum_below (count_at j)) end in
    omega arith

pub starts_of : (j : Judged) (p : ℕ) → p < j.tree.players → AreStarts p (slot_start j) (count_at j) (first_state j p) (first_state j (suc p))
starts_of j p l = record { first = omega arith; next = λ i g m. omega arith }

-- ---- the slots of one player
own_from : (j : Judged) (p last low high : ℕ) (steps : List OwnStep) → first_state j p ≤ low → IsOwnSlot p (slot_start j) (first_state j p) last → IsRising (count_at j) low high steps
    → IsOwnSlot p (slot_start j) (first_state j p) (last_slot (slot_start j) last steps)
own_from j p last low high [] l o r = o
own_from j p last low high (s ∷ rest) l o r =
    let at = r.0 in
    own_from j p (key (slot_start j) s) (suc s.state) high rest (omega arith) (inr (let rises = starts_rise j (first_state j p) s.state (omega arith) in omega arith)) r.3

pub own_slot_own : (j : Judged) → IsJudgeable j → (p k : ℕ) → k < length j.tree.rows → IsOwnSlot p (slot_start j) (first_state j p) (own_slot j p (row_at j.tree.rows k))
own_slot_own j ok p k l = own_from j p p (first_state j p) (first_state j (suc p)) (own_steps j.tree.rows p (row_at j.tree.rows k).way) (omega arith) (inl refl) (rising_row j.tree ok.game p k l)

pub own_slot_below : (j : Judged) → IsJudgeable j → (p k : ℕ) → p < j.tree.players → k < length j.tree.rows → own_slot j p (row_at j.tree.rows k) < slot_start j (first_state j (suc p))
own_slot_below j ok p k m l =
    let steps = own_steps j.tree.rows p (row_at j.tree.rows k).way in
    let low = first_state j p in
    let high = first_state j (suc p) in
    let rising = rising_row j.tree ok.game p k l in
    let order = one_player_more p j.tree.rows in
    let some = start_positive p (slot_start j) (count_at j) low high high (starts_of j p m) (omega (arith, order)) (omega arith) in
    let below = slot_below p (slot_start j) (count_at j) low high high p low steps (starts_of j p m) rising (omega arith) (omega arith) some in
    subst (λ (n : ℕ). n < slot_start j high) (last_is_slot (slot_start j) (count_at j) p low high steps rising) below

pub own_slot_within : (j : Judged) → IsJudgeable j → (p k : ℕ) → p < j.tree.players → k < length j.tree.rows → own_slot j p (row_at j.tree.rows k) < slot_count j
own_slot_within j ok p k m l = omega (arith, own_slot_below j ok p k m l, starts_rise j (first_state j (suc p)) (state_count j) (states_within j p m))

-- ---- before an information state
-- where all states are below b the slot before b is the last
last_below : (start : ℕ → ℕ) (b last : ℕ) (steps : List OwnStep) → AllByRecursion (λ s. s.state < b) steps → slot_from start b last steps ≡ last_slot start last steps
last_below start b last [] h = refl
last_below start b last (s ∷ rest) h = cond-true (ltb s.state b) _ _ (lt-ltb s.state b h.0) ∙ last_below start b (key start s) rest h.1

-- the slot of a row of a state is below the state's
pub own_slot_before : (j : Judged) → IsJudgeable j → (p k : ℕ) → p < j.tree.players → k < length j.tree.rows → moves p (row_at j.tree.rows k).here.place ≡ true
    → own_slot j p (row_at j.tree.rows k) < slot_start j (state_number j.tree.rows p (row_at j.tree.rows k).here.info)
own_slot_before j ok p k m l e =
    let steps = own_steps j.tree.rows p (row_at j.tree.rows k).way in
    let low = first_state j p in
    let high = first_state j (suc p) in
    let i = state_number j.tree.rows p (row_at j.tree.rows k).here.info in
    let within : i < high = state_within j.tree.rows p k l e in
    let some = start_positive p (slot_start j) (count_at j) low high i (starts_of j p m) (omega arith) (omega (arith, within)) in
    let below = slot_below p (slot_start j) (count_at j) low high i p low steps (starts_of j p m) (rising_row j.tree ok.game p k l) (omega arith) (omega (arith, within)) some in
    subst (λ (n : ℕ). n < slot_start j i) (last_below (slot_start j) i p steps (steps_below j.tree ok.game p k l e)) below

-- each state is that of a row
both_true : (a b : Bool) → cond a b false ≡ true → (a ≡ true) × (b ≡ true)
both_true true b e = (refl, e)
both_true false b e = absurd (false≢true e)

pub record IsStateRow (j : Judged) (p i : ℕ) : Type 0 where
  pub row : ℕ
  pub within : row < length j.tree.rows
  pub moves : moves p (row_at j.tree.rows row).here.place ≡ true
  pub state : state_number j.tree.rows p (row_at j.tree.rows row).here.info ≡ i

pub state_row : (j : Judged) (p i : ℕ) → p < j.tree.players → first_state j p ≤ i → i < first_state j (suc p) → IsStateRow j p i
state_row j p i m from to =
    let rows = j.tree.rows in
    let n = i - first_state j p in
    let texts = texts_seen p rows in
    let few : n < length texts = omega (arith, one_player_more p rows, from, to) in
    let t = text_at texts n in
    let number : first_state j p + n ≡ i = omega (arith, from) in
    let is : state_at j.tree.players rows i ≡ record { player = p; text = t } = ap (state_at j.tree.players rows) (sym number) ∙ state_there j.tree.players p n rows m few in
    let f = first_row p t rows in
    let within : f < length rows =
    subst (λ (state : InfoState). first_row state.player state.text rows < length rows) is (first_row_there j.tree.players rows i (omega (arith, to, states_within j p m))) in
    let parts = both_true (moves p (row_at rows f).here.place) (bytes_eq t (row_at rows f).here.info) (first_decides p t rows within) in
    let text : t ≡ (row_at rows f).here.info = (bytes_eq-Decides t (row_at rows f).here.info).0 parts.1 in
    let place : place_of_text texts t ≡ n = (text_number p rows n few).first in
    record {
      row = f;
      within = within;
      moves = parts.0;
      state = ap (λ (u : List ℕ). state_number rows p u) (sym text) ∙ omega (arith, place, number);
    }

-- ---- parents
-- the slot before a state, for all leaves that pass it
pub parent_of : (j : Judged) → IsJudgeable j → (p i parent : ℕ) → IsParentSlot j p i parent
    → AllByRecursion (λ z. IsTrue (passes i z.steps) → slot_from (slot_start j) i p z.steps ≡ parent) (player_leaves j p)
parent_of j ok p i parent is =
    every_leaf _ _ (λ z h t.
    let at = past_there j ok p i z h.0 t in
    past_slot (slot_start j) (count_at j) i p (first_state j p) (first_state j (suc p)) z.steps h.1 t
    ∙ ap (last_slot (slot_start j) p) at.steps_are
    ∙ sym (is at.row at.within at.moves at.state)) (player_leaves j p)
    (both_facts _ _ (player_leaves j p) (all_contained (player_leaves j p)) (players_leaves j ok p).rising)

pub parent_before : (j : Judged) → IsJudgeable j → (p i parent : ℕ) → p < j.tree.players → IsParentSlot j p i parent → first_state j p ≤ i → i < first_state j (suc p)
    → (parent < slot_start j i) × IsOwnSlot p (slot_start j) (first_state j p) parent
parent_before j ok p i parent m is from to =
    let at = state_row j p i m from to in
    let same : own_slot j p (row_at j.tree.rows at.row) ≡ parent = sym (is at.row at.within at.moves at.state) in
    let before = own_slot_before j ok p at.row m at.within at.moves in (
      omega (arith, before, same, ap (slot_start j) at.state),
      subst (IsOwnSlot p (slot_start j) (first_state j p)) same (own_slot_own j ok p at.row at.within),
    )

-- ---- down the rows
last_slot-append : (start : ℕ → ℕ) (last : ℕ) (xs ys : List OwnStep) → last_slot start last (xs ++ ys) ≡ last_slot start (last_slot start last xs) ys
last_slot-append start last [] ys = refl
last_slot-append start last (s ∷ xs) ys = last_slot-append start (key start s) xs ys

slot_on : (j : Judged) (p parent k : ℕ) → IsParent j.tree.rows parent k → (b : Bool) → moves p (row_at j.tree.rows parent).here.place ≡ b
    → own_slot j p (row_at j.tree.rows k) ≡ last_slot (slot_start j) (own_slot j p (row_at j.tree.rows parent)) (cond b (step_at j.tree.rows p (row_at j.tree.rows parent) (last_index (row_at j.tree.rows k).way) ∷ []) [])
slot_on j p parent k is b e =
    let row = row_at j.tree.rows parent in
    let index = last_index (row_at j.tree.rows k).way in
    ap (λ (way : List Step). last_slot (slot_start j) p (own_steps j.tree.rows p way)) is.way
    ∙ ap (last_slot (slot_start j) p) (own_steps-on j.tree.rows p row index)
    ∙ last_slot-append (slot_start j) p (own_steps j.tree.rows p row.way) (cond (moves p row.here.place) (step_at j.tree.rows p row index ∷ []) [])
    ∙ ap (λ (c : Bool). last_slot (slot_start j) (own_slot j p row) (cond c (step_at j.tree.rows p row index ∷ []) [])) e

-- nobody's step but the player's changes the slot
pub child_past : (j : Judged) (p parent k : ℕ) → IsParent j.tree.rows parent k → moves p (row_at j.tree.rows parent).here.place ≡ false
    → own_slot j p (row_at j.tree.rows parent) ≡ own_slot j p (row_at j.tree.rows k)
child_past j p parent k is e = sym (slot_on j p parent k is false e)

pub child_step : (j : Judged) (p parent k : ℕ) → IsParent j.tree.rows parent k → moves p (row_at j.tree.rows parent).here.place ≡ true
    → slot_start j (state_number j.tree.rows p (row_at j.tree.rows parent).here.info) + last_index (row_at j.tree.rows k).way ≡ own_slot j p (row_at j.tree.rows k)
child_step j p parent k is e = sym (slot_on j p parent k is true e)

pub root_slot : (j : Judged) → IsJudgeable j → (p k : ℕ) → k ≡ 0 → p ≡ own_slot j p (row_at j.tree.rows k)
root_slot j ok p k e =
    sym (ap (λ (n : ℕ). own_slot j p (row_at j.tree.rows n)) e ∙ ap (λ (way : List Step). last_slot (slot_start j) p (own_steps j.tree.rows p way)) (tree_root j.tree ok.game))
