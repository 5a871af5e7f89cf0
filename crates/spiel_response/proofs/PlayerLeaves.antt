-- The leaves of a game's tree, as one player sees them: the player remembers the own choices.
use Rattle.std.proofs.Common.{◌≡◌, ℕ, zero, suc, ◌<◌, Bool, true, false, cond, List, [], ◌∷◌, length, map, get_or, refl, ap, sym, subst, arith}
use Rattle.std.specs.Prelude.{Contains, IsTrue}
use Rattle.std.specs.List.{AllByRecursion}
use Rattle.spiel_tree.specs.Rows.{Row}
use Rattle.spiel_tree.specs.Flat.{row_at}
use Rattle.spiel_tree.proofs.StateNumbers.{one_player_more}
use Rattle.spiel_response.specs.Reach.{is_end, leaves}
use Rattle.spiel_response.specs.Values.{Judged}
use Rattle.spiel_response.specs.Weighed.{IsJudgeable}
use Rattle.spiel_response.specs.Responses.{Leaf}
use Rattle.spiel_response.specs.Remembered.{IsPlayersLeaves, IsRising, passes, past}
use Rattle.spiel_response.specs.BestResponses.{count_at, first_state, own_leaf, player_leaves}
use Rattle.spiel_response.proofs.OwnSteps.{IsAt, one_past, past_at, rising_row}

-- what holds at each row holds at each leaf
pub each_leaf : {X : Type 0} (P : X → Type 0) (f : Row → X) (rows : List Row) → ((k : ℕ) → k < length rows → P (f (row_at rows k))) → AllByRecursion P (map f (leaves rows))
each_leaf P f [] each = tt
each_leaf P f (row ∷ rows) each = by (is_end row.here.place) (each_leaf P f rows (λ k l. each (suc k) (omega arith)))
  where
    by : (b : Bool) → AllByRecursion P (map f (leaves rows)) → AllByRecursion P (map f (cond b (row ∷ leaves rows) (leaves rows)))
    by true more = (each 0 (omega arith), more)
    by false more = more

pub of_contained : {X : Type 0} (P : X → Type 0) (xs : List X) (x : X) → AllByRecursion P xs → Contains xs x → P x
of_contained {X} P xs x all c = at xs c.0 all c.1 c.2
  where
    at : (ys : List X) (k : ℕ) → AllByRecursion P ys → k < length ys → get_or ys k x ≡ x → P x
    at [] k all l e = absurd (omega arith)
    at (y ∷ ys) zero all l e = subst P e all.0
    at (y ∷ ys) (suc k) all l e = at ys k all.1 (omega arith) e

-- a leaf is that of a row
pub record IsLeafAt (j : Judged) (p : ℕ) (leaf : Leaf) : Type 0 where
  pub row : ℕ
  pub within : row < length j.tree.rows
  pub is : own_leaf j p (row_at j.tree.rows row) ≡ leaf

pub leaf_at : (j : Judged) (p : ℕ) → AllByRecursion (IsLeafAt j p) (player_leaves j p)
leaf_at j p = each_leaf (IsLeafAt j p) (own_leaf j p) j.tree.rows (λ k l. record { row = k; within = l; is = refl })

pub past_there : (j : Judged) → IsJudgeable j → (p i : ℕ) (leaf : Leaf) → Contains (player_leaves j p) leaf → IsTrue (passes i leaf.steps) → IsAt j.tree.rows p i (past i leaf.steps)
past_there j ok p i leaf c h =
    let at = of_contained (IsLeafAt j p) (player_leaves j p) leaf (leaf_at j p) c in
    let same = ap (λ (z : Leaf). z.steps) at.is in
    subst (λ s. IsAt j.tree.rows p i (past i s)) same (past_at j.tree ok.game p i at.row at.within (subst (λ s. passes i s ≡ true) (sym same) h))

pub players_leaves : (j : Judged) → IsJudgeable j → (p : ℕ) → IsPlayersLeaves (player_leaves j p) (count_at j) (first_state j p) (first_state j (suc p))
players_leaves j ok p = record {
  ordered = omega (arith, one_player_more p j.tree.rows);
  rising = each_leaf (λ z. IsRising (count_at j) (first_state j p) (first_state j (suc p)) z.steps) (own_leaf j p) j.tree.rows (λ k l. rising_row j.tree ok.game p k l);
  recall = λ i x y c d g h. one_past j.tree ok.game p i (past i x.steps) (past i y.steps) (past_there j ok p i x c g) (past_there j ok p i y d h);
}
