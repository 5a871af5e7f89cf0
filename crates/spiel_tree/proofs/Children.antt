-- The histories that go on from one by one number more, in preorder.
use Rattle.std.proofs.Common.{◌≡◌, ℕ, zero, suc, ◌+◌, ◌-◌, ◌<◌, ◌≤◌, Bool, true, false, nat_lt, ltb-true, ltb-false, List, [], ◌∷◌, ◌++◌, length, take, get_or, refl, ap, sym, subst, ◌∙◌, arith, length-append}
use Rattle.std.specs.Prelude.{slice_index}
use Rattle.std.specs.List.{flat_map}
use Rattle.std.proofs.lemmas.List.{length_push}
use Rattle.std.proofs.lemmas.List.Concat.{get_or-flat_map}
use Rattle.std.proofs.lemmas.List.Folds.{length-flat_map-take}
use Rattle.spiel_tree.specs.Histories.{below}

abbrev pub history_at : List (List ℕ) → ℕ → List ℕ
history_at hs k = get_or hs k []

-- ---- pieces
-- an item of joined pieces is one of one piece
pub record IsInPiece (f : ℕ → List (List ℕ)) (xs : List ℕ) (k : ℕ) : Type 0 where
  pub index : ℕ
  pub place : ℕ
  pub index_within : index < length xs
  pub within : place < length (f (slice_index xs index))
  pub is : k ≡ length (flat_map f (take index xs)) + place

pub in_piece : (f : ℕ → List (List ℕ)) (xs : List ℕ) (k : ℕ) → k < length (flat_map f xs) → IsInPiece f xs k
in_piece f [] k l = absurd (omega arith)
in_piece f (x ∷ xs) k l = by (nat_lt k (length (f x))) refl (λ m. in_piece f xs (k - length (f x)) m)
  where
    by : (b : Bool) → nat_lt k (length (f x)) ≡ b → (k - length (f x) < length (flat_map f xs) → IsInPiece f xs (k - length (f x))) → IsInPiece f (x ∷ xs) k
    by true e ih = record { index = 0; place = k; index_within = omega arith; within = ltb-true _ _ e; is = omega arith }
    by false e ih =
        let past : length (f x) ≤ k = ltb-false _ _ e in
        let p = ih (omega (arith, past, l, length-append (f x) (flat_map f xs))) in
        record {
          index = suc p.index;
          place = p.place;
          index_within = omega (arith, p.index_within);
          within = p.within;
          is = omega (arith, past, p.is, length-append (f x) (flat_map f (take p.index xs)));
        }

-- ---- children
-- the history at a place goes on, at a later place, by a number
pub record GoesOnBy (hs : List (List ℕ)) (k a : ℕ) : Type 0 where
  pub place : ℕ
  pub after : k < place
  pub within : place < length hs
  pub is : history_at hs place ≡ history_at hs k ++ a ∷ []

-- a history is first among those that go on from it
pub first_below : (next : List ℕ → List ℕ) (n : ℕ) (h : List ℕ) → (0 < length (below next n h)) × (history_at (below next n h) 0 ≡ h)
first_below next zero h = (omega arith, refl)
first_below next (suc n) h = (omega arith, refl)

-- a history that may have a number more goes on by each of its numbers
pub child_below : (next : List ℕ → List ℕ) (n : ℕ) (h : List ℕ) (k i : ℕ) → k < length (below next n h) → length (history_at (below next n h) k) < length h + n
    → i < length (next (history_at (below next n h) k)) → GoesOnBy (below next n h) k (slice_index (next (history_at (below next n h) k)) i)
child_below next zero h zero i l short legal = absurd (omega (arith, short))
child_below next zero h (suc k) i l short legal = absurd (omega (arith, l))
child_below next (suc n) h zero i l short legal =
    let f : ℕ → List (List ℕ) = λ a. below next n (h ++ a ∷ []) in
    let a = slice_index (next h) i in
    let start = length (flat_map f (take i (next h))) in
    let first = first_below next n (h ++ a ∷ []) in
    let zero_more : start + 0 ≡ start = omega arith in
    let at : history_at (flat_map f (next h)) (start + 0) ≡ history_at (f a) 0 = get_or-flat_map f (next h) i 0 0 [] legal first.0 in
    record {
      place = suc start;
      after = omega arith;
      within = omega (arith, first.0, length-flat_map-take f (next h) i 0 legal);
      is = ap (history_at (flat_map f (next h))) (sym zero_more) ∙ at ∙ first.1;
    }
child_below next (suc n) h (suc k) i l short legal =
    let f : ℕ → List (List ℕ) = λ a. below next n (h ++ a ∷ []) in
    let p = in_piece f (next h) k (omega (arith, l)) in
    let x = slice_index (next h) p.index in
    let start = length (flat_map f (take p.index (next h))) in
    let same : history_at (flat_map f (next h)) k ≡ history_at (f x) p.place =
    ap (history_at (flat_map f (next h))) p.is ∙ get_or-flat_map f (next h) p.index p.place 0 [] p.index_within p.within in
    let child : GoesOnBy (f x) p.place (slice_index (next (history_at (f x) p.place)) i) =
    child_below next n (h ++ x ∷ []) p.place i p.within
    (omega (arith, short, ap length same, length_push h x))
    (subst (λ (g : List ℕ). i < length (next g)) same legal) in
    record {
      place = suc (start + child.place);
      after = omega (arith, p.is, child.after);
      within = omega (arith, child.within, length-flat_map-take f (next h) p.index 0 p.index_within);
      is = get_or-flat_map f (next h) p.index child.place 0 [] p.index_within child.within ∙ child.is
          ∙ ap (λ (g : List ℕ). g ++ slice_index (next g) i ∷ []) (sym same);
    }
