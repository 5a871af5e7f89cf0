-- Lists that stand one after another: one more of them, and the list at a place.
use Rattle.std.specs.Prelude.{slice_range, slice_index, slice_index_or}
use Rattle.std.proofs.Common.{◌≡◌, ℕ, zero, suc, ◌+◌, ◌-◌, ◌<◌, ◌≤◌, List, [], ◌∷◌, ◌++◌, length, take, drop, refl, ap, ap₂, ◌∙◌, arith, length-drop}
use Rattle.std.proofs.lemmas.List.{take-append-le, drop-append-le, drop_at, take_all}
use Rattle.spiel_frac.specs.Packed.{pieces, AreEnds}

-- as many lists as ends
pub count_of_pieces : {A : Type 0} (ends : List ℕ) (items : List A) (from : ℕ) → length (pieces from ends items) ≡ length ends
count_of_pieces [] items from = refl
count_of_pieces (end ∷ ends) items from = ap suc (count_of_pieces ends items end)

-- the ends come no earlier than where the lists begin, and no later than the last item
ends_within : (ends : List ℕ) (from count : ℕ) → AreEnds from ends count → from ≤ count
ends_within [] from count e = omega arith
ends_within (end ∷ ends) from count e = let l = e.0 in omega (arith, ends_within ends end count e.1)

-- one more list ends at the last of the items that are there then
pub ends_push : (ends : List ℕ) (from count end total : ℕ) → AreEnds from ends count → count ≤ end → end ≡ total → AreEnds from (ends ++ end ∷ []) total
ends_push [] from count end total are l e = (omega arith, e)
ends_push (first ∷ ends) from count end total are l e = (are.0, ends_push ends first count end total are.1 l e)

-- a part of the items that were there is a part of all
part_stays : {A : Type 0} (items list : List A) (from end : ℕ) → from ≤ end → end ≤ length items → slice_range (items ++ list) from end ≡ slice_range items from end
part_stays items list from end l m =
    ap (take (end - from)) (drop-append-le from items list (omega arith))
    ∙ take-append-le (end - from) (drop from items) list (omega (arith, length-drop from items))

-- the part behind the items that were there
part_behind : {A : Type 0} (items list : List A) (from end : ℕ) → from ≡ length items → end ≡ from + length list → slice_range (items ++ list) from end ≡ list
part_behind items list from end e f =
    let all : length list ≤ end - from = omega arith in
    ap (take (end - from)) (drop_at items list from (omega arith)) ∙ take_all (end - from) list all

-- one list more, when its items stand behind the others
pub pieces_push : {A : Type 0} (ends : List ℕ) (items list : List A) (from end : ℕ) → AreEnds from ends (length items) → end ≡ length items + length list
    → pieces from (ends ++ end ∷ []) (items ++ list) ≡ pieces from ends items ++ list ∷ []
pieces_push [] items list from end e f = ap (λ piece. piece ∷ []) (part_behind items list from end e (omega arith))
pieces_push (first ∷ ends) items list from end e f =
    ap₂ (λ piece rest. piece ∷ rest) (part_stays items list from first e.0 (ends_within ends first (length items) e.1)) (pieces_push ends items list first end e.1 f)

-- the list at a place begins where the one before it ends
pub pieces_at : {A : Type 0} (ends : List ℕ) (items : List A) (from k : ℕ) → k < length ends
    → slice_index_or (pieces from ends items) k [] ≡ slice_range items (slice_index (from ∷ ends) k) (slice_index ends k)
pieces_at [] items from k l = absurd (omega arith)
pieces_at (end ∷ ends) items from zero l = refl
pieces_at (end ∷ ends) items from (suc k) l = pieces_at ends items end k (omega arith)

-- no list ends before it begins
pub piece_rises : (ends : List ℕ) (from k count : ℕ) → AreEnds from ends count → k < length ends → slice_index (from ∷ ends) k ≤ slice_index ends k
piece_rises [] from k count e l = absurd (omega arith)
piece_rises (end ∷ ends) from zero count e l = e.0
piece_rises (end ∷ ends) from (suc k) count e l = piece_rises ends end k count e.1 (omega arith)

-- or past the items
pub piece_ends : (ends : List ℕ) (from k count : ℕ) → AreEnds from ends count → k < length ends → slice_index ends k ≤ count
piece_ends [] from k count e l = absurd (omega arith)
piece_ends (end ∷ ends) from zero count e l = ends_within ends end count e.1
piece_ends (end ∷ ends) from (suc k) count e l = piece_ends ends end k count e.1 (omega arith)
