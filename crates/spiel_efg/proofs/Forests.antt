-- Forests: how many trees a list can be, and what waits for them.
use Rattle.std.proofs.Common.{◌≡◌, ℕ, zero, suc, ◌+◌, ◌-◌, ◌<◌, ◌≤◌, Bool, true, false, List, [], ◌∷◌, ◌++◌, length, drop, take, get_or, replicate, reverse, refl, sym, ap, ◌∙◌, arith, nat_lt, add-one}
use Rattle.std.proofs.lemmas.Bool.{false≢true, le-leb, lt-leb, ltb-true, ltb-false}
use Rattle.std.proofs.lemmas.List.{length-replicate, length-append, reverse-append, length-drop, replicate_more, take_all, drop_all}
use Rattle.std.proofs.Math.Seq.{drop-cons}
use Rattle.spiel_efg.specs.Places.{children_from, roots}
use Rattle.spiel_efg.specs.Tree.{are_shallow, is_forest, most_moves}

-- the list from a place on begins with what stands there
pub rest_is : {X : Type 0} (xs : List X) (k : ℕ) (d : X) → k < length xs → drop k xs ≡ get_or xs k d ∷ drop (k + 1) xs
rest_is xs k d l = drop-cons xs k d l ∙ ap (λ n. get_or xs k d ∷ drop n xs) (sym (add-one k))

-- ---- how many trees
pub forest_short : (k : ℕ) (counts : List ℕ) → length counts < k → is_forest k counts ≡ false
forest_short zero counts l = absurd (omega arith)
forest_short (suc k) [] l = refl
forest_short (suc k) (count ∷ counts) l = forest_short (count + k) counts (omega arith)

pub forest_room : (k : ℕ) (counts : List ℕ) → is_forest k counts ≡ true → k ≤ length counts
forest_room k counts e = by (nat_lt (length counts) k) refl
  where
    by : (b : Bool) → nat_lt (length counts) k ≡ b → k ≤ length counts
    by true t = absurd (false≢true (sym (forest_short k counts (ltb-true (length counts) k t)) ∙ e))
    by false t = ltb-false (length counts) k t

pub forest_none : (count : ℕ) (counts : List ℕ) → is_forest 0 (count ∷ counts) ≡ false
forest_none count counts = refl

pub forest_step : (k count : ℕ) (counts : List ℕ) → 0 < k → is_forest k (count ∷ counts) ≡ is_forest (k - 1 + count) counts
forest_step zero count counts l = absurd (omega arith)
forest_step (suc k) count counts l = ap (λ n. is_forest n counts) (omega arith)

pub forest_many : (k count n : ℕ) (counts : List ℕ) → 0 < k → k ≤ n + 1 → n + 1 - k < count → length counts ≤ n → is_forest k (count ∷ counts) ≡ false
forest_many k count n counts some few many short = forest_step k count counts some ∙ forest_short (k - 1 + count) counts (omega arith)

-- ---- from a place on
pub forest_none_at : (k i : ℕ) (counts : List ℕ) → k ≡ 0 → i < length counts → is_forest k (drop i counts) ≡ false
forest_none_at k i counts e l = rw (e, rest_is counts i 0 l) refl

pub forest_many_at : (k i : ℕ) (counts : List ℕ) → 0 < k → k ≤ length counts + 1 → i < length counts → length counts + 1 - k < get_or counts i 0 → is_forest k (drop i counts) ≡ false
forest_many_at k i counts some few l many =
    ap (λ xs. is_forest k xs) (rest_is counts i 0 l)
    ∙ forest_many k (get_or counts i 0) (length counts) (drop (i + 1) counts) some few many (omega (arith, length-drop (i + 1) counts))

pub forest_step_at : (k i : ℕ) (counts : List ℕ) → 0 < k → i < length counts → is_forest k (drop i counts) ≡ is_forest (k - 1 + get_or counts i 0) (drop (i + 1) counts)
forest_step_at k i counts some l = ap (λ xs. is_forest k xs) (rest_is counts i 0 l) ∙ forest_step k (get_or counts i 0) (drop (i + 1) counts) some

-- ---- what waits
pub put_front : {X : Type 0} (xs : List X) (x : X) (n count : ℕ) → n ≡ length xs + count → reverse (take n xs ++ replicate (n - length xs) x) ≡ replicate count x ++ reverse xs
put_front xs x n count e =
    let whole : take n xs ≡ xs = take_all n xs (omega arith) in
    let left : n - length xs ≡ count = omega arith in
    rw (whole, left) (reverse-append xs (replicate count x) ∙ ap (λ ys. ys ++ reverse xs) (turned count x))
  where
    turned : {X : Type 0} (count : ℕ) (x : X) → reverse (replicate count x) ≡ replicate count x
    turned zero x = refl
    turned (suc count) x = reverse-append (x ∷ []) (replicate count x) ∙ ap (λ ys. ys ++ x ∷ []) (turned count x) ∙ replicate_more count x ∙ ap (λ n. replicate n x) (add-one count)

-- a tree that waits takes its count's place
pub waiting_step : (waiting left : List ℕ) (depth i : ℕ) (counts : List ℕ) → waiting ≡ depth ∷ left → i < length counts → is_forest (length waiting) (drop i counts) ≡ true
    → is_forest (length (replicate (get_or counts i 0) (depth + 1) ++ left)) (drop (i + 1) counts) ≡ true
waiting_step waiting left depth i counts e l trees =
    let count : ℕ = get_or counts i 0 in
    let long : length waiting ≡ length left + 1 = ap length e ∙ sym (add-one (length left)) in
    let more : length (replicate count (depth + 1) ++ left) ≡ length waiting - 1 + count = omega (arith, long, length-append (replicate count (depth + 1)) left, length-replicate count (depth + 1)) in
    rw more (sym (forest_step_at (length waiting) i counts (omega arith) l) ∙ trees)

pub waiting_room : (waiting left : List ℕ) (depth i : ℕ) (counts : List ℕ) → waiting ≡ depth ∷ left → i < length counts → is_forest (length waiting) (drop i counts) ≡ true
    → length left + get_or counts i 0 ≤ length counts
waiting_room waiting left depth i counts e l trees =
    let long : length waiting ≡ length left + 1 = ap length e ∙ sym (add-one (length left)) in
    let room = forest_room (length waiting - 1 + get_or counts i 0) (drop (i + 1) counts) (sym (forest_step_at (length waiting) i counts (omega arith) l) ∙ trees) in
    omega (arith, long, room, length-drop (i + 1) counts)

pub deep_at : (waiting left : List ℕ) (depth i : ℕ) (counts : List ℕ) → waiting ≡ depth ∷ left → i < length counts → most_moves < depth → are_shallow waiting (drop i counts) ≡ false
deep_at waiting left depth i counts e l deep = rw (e, rest_is counts i 0 l, lt-leb depth most_moves deep) refl

pub shallow_at : (waiting left : List ℕ) (depth i : ℕ) (counts : List ℕ) → waiting ≡ depth ∷ left → i < length counts → depth ≤ most_moves
    → are_shallow waiting (drop i counts) ≡ are_shallow (replicate (get_or counts i 0) (depth + 1) ++ left) (drop (i + 1) counts)
shallow_at waiting left depth i counts e l low = rw (e, rest_is counts i 0 l, le-leb depth most_moves low) refl

pub shallow_end : (waiting : List ℕ) (i : ℕ) (counts : List ℕ) → length counts ≤ i → are_shallow waiting (drop i counts) ≡ true
shallow_end waiting i counts l = ap (λ xs. are_shallow waiting xs) (drop_all i counts l) ∙ by waiting
  where
    by : (waiting : List ℕ) → are_shallow waiting [] ≡ true
    by [] = refl
    by (depth ∷ left) = refl

pub shallow_none : (waiting counts : List ℕ) → waiting ≡ [] → are_shallow waiting counts ≡ true
shallow_none waiting counts e = rw e refl

-- ---- roots
pub taken_more : (xs : List ℕ) (k x : ℕ) (left : List ℕ) → drop k xs ≡ x ∷ left → (take (k + 1) xs ≡ take k xs ++ x ∷ []) × (left ≡ drop (k + 1) xs)
taken_more [] zero x left e = absurd cc
taken_more [] (suc k) x left e = absurd cc
taken_more (y ∷ xs) zero x left e = let same : y ≡ x = cc in let rest : xs ≡ left = cc in (rw same refl, sym rest)
taken_more (y ∷ xs) (suc k) x left e =
    let next : suc k + 1 ≡ suc (k + 1) = omega arith in
    let later = taken_more xs k x left e in
    rw next (ap (λ zs. y ∷ zs) later.0, later.1)

pub none_left : (xs : List ℕ) (k count : ℕ) → drop k xs ≡ [] → k ≤ count → (take k xs ≡ take count xs) × (drop count xs ≡ [])
none_left xs k count e l =
    let short : length xs ≤ k = omega (arith, length-drop k xs, ap length e) in
    (take_all k xs short ∙ sym (take_all count xs (omega arith)), drop_all count xs (omega arith))

pub roots_short : (place : ℕ) (counts : List ℕ) → length (roots place counts) ≤ length counts
roots_short place [] = omega arith
roots_short place (count ∷ counts) = omega (arith, roots_short (place + 1) counts, length-drop count (roots (place + 1) counts))

pub roots_at : (counts : List ℕ) (k : ℕ) → k < length counts → roots k (drop k counts) ≡ k ∷ drop (get_or counts k 0) (roots (k + 1) (drop (k + 1) counts))
roots_at counts k l = ap (λ xs. roots k xs) (rest_is counts k 0 l)

pub children_at : (counts : List ℕ) (k : ℕ) → k < length counts → children_from k (drop k counts) ≡ take (get_or counts k 0) (roots (k + 1) (drop (k + 1) counts)) ∷ children_from (k + 1) (drop (k + 1) counts)
children_at counts k l = ap (λ xs. children_from k xs) (rest_is counts k 0 l)

pub put_is : {X : Type 0} (xs : List X) (x : X) (ys : List X) (count len : ℕ) → ys ≡ xs → length ys ≡ len → reverse (take (length ys + count) xs ++ replicate (length ys + count - len) x) ≡ replicate count x ++ reverse xs
put_is xs x ys count len e f = rw (← f, e) (put_front xs x (length xs + count) count refl)
