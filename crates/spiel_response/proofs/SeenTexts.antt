-- Texts that are seen earlier have smaller numbers.
use Rattle.std.proofs.Common.{◌≡◌, ℕ, zero, suc, ◌<◌, ◌≤◌, ◌⊎◌, inl, inr, Bool, true, false, cond, List, [], ◌∷◌, ◌++◌, length, take, drop, refl, ap, sym, subst, ◌∙◌, arith, take-append-drop, eq-eqb, eqb-true}
use Rattle.std.specs.Str.{bytes_eq}
use Rattle.std.proofs.lemmas.Bool.{cases_lt, true≢false, false≢true}
use Rattle.std.proofs.lemmas.List.{get_or-take, length-take-le}
use Rattle.spiel_api.specs.declared.place.Place.{Place}
use Rattle.spiel_api.specs.declared.place.Place.TheVariants.{End, Chance, Move, Joint}
use Rattle.spiel_tree.specs.FirstSeen.{first_seen, place_of_text, with_text}
use Rattle.spiel_tree.specs.Rows.{Row}
use Rattle.spiel_tree.specs.Flat.{infos, moves, no_row, row_at}
use Rattle.spiel_tree.specs.States.{first_row, texts_seen}
use Rattle.spiel_tree.proofs.FirstSeen.{length-with_text, place_kept, place_same, place_within}

-- who moves at a place
pub move_is : (p : ℕ) (place : Place) → moves p place ≡ true → place ≡ Move p
move_is p End e = absurd (false≢true e)
move_is p Chance e = absurd (false≢true e)
move_is p (Move q) e = ap Move (sym (eqb-true p q e))
move_is p (Joint q) e = absurd (false≢true e)

pub moves_there : (p : ℕ) (place : Place) → place ≡ Move p → moves p place ≡ true
moves_there p place e = ap (moves p) e ∙ eq-eqb p p refl

-- ---- a text that was seen
-- keeps its place
pub seen_kept : (seen more : List (List ℕ)) (t : List ℕ) → place_of_text seen t < length seen → place_of_text (first_seen seen more) t ≡ place_of_text seen t
seen_kept seen [] t l = refl
seen_kept seen (x ∷ more) t l =
    let kept = place_kept seen x t l in
    seen_kept (with_text seen x) more t (omega (arith, l, kept, length-with_text seen x)) ∙ kept

pub seen_longer : (seen more : List (List ℕ)) → length seen ≤ length (first_seen seen more)
seen_longer seen [] = omega arith
seen_longer seen (x ∷ more) = omega (arith, length-with_text seen x, seen_longer (with_text seen x) more)

-- so has the text of each mover a place
pub seen_at : (p : ℕ) (seen : List (List ℕ)) (rows : List Row) (k : ℕ) → k < length rows → moves p (row_at rows k).here.place ≡ true
    → place_of_text (first_seen seen (infos p rows)) (row_at rows k).here.info < length (first_seen seen (infos p rows))
seen_at p seen [] k l e = absurd (omega arith)
seen_at p seen (row ∷ rows) zero l e = by (moves p row.here.place) e
  where
    info : List ℕ
    info = row.here.info

    by : (b : Bool) → b ≡ true → place_of_text (first_seen seen (cond b (info ∷ infos p rows) (infos p rows))) info < length (first_seen seen (cond b (info ∷ infos p rows) (infos p rows)))
    by true f =
        let within : place_of_text (with_text seen info) info < length (with_text seen info) = omega (arith, place_same seen info, place_within seen info) in
        omega (arith, within, seen_kept (with_text seen info) (infos p rows) info within, seen_longer (with_text seen info) (infos p rows))
    by false f = absurd (false≢true f)
seen_at p seen (row ∷ rows) (suc k) l e = by (moves p row.here.place) (λ more. seen_at p more rows k (omega arith) e)
  where
    info : List ℕ
    info = (row_at rows k).here.info

    by : (b : Bool) → ((more : List (List ℕ)) → place_of_text (first_seen more (infos p rows)) info < length (first_seen more (infos p rows)))
        → place_of_text (first_seen seen (cond b (row.here.info ∷ infos p rows) (infos p rows))) info < length (first_seen seen (cond b (row.here.info ∷ infos p rows) (infos p rows)))
    by true ih = ih (with_text seen row.here.info)
    by false ih = ih seen

-- ---- a text that wasn't seen
still_new : (seen : List (List ℕ)) (x t : List ℕ) → length seen ≤ place_of_text seen t → length seen ≤ place_of_text (with_text seen x) t
still_new [] x t l = omega arith
still_new (y ∷ seen) x t l = by (bytes_eq x y) (bytes_eq t y) l (still_new seen x t)
  where
    by : (b c : Bool) → suc (length seen) ≤ cond c 0 (suc (place_of_text seen t)) → (length seen ≤ place_of_text seen t → length seen ≤ place_of_text (with_text seen x) t)
        → suc (length seen) ≤ cond c 0 (suc (place_of_text (cond b seen (with_text seen x)) t))
    by b true l ih = absurd (omega arith)
    by true false l ih = l
    by false false l ih = let more = ih (omega arith) in omega arith

other_new : (seen : List (List ℕ)) (x t : List ℕ) → bytes_eq t x ≡ false → length seen ≤ place_of_text seen t → length (with_text seen x) ≤ place_of_text (with_text seen x) t
other_new [] x t e l = by (bytes_eq t x) e
  where
    by : (c : Bool) → c ≡ false → 1 ≤ cond c 0 1
    by true f = absurd (true≢false f)
    by false f = omega arith
other_new (y ∷ seen) x t e l = by (bytes_eq x y) (bytes_eq t y) l (other_new seen x t e)
  where
    by : (b c : Bool) → suc (length seen) ≤ cond c 0 (suc (place_of_text seen t)) → (length seen ≤ place_of_text seen t → length (with_text seen x) ≤ place_of_text (with_text seen x) t)
        → suc (length (cond b seen (with_text seen x))) ≤ cond c 0 (suc (place_of_text (cond b seen (with_text seen x)) t))
    by b true l ih = absurd (omega arith)
    by true false l ih = l
    by false false l ih = let more = ih (omega arith) in omega arith

-- comes behind all that were
new_later : (seen more : List (List ℕ)) (t : List ℕ) → length seen ≤ place_of_text seen t → length seen ≤ place_of_text (first_seen seen more) t
new_later seen [] t l = l
new_later seen (x ∷ more) t l = by (new_later (with_text seen x) more t) (cases_lt (place_of_text (with_text seen x) t) (length (with_text seen x)))
  where
    by : (length (with_text seen x) ≤ place_of_text (with_text seen x) t → length (with_text seen x) ≤ place_of_text (first_seen (with_text seen x) more) t)
        → (place_of_text (with_text seen x) t < length (with_text seen x)) ⊎ (length (with_text seen x) ≤ place_of_text (with_text seen x) t) → length seen ≤ place_of_text (first_seen (with_text seen x) more) t
    by ih (inl m) = omega (arith, still_new seen x t l, seen_kept (with_text seen x) more t m)
    by ih (inr m) = omega (arith, length-with_text seen x, ih m)

abbrev IsNew : List (List ℕ) → List ℕ → List (List ℕ) → Type 0
IsNew seen t texts = length (first_seen seen texts) ≤ place_of_text (first_seen seen texts) t

-- the text of an information state isn't seen before its first row
not_before : (p : ℕ) (t : List ℕ) (seen : List (List ℕ)) (rows : List Row) → length seen ≤ place_of_text seen t
    → length (first_seen seen (infos p (take (first_row p t rows) rows))) ≤ place_of_text (first_seen seen (infos p (take (first_row p t rows) rows))) t
not_before p t seen [] l = l
not_before p t seen (row ∷ rows) l = by (moves p row.here.place) (bytes_eq t row.here.info) refl refl (λ more m. not_before p t more rows m)
  where
    info : List ℕ
    info = row.here.info

    before : List (List ℕ)
    before = infos p (take (first_row p t rows) rows)

    by : (a b : Bool) → moves p row.here.place ≡ a → bytes_eq t info ≡ b → ((more : List (List ℕ)) → length more ≤ place_of_text more t → length (first_seen more before) ≤ place_of_text (first_seen more before) t)
        → IsNew seen t (infos p (take (cond (cond a b false) 0 (suc (first_row p t rows))) (row ∷ rows)))
    by true true f e ih = l
    by true false f e ih = subst (λ (c : Bool). IsNew seen t (cond c (info ∷ before) before)) (sym f) (ih (with_text seen info) (other_new seen info t e l))
    by false b f e ih = subst (λ (c : Bool). IsNew seen t (cond c (info ∷ before) before)) (sym f) (ih seen l)

-- ---- lists in two parts
pub infos-append : (p : ℕ) (xs ys : List Row) → infos p (xs ++ ys) ≡ infos p xs ++ infos p ys
infos-append p [] ys = refl
infos-append p (row ∷ xs) ys = by (moves p row.here.place) (infos-append p xs ys)
  where
    by : (b : Bool) → infos p (xs ++ ys) ≡ infos p xs ++ infos p ys → cond b (row.here.info ∷ infos p (xs ++ ys)) (infos p (xs ++ ys)) ≡ cond b (row.here.info ∷ infos p xs) (infos p xs) ++ infos p ys
    by true e = ap (λ (l : List (List ℕ)). row.here.info ∷ l) e
    by false e = e

first_seen-append : (seen xs ys : List (List ℕ)) → first_seen seen (xs ++ ys) ≡ first_seen (first_seen seen xs) ys
first_seen-append seen [] ys = refl
first_seen-append seen (x ∷ xs) ys = first_seen-append (with_text seen x) xs ys

-- ---- numbers
-- what a player sees before the first row of an information state has a smaller number than the state
pub earlier_number : (p r : ℕ) (t : List ℕ) (rows : List Row) → r < first_row p t rows → first_row p t rows ≤ length rows → moves p (row_at rows r).here.place ≡ true
    → place_of_text (texts_seen p rows) (row_at rows r).here.info < place_of_text (texts_seen p rows) t
earlier_number p r t rows before within e =
    let f = first_row p t rows in
    let front = take f rows in
    let seen = first_seen [] (infos p front) in
    let more = infos p (drop f rows) in
    let split : texts_seen p rows ≡ first_seen seen more = ap (λ (l : List Row). first_seen [] (infos p l)) (sym (take-append-drop f rows)) ∙ ap (first_seen []) (infos-append p front (drop f rows)) ∙ first_seen-append [] (infos p front) more in
    let same : row_at front r ≡ row_at rows r = get_or-take f rows r no_row before in
    let long : length front ≡ f = length-take-le f rows within in
    let there = seen_at p [] front r (omega (arith, long)) (ap (λ (row : Row). moves p row.here.place) same ∙ e) in
    let is : place_of_text seen (row_at front r).here.info ≡ place_of_text seen (row_at rows r).here.info = ap (λ (row : Row). place_of_text seen row.here.info) same in
    let here : place_of_text seen (row_at rows r).here.info < length seen = omega (arith, there, is) in
    let kept = seen_kept seen more (row_at rows r).here.info here in
    let late = new_later seen more t (not_before p t [] rows (omega arith)) in
    subst (λ (texts : List (List ℕ)). place_of_text texts (row_at rows r).here.info < place_of_text texts t) (sym split) (omega (arith, kept, late, not_before p t [] rows (omega arith), here))
