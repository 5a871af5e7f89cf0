-- One row more.
use Rattle.std.proofs.Common.{◌≡◌, ℕ, zero, suc, ◌+◌, ◌<◌, Bool, true, false, cond, eqb, List, [], ◌∷◌, ◌++◌, length, Option, Result, Ok, Err, refl, ap, sym, subst, ◌∙◌, arith, length-append, length-set, eqb-true, eq-eqb}
use Rattle.std.specs.Prelude.{ℤ, OnOk, slice_set}
use Rattle.std.proofs.lemmas.Bool.{true≢false}
use Rattle.spiel_api.specs.declared.place.Place.{Place}
use Rattle.spiel_api.specs.declared.place.Place.TheVariants.{End, Chance, Move, Joint}
use Rattle.spiel_frac.specs.declared.memory.NoMemory.{NoMemory}
use Rattle.spiel_tree.specs.FirstSeen.{with_text, text_at, first_seen, IsNumberIn}
use Rattle.spiel_tree.proofs.FirstSeen.{text_there, text_kept, number_kept, number_new, first_seen_push}
use Rattle.spiel_tree.specs.declared.flat.FlatRow.{FlatRow}
use Rattle.spiel_tree.specs.declared.flat.Rows.{Rows}
use Rattle.spiel_tree.specs.Rows.{Row, Step}
use Rattle.spiel_tree.specs.Flat.{Cell, cells, cells_of, shown, way_to, texts_of, info_in, texts_with, number_with, row_in, IsMoverBelow, rows_after, rows_of, moves, infos, HasNumber, AreNumbers, IsBefore, ParentsBefore, IsBuilt, AddsRows}

-- the four columns grow together
cells_push : (rows : List FlatRow) (numbers weights : List (List ℕ)) (pays : List (List ℤ)) (r : FlatRow) (n w : List ℕ) (p : List ℤ)
    → length numbers ≡ length rows → length weights ≡ length rows → length pays ≡ length rows
    → cells (rows ++ r ∷ []) (numbers ++ n ∷ []) (weights ++ w ∷ []) (pays ++ p ∷ []) ≡ cells rows numbers weights pays ++ record { row = r; numbers = n; weights = w; pays = p } ∷ []
cells_push [] [] [] [] r n w p a b c = refl
cells_push [] [] [] (x ∷ pays) r n w p a b c = absurd (omega (arith, c))
cells_push [] [] (x ∷ weights) pays r n w p a b c = absurd (omega (arith, b))
cells_push [] (x ∷ numbers) weights pays r n w p a b c = absurd (omega (arith, a))
cells_push (x ∷ rows) [] weights pays r n w p a b c = absurd (omega (arith, a))
cells_push (x ∷ rows) (y ∷ numbers) [] pays r n w p a b c = absurd (omega (arith, b))
cells_push (x ∷ rows) (y ∷ numbers) (z ∷ weights) [] r n w p a b c = absurd (omega (arith, c))
cells_push (x ∷ rows) (y ∷ numbers) (z ∷ weights) (q ∷ pays) r n w p a b c =
    ap (λ more. record { row = x; numbers = y; weights = z; pays = q } ∷ more) (cells_push rows numbers weights pays r n w p (omega (arith, a)) (omega (arith, b)) (omega (arith, c)))

cells_length : (rows : List FlatRow) (numbers weights : List (List ℕ)) (pays : List (List ℤ)) → length numbers ≡ length rows → length weights ≡ length rows → length pays ≡ length rows
    → length (cells rows numbers weights pays) ≡ length rows
cells_length [] numbers weights pays a b c = refl
cells_length (x ∷ rows) [] weights pays a b c = absurd (omega (arith, a))
cells_length (x ∷ rows) (y ∷ numbers) [] pays a b c = absurd (omega (arith, b))
cells_length (x ∷ rows) (y ∷ numbers) (z ∷ weights) [] a b c = absurd (omega (arith, c))
cells_length (x ∷ rows) (y ∷ numbers) (z ∷ weights) (q ∷ pays) a b c = ap suc (cells_length rows numbers weights pays (omega (arith, a)) (omega (arith, b)) (omega (arith, c)))

after_push : (texts : List (List (List ℕ))) (done : List Row) (cs : List Cell) (c : Cell) → rows_after texts done (cs ++ c ∷ []) ≡ rows_after texts done cs ++ row_in texts (rows_after texts done cs) c ∷ []
after_push texts done [] c = refl
after_push texts done (x ∷ cs) c = after_push texts (done ++ row_in texts done x ∷ []) cs c

pub length-after : (texts : List (List (List ℕ))) (done : List Row) (cs : List Cell) → length (rows_after texts done cs) ≡ length done + length cs
length-after texts done [] = omega arith
length-after texts done (x ∷ cs) = omega (arith, length-after texts (done ++ row_in texts done x ∷ []) cs, length-append done (row_in texts done x ∷ []))

-- there are as many rows as flat ones
pub rows_length : (t : Rows) → IsBuilt t → length (rows_of t) ≡ length t.flat
rows_length t is =
    omega (arith, length-after t.texts.items [] (cells_of t), cells_length t.flat t.numbers t.weights t.pays is.numbers_even is.weights_even is.pays_even)

-- ---- one text more
-- at one player
texts_at : (texts : List (List (List ℕ))) (p q : ℕ) (new : List (List ℕ)) (P : List (List ℕ) → Type 0)
    → (p ≡ q → P new) → P (texts_of texts q) → q < length texts → P (texts_of (slice_set texts p new) q)
texts_at [] p q new P same other l = absurd (omega arith)
texts_at (x ∷ texts) zero zero new P same other l = same refl
texts_at (x ∷ texts) zero (suc q) new P same other l = other
texts_at (x ∷ texts) (suc p) zero new P same other l = other
texts_at (x ∷ texts) (suc p) (suc q) new P same other l = texts_at texts p q new P (λ e. same (ap suc e)) other (omega arith)

texts_there : (texts : List (List (List ℕ))) (p : ℕ) (new : List (List ℕ)) → p < length texts → texts_of (slice_set texts p new) p ≡ new
texts_there [] p new l = absurd (omega arith)
texts_there (x ∷ texts) zero new l = refl
texts_there (x ∷ texts) (suc p) new l = texts_there texts p new (omega arith)

pub below_by : (texts : List (List (List ℕ))) (p n : ℕ) → IsNumberIn (texts_of texts p) n → p < length texts
below_by [] p n is = absurd (omega (arith, is.within))
below_by (x ∷ texts) zero n is = omega arith
below_by (x ∷ texts) (suc p) n is = omega (arith, below_by texts p n is)

-- an earlier row keeps its number and its text
number_stays : (texts : List (List (List ℕ))) (here : Place) (info : List ℕ) (place : Place) (n : ℕ) → HasNumber texts place n → HasNumber (texts_with texts here info) place n
number_stays texts End info place n has = has
number_stays texts Chance info place n has = has
number_stays texts (Joint p) info place n has = has
number_stays texts (Move p) info End n has = tt
number_stays texts (Move p) info Chance n has = tt
number_stays texts (Move p) info (Joint q) n has = tt
number_stays texts (Move p) info (Move q) n has =
    texts_at texts p q (with_text (texts_of texts p) info) (λ t. IsNumberIn t n)
    (λ e. number_kept (texts_of texts p) info n (subst (λ (k : ℕ). IsNumberIn (texts_of texts k) n) (sym e) has)) has (below_by texts q n has)

text_stays : (texts : List (List (List ℕ))) (here : Place) (info : List ℕ) (place : Place) (n : ℕ) → HasNumber texts place n → info_in (texts_with texts here info) place n ≡ info_in texts place n
text_stays texts End info place n has = refl
text_stays texts Chance info place n has = refl
text_stays texts (Joint p) info place n has = refl
text_stays texts (Move p) info End n has = refl
text_stays texts (Move p) info Chance n has = refl
text_stays texts (Move p) info (Joint q) n has = refl
text_stays texts (Move p) info (Move q) n has =
    texts_at texts p q (with_text (texts_of texts p) info) (λ t. text_at t n ≡ text_at (texts_of texts q) n)
    (λ e. subst (λ (k : ℕ). text_at (with_text (texts_of texts p) info) n ≡ text_at (texts_of texts k) n) e
    (text_kept (texts_of texts p) info n (subst (λ (k : ℕ). IsNumberIn (texts_of texts k) n) (sym e) has).within)) refl (below_by texts q n has)

numbers_stay : (texts : List (List (List ℕ))) (here : Place) (info : List ℕ) (cs : List Cell) → AreNumbers texts cs → AreNumbers (texts_with texts here info) cs
numbers_stay texts here info [] are = tt
numbers_stay texts here info (c ∷ cs) are = (number_stays texts here info c.row.place c.row.text are.0, numbers_stay texts here info cs are.1)

rows_stay : (texts : List (List (List ℕ))) (here : Place) (info : List ℕ) (done : List Row) (cs : List Cell) → AreNumbers texts cs → rows_after (texts_with texts here info) done cs ≡ rows_after texts done cs
rows_stay texts here info done [] are = refl
rows_stay texts here info done (c ∷ cs) are =
    rw (text_stays texts here info c.row.place c.row.text are.0) (rows_stay texts here info (done ++ row_in texts done c ∷ []) cs are.1)

number_added : (texts : List (List (List ℕ))) (here : Place) (info : List ℕ) → IsMoverBelow (length texts) here → HasNumber (texts_with texts here info) here (number_with texts here info)
number_added texts End info l = tt
number_added texts Chance info l = tt
number_added texts (Joint p) info l = tt
number_added texts (Move p) info l = rw (texts_there texts p (with_text (texts_of texts p) info) l) (number_new (texts_of texts p) info)

text_added : (texts : List (List (List ℕ))) (here : Place) (info : List ℕ) → IsMoverBelow (length texts) here → info_in (texts_with texts here info) here (number_with texts here info) ≡ shown here info
text_added texts End info l = refl
text_added texts Chance info l = refl
text_added texts (Joint p) info l = refl
text_added texts (Move p) info l = rw (texts_there texts p (with_text (texts_of texts p) info) l) (text_there (texts_of texts p) info)

numbers_push : (texts : List (List (List ℕ))) (cs : List Cell) (c : Cell) → AreNumbers texts cs → HasNumber texts c.row.place c.row.text → AreNumbers texts (cs ++ c ∷ [])
numbers_push texts [] c are has = (has, tt)
numbers_push texts (x ∷ cs) c are has = (are.0, numbers_push texts cs c are.1 has)

parents_push : (k : ℕ) (cs : List Cell) (c : Cell) (n : ℕ) → n ≡ k + length cs → ParentsBefore k cs → IsBefore c.row.parent n → ParentsBefore k (cs ++ c ∷ [])
parents_push k [] c n e are is = let same : n ≡ k = omega (arith, e) in (subst (IsBefore c.row.parent) same is, tt)
parents_push k (x ∷ cs) c n e are is = (are.0, parents_push (suc k) cs c n (omega (arith, e)) are.1 is)

-- the texts of a player after a row
infos_push : (p : ℕ) (rows : List Row) (s : Row) → infos p (rows ++ s ∷ []) ≡ cond (moves p s.here.place) (infos p rows ++ s.here.info ∷ []) (infos p rows)
infos_push p [] s = refl
infos_push p (x ∷ rows) s = by (moves p x.here.place) (moves p s.here.place) (infos_push p rows s)
  where
    by : (a b : Bool) → infos p (rows ++ s ∷ []) ≡ cond b (infos p rows ++ s.here.info ∷ []) (infos p rows)
        → cond a (x.here.info ∷ infos p (rows ++ s ∷ [])) (infos p (rows ++ s ∷ [])) ≡ cond b (cond a (x.here.info ∷ infos p rows) (infos p rows) ++ s.here.info ∷ []) (cond a (x.here.info ∷ infos p rows) (infos p rows))
    by true true ih = ap (λ xs. x.here.info ∷ xs) ih
    by true false ih = ap (λ xs. x.here.info ∷ xs) ih
    by false b ih = ih

length_with : (texts : List (List (List ℕ))) (here : Place) (info : List ℕ) → length (texts_with texts here info) ≡ length texts
length_with texts End info = refl
length_with texts Chance info = refl
length_with texts (Joint p) info = refl
length_with texts (Move p) info = length-set texts p (with_text (texts_of texts p) info)

texts_seen : (texts : List (List (List ℕ))) (rows : List Row) (here : Place) (way : List Step) (numbers weights info : List ℕ) (pays : List ℤ) (q : ℕ)
    → q < length texts → texts_of texts q ≡ first_seen [] (infos q rows)
    → texts_of (texts_with texts here info) q ≡ first_seen [] (infos q (rows ++ record { way = way; here = record { place = here; info = shown here info; numbers = numbers; weights = weights; pays = pays } } ∷ []))
texts_seen texts rows End way numbers weights info pays q l e = e ∙ ap (first_seen []) (sym (infos_push q rows (record { way = way; here = record { place = End; info = []; numbers = numbers; weights = weights; pays = pays } })))
texts_seen texts rows Chance way numbers weights info pays q l e = e ∙ ap (first_seen []) (sym (infos_push q rows (record { way = way; here = record { place = Chance; info = []; numbers = numbers; weights = weights; pays = pays } })))
texts_seen texts rows (Joint p) way numbers weights info pays q l e = e ∙ ap (first_seen []) (sym (infos_push q rows (record { way = way; here = record { place = Joint p; info = []; numbers = numbers; weights = weights; pays = pays } })))
texts_seen texts rows (Move p) way numbers weights info pays q l e =
    by (eqb q p) refl ∙ ap (first_seen []) (sym (infos_push q rows (record { way = way; here = record { place = Move p; info = info; numbers = numbers; weights = weights; pays = pays } })))
  where
    by : (b : Bool) → eqb q p ≡ b → texts_of (slice_set texts p (with_text (texts_of texts p) info)) q ≡ first_seen [] (cond b (infos q rows ++ info ∷ []) (infos q rows))
    by true t =
        let same : q ≡ p = eqb-true q p t in
        subst (λ (k : ℕ). texts_of (slice_set texts k (with_text (texts_of texts k) info)) q ≡ first_seen [] (infos q rows ++ info ∷ [])) same
        (texts_there texts q (with_text (texts_of texts q) info) l ∙ ap (λ xs. with_text xs info) e ∙ sym (first_seen_push [] (infos q rows) info))
    by false t =
        texts_at texts p q (with_text (texts_of texts p) info) (λ xs. xs ≡ first_seen [] (infos q rows)) (λ s. absurd (true≢false (sym (eq-eqb q p (sym s)) ∙ t))) e l

-- one row more, and all stays as it was built
adds_row : (old new : Rows) (parent : Option ℕ) (step : ℕ) (place : Place) (info numbers weights : List ℕ) (pays : List ℤ) (text : ℕ)
    → IsBuilt old → IsMoverBelow (length old.texts.items) place → IsBefore parent (length (rows_of old)) → shown place info ≡ info
    → new.texts.items ≡ texts_with old.texts.items place info → text ≡ number_with old.texts.items place info
    → new.flat ≡ old.flat ++ record { parent = parent; step = step; place = place; text = text } ∷ []
    → new.numbers ≡ old.numbers ++ numbers ∷ [] → new.weights ≡ old.weights ++ weights ∷ [] → new.pays ≡ old.pays ++ pays ∷ []
    → AddsRows old new (record { way = way_to (rows_of old) parent step; here = record { place = place; info = info; numbers = numbers; weights = weights; pays = pays } } ∷ [])
adds_row old new parent step place info numbers weights pays text is below before only texts number flat e f g =
    let r : FlatRow = record { parent = parent; step = step; place = place; text = text } in
    let cell : Cell = record { row = r; numbers = numbers; weights = weights; pays = pays } in
    let old_texts = old.texts.items in
    let after = texts_with old_texts place info in
    let has : HasNumber after place text = rw number (number_added old_texts place info below) in
    let shows : info_in after place text ≡ info = rw number (text_added old_texts place info below ∙ only) in
    let grown : cells_of new ≡ cells_of old ++ cell ∷ [] = rw (flat, e, f, g) (cells_push old.flat old.numbers old.weights old.pays r numbers weights pays is.numbers_even is.weights_even is.pays_even) in
    let stay = rows_stay old_texts place info [] (cells_of old) is.numbered in
    let row : Row = record { way = way_to (rows_of old) parent step; here = record { place = place; info = info; numbers = numbers; weights = weights; pays = pays } } in
    let all : rows_of new ≡ rows_of old ++ row ∷ [] = rw (grown, texts, after_push after [] (cells_of old) cell, stay, shows) refl in
    let count : length (rows_of old) ≡ 0 + length (cells_of old) = length-after old_texts [] (cells_of old) in
    record {
      rows_are = all;
      built = record {
        numbers_even = rw (e, flat) (omega (arith, is.numbers_even, length-append old.numbers (numbers ∷ []), length-append old.flat (r ∷ [])));
        weights_even = rw (f, flat) (omega (arith, is.weights_even, length-append old.weights (weights ∷ []), length-append old.flat (r ∷ [])));
        pays_even = rw (g, flat) (omega (arith, is.pays_even, length-append old.pays (pays ∷ []), length-append old.flat (r ∷ [])));
        parents = rw grown (parents_push 0 (cells_of old) cell (length (rows_of old)) count is.parents before);
        numbered = rw (grown, texts) (numbers_push after (cells_of old) cell (numbers_stay old_texts place info (cells_of old) is.numbered) has);
        texts = λ p l.
            let within : p < length old_texts = omega (arith, l, ap length texts, length_with old_texts place info) in
            rw (all, texts) (subst (λ (seen : List ℕ). texts_of after p ≡ first_seen [] (infos p (rows_of old ++ record { way = way_to (rows_of old) parent step; here = record { place = place; info = seen; numbers = numbers; weights = weights; pays = pays } } ∷ []))) only
            (texts_seen old_texts (rows_of old) place (way_to (rows_of old) parent step) numbers weights info pays p within (is.texts p within)));
      };
      players = ap length texts ∙ length_with old_texts place info;
    }

-- the same where the row was pushed
pub adds_row_ok : (result : Result (Unit {0}) NoMemory) (old new : Rows) (parent : Option ℕ) (step : ℕ) (place : Place) (info numbers weights : List ℕ) (pays : List ℤ) (text : ℕ)
    → IsBuilt old → IsMoverBelow (length old.texts.items) place → IsBefore parent (length (rows_of old)) → shown place info ≡ info
    → new.texts.items ≡ texts_with old.texts.items place info → text ≡ number_with old.texts.items place info
    → OnOk result (new.flat ≡ old.flat ++ record { parent = parent; step = step; place = place; text = text } ∷ [])
    → new.numbers ≡ old.numbers ++ numbers ∷ [] → new.weights ≡ old.weights ++ weights ∷ [] → new.pays ≡ old.pays ++ pays ∷ []
    → OnOk result (AddsRows old new (record { way = way_to (rows_of old) parent step; here = record { place = place; info = info; numbers = numbers; weights = weights; pays = pays } } ∷ []))
adds_row_ok (Ok x) old new parent step place info numbers weights pays text is below before only texts number flat e f g =
    adds_row old new parent step place info numbers weights pays text is below before only texts number flat e f g
adds_row_ok (Err x) old new parent step place info numbers weights pays text is below before only texts number flat e f g = tt
