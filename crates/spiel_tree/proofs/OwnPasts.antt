-- A player's own choices on a way, and when two such lists are the same.
use Rattle.std.proofs.Common.{◌≡◌, ℕ, ◌<◌, ◌==◌, Bool, true, false, cond, List, [], ◌∷◌, ◌++◌, length, Option, Some, None, eqb-true, eq-eqb, refl, ap, ap₂, sym, subst, ◌∙◌, arith}
use Rattle.std.specs.Prelude.{slice_index, slice_index_or}
use Rattle.std.specs.Str.{bytes_eq}
use Rattle.std.proofs.lemmas.Bool.{false≢true, false_from_ne_true}
use Rattle.std.proofs.lemmas.Slice.Eq.{bytes_eq-Decides}
use Rattle.std.proofs.lemmas.List.{append-nil}
use Rattle.spiel_api.specs.declared.place.Place.{Place}
use Rattle.spiel_api.specs.declared.place.Place.TheVariants.{End, Chance, Move, Joint}
use Rattle.spiel_tree.specs.declared.flat.FlatRow.{FlatRow}
use Rattle.spiel_tree.specs.declared.flat.Rows.{Rows}
use Rattle.spiel_tree.specs.declared.pasts.Own.{Own}
use Rattle.spiel_tree.specs.FirstSeen.{place_of_text, text_at, IsNumberIn}
use Rattle.spiel_tree.specs.Rows.{Node, Step, taken, way_on}
use Rattle.spiel_tree.specs.Flat.{HasNumber, IsBuilt, StepsWithin, info_in, moves, row_at, rows_of, texts_of, way_to}
use Rattle.spiel_tree.specs.Faults.{Choice, own_past, same_choice, same_past}
use Rattle.spiel_tree.specs.Pasts.{IsLast, IsLastOwn}
use Rattle.spiel_tree.proofs.Growing.{rows_length}
use Rattle.spiel_tree.proofs.Reading.{flat_row}
use Rattle.spiel_tree.proofs.WayHistory.{behind}

-- ---- lists of choices
same_choice-is : (a b : Choice) → same_choice a b ≡ true → a ≡ b
same_choice-is a b e = by (bytes_eq a.seen b.seen) refl e
  where
    by : (c : Bool) → bytes_eq a.seen b.seen ≡ c → cond c (a.number == b.number) false ≡ true → a ≡ b
    by true f g = ap₂ (λ (seen : List ℕ) (number : ℕ). record { seen = seen; number = number }) ((bytes_eq-Decides a.seen b.seen).0 f) (eqb-true a.number b.number g)
    by false f g = absurd (false≢true g)

same_choice-self : (a : Choice) → same_choice a a ≡ true
same_choice-self a = ap (λ b. cond b (a.number == a.number) false) ((bytes_eq-Decides a.seen a.seen).1 refl) ∙ eq-eqb a.number a.number refl

-- same lists are equal
pub same_past-is : (past other : List Choice) → same_past past other ≡ true → past ≡ other
same_past-is [] [] e = refl
same_past-is [] (b ∷ other) e = absurd (false≢true e)
same_past-is (a ∷ past) [] e = absurd (false≢true e)
same_past-is (a ∷ past) (b ∷ other) e = by (same_choice a b) refl e (same_past-is past other)
  where
    by : (c : Bool) → same_choice a b ≡ c → cond c (same_past past other) false ≡ true → (same_past past other ≡ true → past ≡ other) → a ∷ past ≡ b ∷ other
    by true f g ih = ap₂ (λ (x : Choice) (xs : List Choice). x ∷ xs) (same_choice-is a b f) (ih g)
    by false f g ih = absurd (false≢true g)

pub same_past-self : (past : List Choice) → same_past past past ≡ true
same_past-self [] = refl
same_past-self (a ∷ past) = ap (λ b. cond b (same_past past past) false) (same_choice-self a) ∙ same_past-self past

cond_false : (b : Bool) → cond b false false ≡ false
cond_false true = refl
cond_false false = refl

pub none_and_some : (past : List Choice) (a : Choice) → same_past [] (past ++ a ∷ []) ≡ false
none_and_some [] a = refl
none_and_some (b ∷ past) a = refl

pub some_and_none : (past : List Choice) (a : Choice) → same_past (past ++ a ∷ []) [] ≡ false
some_and_none [] a = refl
some_and_none (b ∷ past) a = refl

-- the last choices decide first
pub same_past-push : (past other : List Choice) (a b : Choice) → same_past (past ++ a ∷ []) (other ++ b ∷ []) ≡ cond (same_choice a b) (same_past past other) false
same_past-push [] [] a b = refl
same_past-push [] (y ∷ other) a b = ap (λ c. cond (same_choice a y) c false) (none_and_some other b) ∙ cond_false (same_choice a y) ∙ sym (cond_false (same_choice a b))
same_past-push (x ∷ past) [] a b = ap (λ c. cond (same_choice x b) c false) (some_and_none past a) ∙ cond_false (same_choice x b) ∙ sym (cond_false (same_choice a b))
same_past-push (x ∷ past) (y ∷ other) a b = ap (λ c. cond (same_choice x y) c false) (same_past-push past other a b) ∙ by (same_choice x y) (same_choice a b)
  where
    by : (c d : Bool) → cond c (cond d (same_past past other) false) false ≡ cond d (cond c (same_past past other) false) false
    by true true = refl
    by true false = refl
    by false true = refl
    by false false = refl

-- ---- own pasts
own_past-push : (p : ℕ) (way : List Step) (step : Step) → own_past p (way ++ step ∷ []) ≡ own_past p way ++ cond (moves p step.at.place) (record { seen = step.at.info; number = taken step } ∷ []) []
own_past-push p [] step = refl
own_past-push p (first ∷ way) step = by (moves p first.at.place) (own_past-push p way step)
  where
    more : List Choice
    more = cond (moves p step.at.place) (record { seen = step.at.info; number = taken step } ∷ []) []

    choice : Choice
    choice = record { seen = first.at.info; number = taken first }

    by : (b : Bool) → own_past p (way ++ step ∷ []) ≡ own_past p way ++ more
        → cond b (choice ∷ own_past p (way ++ step ∷ [])) (own_past p (way ++ step ∷ [])) ≡ cond b (choice ∷ own_past p way) (own_past p way) ++ more
    by true ih = ap (λ (xs : List Choice). choice ∷ xs) ih
    by false ih = ih

moves-is : (p : ℕ) (place : Place) → moves p place ≡ true → place ≡ Move p
moves-is p End e = absurd (false≢true e)
moves-is p Chance e = absurd (false≢true e)
moves-is p (Move q) e = ap Move (sym (eqb-true p q e))
moves-is p (Joint q) e = absurd (false≢true e)

-- behind a parent where another chose, or nobody
past_on : (p : ℕ) (here : Node) (way : List Step) (index : ℕ) → moves p here.place ≡ false → own_past p (way ++ record { at = here; index = index } ∷ []) ≡ own_past p way
past_on p here way index e =
    let step : Step = record { at = here; index = index } in
    own_past-push p way step ∙ ap (λ b. own_past p way ++ cond b (record { seen = here.info; number = taken step } ∷ []) []) e ∙ append-nil (own_past p way)

-- behind a parent where the player chose
past_more : (p : ℕ) (here : Node) (way : List Step) (index : ℕ) → moves p here.place ≡ true
    → own_past p (way ++ record { at = here; index = index } ∷ []) ≡ own_past p way ++ record { seen = here.info; number = slice_index here.numbers index } ∷ []
past_more p here way index e =
    let step : Step = record { at = here; index = index } in
    own_past-push p way step ∙ ap (λ b. own_past p way ++ cond b (record { seen = here.info; number = taken step } ∷ []) []) e

-- ---- going up
-- nothing was chosen on the way to the first row
pub none_before : (t : Rows) (p k : ℕ) (flat : FlatRow) → IsBuilt t → k < length (rows_of t) → flat ≡ slice_index_or t.flat k flat → flat.parent ≡ None → own_past p (row_at (rows_of t) k).way ≡ []
none_before t p k flat built l e none =
    let is = flat_row t k flat built (omega (arith, l, rows_length t built)) e in
    ap (own_past p) (is.way ∙ ap (λ (q : Option ℕ). way_to (rows_of t) q flat.step) none)

-- the way to a row is that to its parent, and a step
pub record IsUp (t : Rows) (k parent : ℕ) (flat : FlatRow) : Type 0 where
  pub before : parent < k
  pub within : parent < length (rows_of t)
  pub legal : flat.step < length (row_at (rows_of t) parent).here.numbers
  pub way : (row_at (rows_of t) k).way ≡ way_on (row_at (rows_of t) parent) flat.step

pub up : (t : Rows) (k parent : ℕ) (flat : FlatRow) → IsBuilt t → StepsWithin (rows_of t) → k < length (rows_of t) → flat ≡ slice_index_or t.flat k flat → flat.parent ≡ Some parent → IsUp t k parent flat
up t k parent flat built steps l e some =
    let behind_is = behind t k parent flat built steps l e some in
    let is = flat_row t k flat built (omega (arith, l, rows_length t built)) e in
    record {
      before = behind_is.before;
      within = omega (arith, behind_is.before, l);
      legal = behind_is.within;
      way = is.way ∙ ap (λ (q : Option ℕ). way_to (rows_of t) q flat.step) some;
    }

-- the parent's own choice is the last one
pub last_there : (t : Rows) (p k parent number : ℕ) (flat above : FlatRow) → IsBuilt t → IsUp t k parent flat → above ≡ slice_index_or t.flat parent above → moves p above.place ≡ true
    → number ≡ slice_index (row_at (rows_of t) parent).here.numbers flat.step → IsLast p t k (record { row = parent; text = above.text; number = number })
last_there t p k parent number flat above built up_is e own number_is =
    let rows = rows_of t in
    let here = (row_at rows parent).here in
    let is = flat_row t parent above built (omega (arith, up_is.within, rows_length t built)) e in
    let place : above.place ≡ Move p = moves-is p above.place own in
    let info : here.info ≡ text_at (texts_of t.texts.items p) above.text = is.info ∙ ap (λ (q : Place). info_in t.texts.items q above.text) place in
    record {
      before = up_is.before;
      text = subst (λ (q : Place). HasNumber t.texts.items q above.text) place is.has;
      past = ap (own_past p) up_is.way ∙ past_more p here (row_at rows parent).way flat.step (ap (moves p) is.place ∙ own)
          ∙ ap₂ (λ (seen : List ℕ) (n : ℕ). own_past p (row_at rows parent).way ++ record { seen = seen; number = n } ∷ []) info (sym number_is);
    }

last_same : (t : Rows) (p k parent : ℕ) (own : Option Own) → parent < k → own_past p (row_at (rows_of t) k).way ≡ own_past p (row_at (rows_of t) parent).way → IsLastOwn p t parent own → IsLastOwn p t k own
last_same t p k parent None before e last = e ∙ last
last_same t p k parent (Some own) before e last = record { before = omega (arith, before, last.before); text = last.text; past = e ∙ last.past }

-- else it is that on the way to the parent
pub last_above : (t : Rows) (p k parent : ℕ) (flat above : FlatRow) (own : Option Own) → IsBuilt t → IsUp t k parent flat → above ≡ slice_index_or t.flat parent above → moves p above.place ≡ false
    → IsLastOwn p t parent own → IsLastOwn p t k own
last_above t p k parent flat above own built up_is e other last =
    let rows = rows_of t in
    let is = flat_row t parent above built (omega (arith, up_is.within, rows_length t built)) e in
    last_same t p k parent own up_is.before (ap (own_past p) up_is.way ∙ past_on p (row_at rows parent).here (row_at rows parent).way flat.step (ap (moves p) is.place ∙ other)) last

-- ---- comparing
-- two texts of a player are the same exactly where their numbers are
same_text : (texts : List (List ℕ)) (m n : ℕ) → IsNumberIn texts m → IsNumberIn texts n → text_at texts m ≡ text_at texts n → m ≡ n
same_text texts m n a b e = sym a.first ∙ ap (place_of_text texts) e ∙ b.first

apart : (a b : Choice) → (a ≡ b → ⊥) → same_choice a b ≡ false
apart a b f = false_from_ne_true (same_choice a b) (λ e. f (same_choice-is a b e))

-- the pasts at two rows, whose last own choices are known
pasts_by : (t : Rows) (p j k : ℕ) (a b : Own) → IsLast p t j a → IsLast p t k b
    → same_past (own_past p (row_at (rows_of t) j).way) (own_past p (row_at (rows_of t) k).way)
    ≡ cond (same_choice (record { seen = text_at (texts_of t.texts.items p) a.text; number = a.number }) (record { seen = text_at (texts_of t.texts.items p) b.text; number = b.number }))
    (same_past (own_past p (row_at (rows_of t) a.row).way) (own_past p (row_at (rows_of t) b.row).way)) false
pasts_by t p j k a b last_a last_b =
    ap₂ same_past last_a.past last_b.past
    ∙ same_past-push (own_past p (row_at (rows_of t) a.row).way) (own_past p (row_at (rows_of t) b.row).way)
    (record { seen = text_at (texts_of t.texts.items p) a.text; number = a.number }) (record { seen = text_at (texts_of t.texts.items p) b.text; number = b.number })

pub other_choice : (t : Rows) (p j k : ℕ) (a b : Own) → IsLast p t j a → IsLast p t k b → (a.text ≡ b.text → a.number ≡ b.number → ⊥)
    → same_past (own_past p (row_at (rows_of t) j).way) (own_past p (row_at (rows_of t) k).way) ≡ false
other_choice t p j k a b last_a last_b differ =
    let texts = texts_of t.texts.items p in
    let first : Choice = record { seen = text_at texts a.text; number = a.number } in
    let second : Choice = record { seen = text_at texts b.text; number = b.number } in
    let test = apart first second (λ e. differ (same_text texts a.text b.text last_a.text last_b.text (ap (λ (c : Choice). c.seen) e)) (ap (λ (c : Choice). c.number) e)) in
    pasts_by t p j k a b last_a last_b ∙ ap (λ c. cond c (same_past (own_past p (row_at (rows_of t) a.row).way) (own_past p (row_at (rows_of t) b.row).way)) false) test

pub one_choice : (t : Rows) (p j k : ℕ) (a b : Own) → IsLast p t j a → IsLast p t k b → a.text ≡ b.text → a.number ≡ b.number
    → same_past (own_past p (row_at (rows_of t) j).way) (own_past p (row_at (rows_of t) k).way) ≡ same_past (own_past p (row_at (rows_of t) a.row).way) (own_past p (row_at (rows_of t) b.row).way)
one_choice t p j k a b last_a last_b text number =
    let texts = texts_of t.texts.items p in
    let first : Choice = record { seen = text_at texts a.text; number = a.number } in
    let second : Choice = record { seen = text_at texts b.text; number = b.number } in
    let same : first ≡ second = ap₂ (λ (n number : ℕ). record { seen = text_at texts n; number = number }) text number in
    let test : same_choice first second ≡ true = ap (same_choice first) (sym same) ∙ same_choice-self first in
    pasts_by t p j k a b last_a last_b ∙ ap (λ c. cond c (same_past (own_past p (row_at (rows_of t) a.row).way) (own_past p (row_at (rows_of t) b.row).way)) false) test

-- one past is empty, and the other isn't
pub first_alone : (t : Rows) (p j k : ℕ) (a : Own) → IsLast p t j a → own_past p (row_at (rows_of t) k).way ≡ []
    → same_past (own_past p (row_at (rows_of t) j).way) (own_past p (row_at (rows_of t) k).way) ≡ false
first_alone t p j k a last none = ap₂ same_past last.past none ∙ some_and_none (own_past p (row_at (rows_of t) a.row).way) (record { seen = text_at (texts_of t.texts.items p) a.text; number = a.number })

pub second_alone : (t : Rows) (p j k : ℕ) (b : Own) → own_past p (row_at (rows_of t) j).way ≡ [] → IsLast p t k b
    → same_past (own_past p (row_at (rows_of t) j).way) (own_past p (row_at (rows_of t) k).way) ≡ false
second_alone t p j k b none last = ap₂ same_past none last.past ∙ none_and_some (own_past p (row_at (rows_of t) b.row).way) (record { seen = text_at (texts_of t.texts.items p) b.text; number = b.number })
