-- What flat rows say of information states.
use Rattle.std.proofs.Common.{◌≡◌, ℕ, zero, suc, ◌+◌, ◌-◌, ◌<◌, ◌≤◌, List, [], ◌∷◌, ◌++◌, length, take, drop, Bool, true, false, cond, ◌==◌, Option, Some, None, eqb-true, eq-eqb, refl, ap, sym, subst, ◌∙◌, arith, drop-cons, length-set}
use Rattle.std.specs.Prelude.{slice_index, slice_index_or, slice_set, Contains, IfSome}
use Rattle.std.specs.Str.{bytes_eq}
use Rattle.std.proofs.lemmas.Bool.{true≢false, false_from_ne_true}
use Rattle.std.proofs.lemmas.Slice.Eq.{bytes_eq-Decides}
use Rattle.spiel_api.specs.declared.place.Place.{Place}
use Rattle.spiel_api.specs.declared.place.Place.TheVariants.{End, Chance, Move, Joint}
use Rattle.spiel_tree.specs.declared.flat.FlatRow.{FlatRow}
use Rattle.spiel_tree.specs.declared.flat.Rows.{Rows}
use Rattle.spiel_tree.specs.FirstSeen.{place_of_text, text_at, IsNumberIn}
use Rattle.spiel_tree.specs.Rows.{Row}
use Rattle.spiel_tree.specs.Flat.{no_row, row_at, rows_of, texts_of, HasNumber, info_in, moves, IsBuilt}
use Rattle.spiel_tree.specs.States.{InfoState, decides, first_row, no_state, noted, number_at, state_at, state_of, states_below, texts_seen}
use Rattle.spiel_tree.proofs.FirstSeen.{text_at-place}
use Rattle.spiel_tree.proofs.Growing.{below_by, rows_length}
use Rattle.spiel_tree.proofs.Reading.{IsFlatRow, flat_row, no_flat, same_read}
use Rattle.spiel_tree.proofs.StateNumbers.{one_player_more, players_within, state_there}
use Rattle.spiel_tree.proofs.StateCounts.{state_split, states_few, text_number}

-- ---- the texts of a player
pub record IsPlayerTexts (t : Rows) (p : ℕ) (texts : List (List ℕ)) : Type 0 where
  pub is : texts ≡ texts_seen p (rows_of t)
  pub next : length (states_below (suc p) (rows_of t)) ≡ length (states_below p (rows_of t)) + length texts
  pub within : length (states_below p (rows_of t)) + length texts ≤ length (states_below (length t.texts.items) (rows_of t))
  pub few : length (states_below (length t.texts.items) (rows_of t)) ≤ length (rows_of t)

pub player_texts : (t : Rows) (p : ℕ) (texts : List (List ℕ)) → IsBuilt t → p < length t.texts.items → texts ≡ slice_index_or t.texts.items p texts → IsPlayerTexts t p texts
player_texts t p texts built l e =
    let is : texts ≡ texts_seen p (rows_of t) = e ∙ same_read t.texts.items p texts [] l ∙ built.texts p l in
    record {
      is = is;
      next = one_player_more p (rows_of t) ∙ ap (λ (ts : List (List ℕ)). length (states_below p (rows_of t)) + length ts) (sym is);
      within = rw is (players_within (length t.texts.items) p (rows_of t) l);
      few = states_few (length t.texts.items) (rows_of t);
    }

-- ---- the information state of a row
-- a flat row that was read
pub flat_at : (t : Rows) (k : ℕ) (flats : List FlatRow) → IsBuilt t → k < length (rows_of t) → flats ≡ t.flat → IsFlatRow t k (slice_index_or flats k no_flat)
flat_at t k flats built l e =
    let within : k < length t.flat = omega (arith, l, rows_length t built) in
    rw e (flat_row t k (slice_index_or t.flat k no_flat) built within (same_read t.flat k no_flat (slice_index_or t.flat k no_flat) within))

pub flats_within : (t : Rows) (k : ℕ) (flats : List FlatRow) → IsBuilt t → k < length (rows_of t) → flats ≡ t.flat → k < length flats
flats_within t k flats built l e = rw e (omega (arith, l, rows_length t built))

pub record IsMove (t : Rows) (k p n : ℕ) : Type 0 where
  pub low : p < length t.texts.items
  pub number : n ≡ place_of_text (texts_seen p (rows_of t)) (row_at (rows_of t) k).here.info
  pub within : n < length (texts_seen p (rows_of t))
  pub below : length (states_below p (rows_of t)) + n < length (states_below (length t.texts.items) (rows_of t))
  pub few : length (states_below (length t.texts.items) (rows_of t)) ≤ length (rows_of t)
  pub is : state_of (rows_of t) (row_at (rows_of t) k) ≡ Some (length (states_below p (rows_of t)) + n)

-- at a move
pub flat_move : (t : Rows) (k p : ℕ) (flat : FlatRow) → IsBuilt t → IsFlatRow t k flat → flat.place ≡ Move p → IsMove t k p flat.text
flat_move t k p flat built f e =
    let rows = rows_of t in
    let has : IsNumberIn (texts_of t.texts.items p) flat.text = subst (λ (place : Place). HasNumber t.texts.items place flat.text) e f.has in
    let low : p < length t.texts.items = below_by t.texts.items p flat.text has in
    let same : texts_of t.texts.items p ≡ texts_seen p rows = built.texts p low in
    let info : (row_at rows k).here.info ≡ text_at (texts_of t.texts.items p) flat.text = f.info ∙ ap (λ (place : Place). info_in t.texts.items place flat.text) e in
    let number : flat.text ≡ place_of_text (texts_seen p rows) (row_at rows k).here.info =
    sym has.first ∙ ap (place_of_text (texts_of t.texts.items p)) (sym info) ∙ ap (λ (ts : List (List ℕ)). place_of_text ts (row_at rows k).here.info) same in
    let within : flat.text < length (texts_seen p rows) = subst (λ (ts : List (List ℕ)). flat.text < length ts) same has.within in
    record {
      low = low;
      number = number;
      within = within;
      below = omega (arith, within, players_within (length t.texts.items) p rows low);
      few = states_few (length t.texts.items) rows;
      is = ap (λ (place : Place). number_at rows place (row_at rows k).here.info) (f.place ∙ e) ∙ ap (λ (n : ℕ). Some (length (states_below p rows) + n)) (sym number);
    }

pub row_move : (t : Rows) (k p : ℕ) (flats : List FlatRow) → IsBuilt t → k < length (rows_of t) → flats ≡ t.flat → (slice_index_or flats k no_flat).place ≡ Move p → IsMove t k p (slice_index_or flats k no_flat).text
row_move t k p flats built l is e = flat_move t k p (slice_index_or flats k no_flat) built (flat_at t k flats built l is) e

other_number : (rows : List Row) (place : Place) (info : List ℕ) → ((p : ℕ) → place ≡ Move p → ⊥) → number_at rows place info ≡ None
other_number rows End info other = refl
other_number rows Chance info other = refl
other_number rows (Move p) info other = absurd (other p refl)
other_number rows (Joint p) info other = refl

-- elsewhere
pub flat_other : (t : Rows) (k : ℕ) (flat : FlatRow) → IsFlatRow t k flat → ((p : ℕ) → flat.place ≡ Move p → ⊥) → state_of (rows_of t) (row_at (rows_of t) k) ≡ None
flat_other t k flat f other =
    ap (λ (place : Place). number_at (rows_of t) place (row_at (rows_of t) k).here.info) f.place
    ∙ other_number (rows_of t) flat.place (row_at (rows_of t) k).here.info other

-- ---- a row decides in the information state whose number it has, and in no other
abbrev is_number : Option ℕ → ℕ → Bool
is_number None s = false
is_number (Some n) s = n == s

abbrev pub HasOwn : ℕ → List Row → Place → List ℕ → Type 0
HasOwn players rows End info = Unit {0}
HasOwn players rows Chance info = Unit {0}
HasOwn players rows (Move p) info = (p < players) × (place_of_text (texts_seen p rows) info < length (texts_seen p rows))
HasOwn players rows (Joint p) info = Unit {0}

decides_by : (p : ℕ) (text : List ℕ) (q : ℕ) (info : List ℕ) → (p ≡ q → text ≡ info → ⊥) → cond (p == q) (bytes_eq text info) false ≡ false
decides_by p text q info apart = by (p == q) (bytes_eq text info) refl refl
  where
    by : (b c : Bool) → (p == q) ≡ b → bytes_eq text info ≡ c → cond b c false ≡ false
    by true true e f = absurd (apart (eqb-true p q e) ((bytes_eq-Decides text info).0 f))
    by true false e f = refl
    by false c e f = refl

decides_number : (players : ℕ) (rows : List Row) (s : ℕ) (place : Place) (info : List ℕ) → HasOwn players rows place info → s < length (states_below players rows)
    → cond (moves (state_at players rows s).player place) (bytes_eq (state_at players rows s).text info) false ≡ is_number (number_at rows place info) s
decides_number players rows s End info own l = refl
decides_number players rows s Chance info own l = refl
decides_number players rows s (Joint p) info own l = refl
decides_number players rows s (Move q) info own l = by (length (states_below q rows) + place_of_text (texts_seen q rows) info == s) refl
  where
    by : (b : Bool) → (length (states_below q rows) + place_of_text (texts_seen q rows) info == s) ≡ b
        → cond ((state_at players rows s).player == q) (bytes_eq (state_at players rows s).text info) false ≡ b
    by true e =
        let m = place_of_text (texts_seen q rows) info in
        let same : state_at players rows s ≡ record { player = q; text = info } =
        ap (state_at players rows) (sym (eqb-true _ _ e)) ∙ state_there players q m rows own.0 own.1
        ∙ ap (λ (text : List ℕ). record { player = q; text = text }) (text_at-place (texts_seen q rows) info own.1) in
        ap (λ (state : InfoState). cond (state.player == q) (bytes_eq state.text info) false) same
        ∙ ap (λ b. cond b (bytes_eq info info) false) (eq-eqb q q refl) ∙ (bytes_eq-Decides info info).1 refl
    by false e =
        let split = state_split players rows s l in
        let same : state_at players rows s ≡ record { player = split.player; text = text_at (texts_seen split.player rows) split.number } =
        ap (state_at players rows) split.is ∙ state_there players split.player split.number rows split.low split.within in
        let apart : split.player ≡ q → text_at (texts_seen split.player rows) split.number ≡ info → ⊥ = λ p t.
        let first : place_of_text (texts_seen split.player rows) info ≡ split.number =
        ap (place_of_text (texts_seen split.player rows)) (sym t) ∙ (text_number split.player rows split.number split.within).first in
        let moved : length (states_below split.player rows) + place_of_text (texts_seen split.player rows) info ≡ length (states_below q rows) + place_of_text (texts_seen q rows) info =
        ap (λ (n : ℕ). length (states_below n rows) + place_of_text (texts_seen n rows) info) p in
        true≢false (sym (eq-eqb (length (states_below q rows) + place_of_text (texts_seen q rows) info) s (omega (arith, first, moved, split.is))) ∙ e) in
        ap (λ (state : InfoState). cond (state.player == q) (bytes_eq state.text info) false) same
        ∙ decides_by split.player (text_at (texts_seen split.player rows) split.number) q info apart

pub own_here : (t : Rows) (k : ℕ) → IsBuilt t → k < length (rows_of t) → HasOwn (length t.texts.items) (rows_of t) (row_at (rows_of t) k).here.place (row_at (rows_of t) k).here.info
own_here t k built l =
    let flat : FlatRow = slice_index_or t.flat k no_flat in
    by flat (flat_at t k t.flat built l refl) flat.place refl
  where
    by : (flat : FlatRow) → IsFlatRow t k flat → (place : Place) → flat.place ≡ place → HasOwn (length t.texts.items) (rows_of t) (row_at (rows_of t) k).here.place (row_at (rows_of t) k).here.info
    by flat f End e = rw (f.place ∙ e) tt
    by flat f Chance e = rw (f.place ∙ e) tt
    by flat f (Joint p) e = rw (f.place ∙ e) tt
    by flat f (Move p) e =
        let m = flat_move t k p flat built f e in
        rw (f.place ∙ e) (m.low, omega (arith, m.number, m.within))

pub decides_here : (t : Rows) (k s : ℕ) → IsBuilt t → k < length (rows_of t) → s < length (states_below (length t.texts.items) (rows_of t))
    → decides (state_at (length t.texts.items) (rows_of t) s).player (state_at (length t.texts.items) (rows_of t) s).text (row_at (rows_of t) k) ≡ is_number (state_of (rows_of t) (row_at (rows_of t) k)) s
decides_here t k s built l m =
    decides_number (length t.texts.items) (rows_of t) s (row_at (rows_of t) k).here.place (row_at (rows_of t) k).here.info (own_here t k built l) m

-- a number is one of so many
abbrev pub IsNumberBelow : Option ℕ → ℕ → Type 0
IsNumberBelow None n = Unit {0}
IsNumberBelow (Some s) n = s < n

-- ---- the table of first rows
apart_test : (i k : ℕ) → (i ≡ k → ⊥) → (i == k) ≡ false
apart_test i k f = false_from_ne_true (i == k) (λ t. f (eqb-true i k t))

same_test : (i k : ℕ) → (i == k) ≡ (suc i == suc k)
same_test i k = by (i == k) refl
  where
    by : (b : Bool) → (i == k) ≡ b → b ≡ (suc i == suc k)
    by true e = sym (eq-eqb (suc i) (suc k) (ap suc (eqb-true i k e)))
    by false e = sym (false_from_ne_true (suc i == suc k) (λ t. true≢false (sym (eq-eqb i k (omega (arith, eqb-true (suc i) (suc k) t))) ∙ e)))

index_set : (xs : List ℕ) (i y k : ℕ) → i < length xs → slice_index (slice_set xs i y) k ≡ cond (i == k) y (slice_index xs k)
index_set [] i y k l = absurd (omega arith)
index_set (x ∷ xs) zero y zero l = refl
index_set (x ∷ xs) zero y (suc k) l = rw (apart_test 0 (suc k) (λ e. omega (arith, e))) refl
index_set (x ∷ xs) (suc i) y zero l = rw (apart_test (suc i) 0 (λ e. omega (arith, e))) refl
index_set (x ∷ xs) (suc i) y (suc k) l = index_set xs i y k (omega arith) ∙ ap (λ b. cond b y (slice_index xs k)) (same_test i k)

noted_at : (firsts : List ℕ) (state : Option ℕ) (row s : ℕ) → IsNumberBelow state (length firsts) → slice_index (noted firsts state row) s ≡ cond (is_number state s) row (slice_index firsts s)
noted_at firsts None row s l = refl
noted_at firsts (Some n) row s l = index_set firsts n row s l

pub length-noted : (firsts : List ℕ) (state : Option ℕ) (row : ℕ) → length (noted firsts state row) ≡ length firsts
length-noted firsts None row = refl
length-noted firsts (Some n) row = length-set firsts n row

pub number_below : (t : Rows) (k : ℕ) → IsBuilt t → k < length (rows_of t) → IsNumberBelow (state_of (rows_of t) (row_at (rows_of t) k)) (length (states_below (length t.texts.items) (rows_of t)))
number_below t k built l = by (row_at (rows_of t) k).here.place (own_here t k built l)
  where
    by : (place : Place) → HasOwn (length t.texts.items) (rows_of t) place (row_at (rows_of t) k).here.info
        → IsNumberBelow (number_at (rows_of t) place (row_at (rows_of t) k).here.info) (length (states_below (length t.texts.items) (rows_of t)))
    by End own = tt
    by Chance own = tt
    by (Joint p) own = tt
    by (Move p) own = omega (arith, own.1, players_within (length t.texts.items) p (rows_of t) own.0)

pub number_if : (t : Rows) (k : ℕ) → IsBuilt t → k < length (rows_of t) → IfSome (state_of (rows_of t) (row_at (rows_of t) k)) (λ s. s < length (states_below (length t.texts.items) (rows_of t)))
number_if t k built l = by (state_of (rows_of t) (row_at (rows_of t) k)) (number_below t k built l)
  where
    by : (state : Option ℕ) → IsNumberBelow state (length (states_below (length t.texts.items) (rows_of t))) → IfSome state (λ s. s < length (states_below (length t.texts.items) (rows_of t)))
    by None below = tt
    by (Some s) below = below

-- a table that was written has its length
pub written : (new items : List ℕ) (n : ℕ) → length new ≡ n → length items ≡ n → take n (new ++ drop (length new) items) ≡ new
written [] [] n a b = rw (sym a) refl
written [] (y ∷ items) n a b = absurd (omega (arith, a, b))
written (x ∷ new) [] n a b = absurd (omega (arith, a, b))
written (x ∷ new) (y ∷ items) zero a b = absurd (omega (arith, a))
written (x ∷ new) (y ∷ items) (suc n) a b = ap (λ (xs : List ℕ). x ∷ xs) (written new items n (omega (arith, a)) (omega (arith, b)))

-- one row more, from the end
pub first_noted : (t : Rows) (firsts : List ℕ) (row s : ℕ) → IsBuilt t → row < length (rows_of t) → s < length (states_below (length t.texts.items) (rows_of t))
    → length firsts ≡ length (states_below (length t.texts.items) (rows_of t))
    → slice_index firsts s ≡ suc row + first_row (state_at (length t.texts.items) (rows_of t) s).player (state_at (length t.texts.items) (rows_of t) s).text (drop (suc row) (rows_of t))
    → slice_index (noted firsts (state_of (rows_of t) (row_at (rows_of t) row)) row) s ≡ row + first_row (state_at (length t.texts.items) (rows_of t) s).player (state_at (length t.texts.items) (rows_of t) s).text (drop row (rows_of t))
first_noted t firsts row s built l m count e =
    let rows = rows_of t in
    let here = state_of rows (row_at rows row) in
    let state : InfoState = state_at (length t.texts.items) rows s in
    let below : IsNumberBelow here (length firsts) = subst (IsNumberBelow here) (sym count) (number_below t row built l) in
    noted_at firsts here row s below
    ∙ ap (λ b. cond b row (slice_index firsts s)) (sym (decides_here t row s built l m))
    ∙ by (decides state.player state.text (row_at rows row))
    ∙ ap (λ (rest : List Row). row + first_row state.player state.text rest) (sym (drop-cons rows row no_row l))
  where
    by : (b : Bool) → cond b row (slice_index firsts s) ≡ row + cond b 0 (suc (first_row (state_at (length t.texts.items) (rows_of t) s).player (state_at (length t.texts.items) (rows_of t) s).text (drop (suc row) (rows_of t))))
    by true = omega arith
    by false = omega (arith, e)

-- ---- the information state with a number
pub record IsState (t : Rows) (s p : ℕ) : Type 0 where
  pub low : p < length t.texts.items
  pub begun : length (states_below p (rows_of t)) ≤ s
  pub within : s - length (states_below p (rows_of t)) < length (texts_seen p (rows_of t))
  pub is : state_at (length t.texts.items) (rows_of t) s ≡ record { player = p; text = text_at (texts_seen p (rows_of t)) (s - length (states_below p (rows_of t))) }

pub state_within : (t : Rows) (s p : ℕ) → p < length t.texts.items → length (states_below p (rows_of t)) ≤ s → s < length (states_below (suc p) (rows_of t)) → IsState t s p
state_within t s p low begun l =
    let n = s - length (states_below p (rows_of t)) in
    let within : n < length (texts_seen p (rows_of t)) = omega (arith, begun, l, one_player_more p (rows_of t)) in
    record {
      low = low;
      begun = begun;
      within = within;
      is = ap (state_at (length t.texts.items) (rows_of t)) (omega (arith, begun)) ∙ state_there (length t.texts.items) p n (rows_of t) low within;
    }

-- of the player whose state it is
pub state_here : (t : Rows) (s p : ℕ) → s < length (states_below (length t.texts.items) (rows_of t)) → p ≡ (state_at (length t.texts.items) (rows_of t) s).player → IsState t s p
state_here t s p l e =
    let split = state_split (length t.texts.items) (rows_of t) s l in
    let here = state_within t s split.player split.low (omega (arith, split.is)) (omega (arith, split.is, split.within, one_player_more split.player (rows_of t))) in
    subst (IsState t s) (sym (e ∙ ap (λ (state : InfoState). state.player) here.is)) here

-- ---- searching
-- the information state behind those of the players before
pub state_found : (t : Rows) (p n : ℕ) (texts : List (List ℕ)) (text : List ℕ) → IsPlayerTexts t p texts → p < length t.texts.items → n < length texts → text_at texts n ≡ text
    → state_at (length t.texts.items) (rows_of t) (length (states_below p (rows_of t)) + n) ≡ record { player = p; text = text }
state_found t p n texts text are low within e =
    state_there (length t.texts.items) p n (rows_of t) low (subst (λ (ts : List (List ℕ)). n < length ts) are.is within)
    ∙ ap (λ (text : List ℕ). record { player = p; text = text }) (ap (λ (ts : List (List ℕ)). text_at ts n) (sym are.is) ∙ e)

-- a text that is no text of the player is in no information state
pub state_missed : (t : Rows) (p : ℕ) (texts : List (List ℕ)) (text : List ℕ) → IsPlayerTexts t p texts → (Contains texts text → ⊥)
    → Contains (states_below (length t.texts.items) (rows_of t)) (record { player = p; text = text }) → ⊥
state_missed t p texts text are none c =
    let players = length t.texts.items in
    let rows = rows_of t in
    let state : InfoState = record { player = p; text = text } in
    let split = state_split players rows c.0 c.1 in
    let there : state_at players rows c.0 ≡ record { player = split.player; text = text_at (texts_seen split.player rows) split.number } =
    ap (state_at players rows) split.is ∙ state_there players split.player split.number rows split.low split.within in
    let same : record { player = split.player; text = text_at (texts_seen split.player rows) split.number } ≡ state =
    sym there ∙ same_read (states_below players rows) c.0 no_state state c.1 ∙ c.2 in
    let player : split.player ≡ p = ap (λ (s : InfoState). s.player) same in
    let seen : text_at (texts_seen split.player rows) split.number ≡ text = ap (λ (s : InfoState). s.text) same in
    let all : texts_seen split.player rows ≡ texts = ap (λ (q : ℕ). texts_seen q rows) player ∙ sym are.is in
    let within : split.number < length texts = subst (λ (ts : List (List ℕ)). split.number < length ts) all split.within in
    let at : slice_index_or texts split.number [] ≡ text = ap (λ (ts : List (List ℕ)). text_at ts split.number) (sym all) ∙ seen in
    none (split.number, within, same_read texts split.number text [] within ∙ at)
