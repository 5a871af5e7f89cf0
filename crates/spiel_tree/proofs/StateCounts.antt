-- How many information states there are at most, and which number each of them has.
use Rattle.std.proofs.Common.{◌≡◌, ℕ, zero, suc, ◌+◌, ◌-◌, ◌<◌, ◌≤◌, List, [], ◌∷◌, length, Bool, true, false, cond, ◌==◌, nat_lt, ltb-true, ltb-false, eqb-true, refl, ap, sym, subst, arith}
use Rattle.std.specs.Str.{bytes_eq}
use Rattle.std.proofs.lemmas.Bool.{ne_eqb}
use Rattle.spiel_api.specs.declared.place.Place.{Place}
use Rattle.spiel_api.specs.declared.place.Place.TheVariants.{End, Chance, Move, Joint}
use Rattle.spiel_tree.specs.FirstSeen.{with_text, place_of_text, first_seen, IsNumberIn}
use Rattle.spiel_tree.specs.Rows.{Row}
use Rattle.spiel_tree.specs.Flat.{moves, infos}
use Rattle.spiel_tree.specs.States.{states_below, texts_seen}
use Rattle.spiel_tree.proofs.FirstSeen.{number_kept, number_new}
use Rattle.spiel_tree.proofs.StateNumbers.{one_player_more}

-- ---- at most as many as rows
with_text_few : (texts : List (List ℕ)) (t : List ℕ) → length (with_text texts t) ≤ suc (length texts)
with_text_few [] t = omega arith
with_text_few (x ∷ texts) t = by (bytes_eq t x) (with_text_few texts t)
  where
    by : (b : Bool) → length (with_text texts t) ≤ suc (length texts) → suc (length (cond b texts (with_text texts t))) ≤ suc (suc (length texts))
    by true l = omega arith
    by false l = omega arith

first_seen_few : (seen texts : List (List ℕ)) → length (first_seen seen texts) ≤ length seen + length texts
first_seen_few seen [] = omega arith
first_seen_few seen (t ∷ texts) = omega (arith, first_seen_few (with_text seen t) texts, with_text_few seen t)

-- how many players below n move at a place
abbrev movers : ℕ → Place → ℕ
movers zero place = 0
movers (suc n) place = movers n place + cond (moves n place) 1 0

no_movers : (n q : ℕ) → n ≤ q → movers n (Move q) ≡ 0
no_movers zero q l = refl
no_movers (suc n) q l = rw (ne_eqb n q (λ e. omega (arith, e, l))) (omega (arith, no_movers n q (omega arith)))

one_mover : (n : ℕ) (place : Place) → movers n place ≤ 1
one_mover zero place = omega arith
one_mover (suc n) End = omega (arith, one_mover n End)
one_mover (suc n) Chance = omega (arith, one_mover n Chance)
one_mover (suc n) (Joint q) = omega (arith, one_mover n (Joint q))
one_mover (suc n) (Move q) = by (n == q) refl (one_mover n (Move q))
  where
    by : (b : Bool) → (n == q) ≡ b → movers n (Move q) ≤ 1 → movers n (Move q) + cond b 1 0 ≤ 1
    by true e l = omega (arith, no_movers n q (omega (arith, eqb-true n q e)))
    by false e l = omega (arith, l)

-- how many moves the players below n have
abbrev moves_below : ℕ → List Row → ℕ
moves_below zero rows = 0
moves_below (suc n) rows = moves_below n rows + length (infos n rows)

no_moves : (n : ℕ) → moves_below n [] ≡ 0
no_moves zero = refl
no_moves (suc n) = omega (arith, no_moves n)

one_row_more : (n : ℕ) (row : Row) (rows : List Row) → moves_below n (row ∷ rows) ≡ movers n row.here.place + moves_below n rows
one_row_more zero row rows = refl
one_row_more (suc n) row rows = by (moves n row.here.place) (one_row_more n row rows)
  where
    by : (b : Bool) → moves_below n (row ∷ rows) ≡ movers n row.here.place + moves_below n rows
        → moves_below n (row ∷ rows) + length (cond b (row.here.info ∷ infos n rows) (infos n rows)) ≡ (movers n row.here.place + cond b 1 0) + (moves_below n rows + length (infos n rows))
    by true e = omega (arith, e)
    by false e = omega (arith, e)

moves_few : (n : ℕ) (rows : List Row) → moves_below n rows ≤ length rows
moves_few n [] = omega (arith, no_moves n)
moves_few n (row ∷ rows) = omega (arith, one_row_more n row rows, one_mover n row.here.place, moves_few n rows)

states_moves : (n : ℕ) (rows : List Row) → length (states_below n rows) ≤ moves_below n rows
states_moves zero rows = omega arith
states_moves (suc n) rows = omega (arith, states_moves n rows, one_player_more n rows, first_seen_few [] (infos n rows))

-- there are at most as many information states as rows
pub states_few : (players : ℕ) (rows : List Row) → length (states_below players rows) ≤ length rows
states_few players rows = omega (arith, states_moves players rows, moves_few players rows)

-- ---- each text that was seen is there once
with_text_last : (texts : List (List ℕ)) (t : List ℕ) (n : ℕ) → n < length (with_text texts t) → length texts ≤ n → n ≡ place_of_text texts t
with_text_last [] t n l m = omega arith
with_text_last (x ∷ texts) t zero l m = absurd (omega arith)
with_text_last (x ∷ texts) t (suc n) l m = by (bytes_eq t x) l (λ k. with_text_last texts t n k (omega arith))
  where
    by : (b : Bool) → suc n < suc (length (cond b texts (with_text texts t))) → (n < length (with_text texts t) → n ≡ place_of_text texts t) → suc n ≡ cond b 0 (suc (place_of_text texts t))
    by true l ih = absurd (omega arith)
    by false l ih = ap suc (ih (omega arith))

numbers_with : (texts : List (List ℕ)) (t : List ℕ) → ((n : ℕ) → n < length texts → IsNumberIn texts n) → (n : ℕ) → n < length (with_text texts t) → IsNumberIn (with_text texts t) n
numbers_with texts t are n l = by (nat_lt n (length texts)) refl
  where
    by : (b : Bool) → nat_lt n (length texts) ≡ b → IsNumberIn (with_text texts t) n
    by true e = number_kept texts t n (are n (ltb-true _ _ e))
    by false e = subst (IsNumberIn (with_text texts t)) (sym (with_text_last texts t n l (ltb-false _ _ e))) (number_new texts t)

numbers_after : (seen texts : List (List ℕ)) → ((n : ℕ) → n < length seen → IsNumberIn seen n) → (n : ℕ) → n < length (first_seen seen texts) → IsNumberIn (first_seen seen texts) n
numbers_after seen [] are n l = are n l
numbers_after seen (t ∷ texts) are n l = numbers_after (with_text seen t) texts (numbers_with seen t are) n l

pub text_number : (p : ℕ) (rows : List Row) (n : ℕ) → n < length (texts_seen p rows) → IsNumberIn (texts_seen p rows) n
text_number p rows n l = numbers_after [] (infos p rows) (λ k m. absurd (omega arith)) n l

-- ---- each number is that of a text of a player
pub record IsSplit (players : ℕ) (rows : List Row) (s : ℕ) : Type 0 where
  pub player : ℕ
  pub number : ℕ
  pub low : player < players
  pub within : number < length (texts_seen player rows)
  pub is : s ≡ length (states_below player rows) + number

pub state_split : (players : ℕ) (rows : List Row) (s : ℕ) → s < length (states_below players rows) → IsSplit players rows s
state_split zero rows s l = absurd (omega arith)
state_split (suc n) rows s l = by (state_split n rows s) (nat_lt s (length (states_below n rows))) refl
  where
    by : (s < length (states_below n rows) → IsSplit n rows s) → (b : Bool) → nat_lt s (length (states_below n rows)) ≡ b → IsSplit (suc n) rows s
    by ih true e =
        let split = ih (ltb-true _ _ e) in
        record { player = split.player; number = split.number; low = omega (arith, split.low); within = split.within; is = split.is }
    by ih false e =
        let behind : length (states_below n rows) ≤ s = ltb-false _ _ e in
        record { player = n; number = s - length (states_below n rows); low = omega arith; within = omega (arith, behind, l, one_player_more n rows); is = omega (arith, behind) }
