-- The information states by their numbers.
use Rattle.std.proofs.Common.{◌≡◌, ℕ, zero, suc, ◌+◌, ◌<◌, ◌≤◌, List, [], ◌∷◌, ◌++◌, length, map, Bool, true, false, nat_lt, ltb-true, ltb-false, refl, ap, sym, subst, ◌∙◌, arith, length-append}
use Rattle.std.specs.Prelude.{slice_index_or}
use Rattle.spiel_tree.specs.Rows.{Row}
use Rattle.spiel_tree.specs.FirstSeen.{text_at}
use Rattle.spiel_tree.specs.States.{InfoState, no_state, state_at, states_below, texts_seen}

at_append : (xs ys : List InfoState) (n k : ℕ) → n ≡ length xs + k → slice_index_or (xs ++ ys) n no_state ≡ slice_index_or ys k no_state
at_append [] ys n k e = ap (λ (i : ℕ). slice_index_or ys i no_state) (omega (arith, e))
at_append (x ∷ xs) ys zero k e = absurd (omega (arith, e))
at_append (x ∷ xs) ys (suc n) k e = at_append xs ys n k (omega (arith, e))

at_front : (xs ys : List InfoState) (k : ℕ) → k < length xs → slice_index_or (xs ++ ys) k no_state ≡ slice_index_or xs k no_state
at_front [] ys k l = absurd (omega arith)
at_front (x ∷ xs) ys zero l = refl
at_front (x ∷ xs) ys (suc k) l = at_front xs ys k (omega arith)

of_player : (p : ℕ) (texts : List (List ℕ)) (n : ℕ) → n < length texts → slice_index_or (map (λ text. record { player = p; text = text }) texts) n no_state ≡ record { player = p; text = text_at texts n }
of_player p [] n l = absurd (omega arith)
of_player p (text ∷ texts) zero l = refl
of_player p (text ∷ texts) (suc n) l = of_player p texts n (omega arith)

abbrev of_texts : ℕ → List (List ℕ) → List InfoState
of_texts p texts = map (λ text. record { player = p; text = text }) texts

count_of_player : (p : ℕ) (texts : List (List ℕ)) → length (of_texts p texts) ≡ length texts
count_of_player p [] = refl
count_of_player p (text ∷ texts) = ap suc (count_of_player p texts)

-- how many information states there are with one player more
pub one_player_more : (p : ℕ) (rows : List Row) → length (states_below (suc p) rows) ≡ length (states_below p rows) + length (texts_seen p rows)
one_player_more p rows =
    omega (arith, length-append (states_below p rows) (of_texts p (texts_seen p rows)), count_of_player p (texts_seen p rows))

-- those of a player and of the players before are at most all
pub players_within : (players p : ℕ) (rows : List Row) → p < players → length (states_below p rows) + length (texts_seen p rows) ≤ length (states_below players rows)
players_within zero p rows l = absurd (omega arith)
players_within (suc players) p rows l = by (players_within players p rows) (nat_lt p players) refl
  where
    by : (p < players → length (states_below p rows) + length (texts_seen p rows) ≤ length (states_below players rows)) → (b : Bool) → nat_lt p players ≡ b → length (states_below p rows) + length (texts_seen p rows) ≤ length (states_below (suc players) rows)
    by ih true t = omega (arith, ih (ltb-true p players t), one_player_more players rows)
    by ih false t =
        let same : p ≡ players = omega (arith, l, ltb-false p players t) in
        rw same (omega (arith, one_player_more players rows))

-- the information states of a player stand behind those of the players before
pub state_there : (players p n : ℕ) (rows : List Row) → p < players → n < length (texts_seen p rows)
    → state_at players rows (length (states_below p rows) + n) ≡ record { player = p; text = text_at (texts_seen p rows) n }
state_there zero p n rows l within = absurd (omega arith)
state_there (suc players) p n rows l within = by (λ below. state_there players p n rows below within) (nat_lt p players) refl
  where
    by : (p < players → state_at players rows (length (states_below p rows) + n) ≡ record { player = p; text = text_at (texts_seen p rows) n })
        → (b : Bool) → nat_lt p players ≡ b → state_at (suc players) rows (length (states_below p rows) + n) ≡ record { player = p; text = text_at (texts_seen p rows) n }
    by ih true t =
        let below : p < players = ltb-true p players t in
        at_front (states_below players rows) (of_texts players (texts_seen players rows)) (length (states_below p rows) + n) (omega (arith, within, players_within players p rows below))
        ∙ ih below
    by ih false t =
        let same : p ≡ players = omega (arith, l, ltb-false p players t) in
        subst (λ (q : ℕ). state_at (suc players) rows (length (states_below q rows) + n) ≡ record { player = q; text = text_at (texts_seen q rows) n }) (sym same)
        (at_append (states_below players rows) (of_texts players (texts_seen players rows)) (length (states_below players rows) + n) n refl ∙ of_player players (texts_seen players rows) n (subst (λ (q : ℕ). n < length (texts_seen q rows)) same within))
