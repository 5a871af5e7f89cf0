-- Where somebody moves there is an information state.
use Rattle.std.proofs.Common.{◌≡◌, ℕ, zero, suc, ◌<◌, Bool, true, false, cond, List, [], ◌∷◌, length, eq-eqb, refl, ap, subst, ◌∙◌, arith}
use Rattle.spiel_api.specs.declared.place.Place.TheVariants.{Move}
use Rattle.spiel_api.specs.Place.{IsAmongPlayers}
use Rattle.spiel_tree.specs.FirstSeen.{first_seen, place_of_text, with_text}
use Rattle.spiel_tree.specs.Rows.{Row}
use Rattle.spiel_tree.specs.Flat.{infos, moves, row_at}
use Rattle.spiel_tree.specs.States.{state_number, states_below}
use Rattle.spiel_tree.specs.Trees.{Whole, IsGameTree}
use Rattle.spiel_tree.proofs.FirstSeen.{length-with_text, place_kept, place_same, place_within}
use Rattle.spiel_tree.proofs.OfGame.{sound_rows}
use Rattle.spiel_tree.proofs.StateNumbers.{players_within}

-- a text that was seen has a place from then on
seen_stays : (seen texts : List (List ℕ)) (t : List ℕ) → place_of_text seen t < length seen → place_of_text (first_seen seen texts) t < length (first_seen seen texts)
seen_stays seen [] t l = l
seen_stays seen (x ∷ texts) t l = seen_stays (with_text seen x) texts t (omega (arith, l, place_kept seen x t l, length-with_text seen x))

-- so has the text of each mover
seen_comes : (p : ℕ) (seen : List (List ℕ)) (rows : List Row) (k : ℕ) → k < length rows → (row_at rows k).here.place ≡ Move p
    → place_of_text (first_seen seen (infos p rows)) (row_at rows k).here.info < length (first_seen seen (infos p rows))
seen_comes p seen [] k l e = absurd (omega arith)
seen_comes p seen (row ∷ rows) zero l e = by (moves p row.here.place) (ap (moves p) e ∙ eq-eqb p p refl)
  where
    info : List ℕ
    info = row.here.info

    by : (b : Bool) → b ≡ true → place_of_text (first_seen seen (cond b (info ∷ infos p rows) (infos p rows))) info < length (first_seen seen (cond b (info ∷ infos p rows) (infos p rows)))
    by true f = seen_stays (with_text seen info) (infos p rows) info (omega (arith, place_same seen info, place_within seen info))
    by false f = cc
seen_comes p seen (row ∷ rows) (suc k) l e = by (moves p row.here.place) (λ more. seen_comes p more rows k (omega arith) e)
  where
    info : List ℕ
    info = (row_at rows k).here.info

    by : (b : Bool) → ((more : List (List ℕ)) → place_of_text (first_seen more (infos p rows)) info < length (first_seen more (infos p rows)))
        → place_of_text (first_seen seen (cond b (row.here.info ∷ infos p rows) (infos p rows))) info < length (first_seen seen (cond b (row.here.info ∷ infos p rows) (infos p rows)))
    by true ih = ih (with_text seen row.here.info)
    by false ih = ih seen

-- the number of a mover's information state is one of all
pub move_state : (tree : Whole) → IsGameTree tree → (k p : ℕ) → k < length tree.rows → (row_at tree.rows k).here.place ≡ Move p
    → state_number tree.rows p (row_at tree.rows k).here.info < length (states_below tree.players tree.rows)
move_state tree game k p l e =
    let low : p < tree.players = subst (IsAmongPlayers tree.players) e (sound_rows tree game k l).mover in
    omega (arith, seen_comes p [] tree.rows k l e, players_within tree.players p tree.rows low)
