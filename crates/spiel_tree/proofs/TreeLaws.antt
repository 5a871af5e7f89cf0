-- What the laws of a game give of its tree.
use Rattle.std.proofs.Common.{◌≡◌, ℕ, zero, suc, ◌-◌, ◌^◌, ◌<◌, ◌≤◌, Bool, true, false, nat_lt, ltb-true, ltb-false, List, [], ◌∷◌, ◌++◌, length, map, get_or, refl, ap, sym, subst, ◌∙◌, arith}
use Rattle.std.specs.Prelude.{ℤ, pos, nat_abs, slice_index, slice_index_or, sum}
use Rattle.std.proofs.Math.ListN.{get_or-append}
use Rattle.std.proofs.Math.Seq.{get_or-append_seam}
use Rattle.std.proofs.lemmas.List.{get_or-map, length-map, length_push}
use Rattle.std.proofs.lemmas.List.Elements.{All-get_or, Contains-get_or}
use Rattle.spiel_api.specs.declared.place.Place.{Place}
use Rattle.spiel_api.specs.declared.place.Place.TheVariants.{End, Chance, Move, Joint}
use Rattle.spiel_api.specs.Place.{IsOpen}
use Rattle.spiel_api.specs.Rules.{Rules, next_of}
use Rattle.spiel_api.specs.Plays.{IsPlay}
use Rattle.spiel_api.specs.Laws.{IsLawful}
use Rattle.spiel_api.proofs.PlayLemmas.{IsPlay-more, IsPlay-nil}
use Rattle.spiel_tree.specs.Histories.{below, histories_from}
use Rattle.spiel_tree.specs.Rows.{Row, pays_at, pays_below, row_of, rows, way_from, way_on, weights_at}
use Rattle.spiel_tree.specs.Flat.{no_row, row_at}
use Rattle.spiel_tree.specs.Closed.{IsClosed, LeadsOn}
use Rattle.spiel_tree.specs.Trees.{IsGameTree, Whole}
use Rattle.spiel_tree.proofs.Children.{child_below, history_at}
use Rattle.spiel_tree.proofs.OfGame.{IsOfPlay, all_plays, rows_of_plays, pays_count, tree_some}
use Rattle.spiel_tree.proofs.Ways.{way_behind}

-- ---- the rows go on
-- the row at a place is that of the play there
pub record IsPlayAt (r : Rules) (hs : List (List ℕ)) (k : ℕ) : Type 0 where
  pub within : k < length hs
  pub play : IsPlay r (history_at hs k)
  pub row : row_at (map (row_of r) hs) k ≡ row_of r (history_at hs k)

pub play_at : (r : Rules) (n k : ℕ) → k < length (map (row_of r) (below (next_of r) n [])) → IsPlayAt r (below (next_of r) n []) k
play_at r n k l =
    let hs = below (next_of r) n [] in
    let within : k < length hs = omega (arith, l, length-map hs (row_of r)) in
    record {
      within = within;
      play = All-get_or (IsPlay r) hs k [] within (all_plays r n [] (IsPlay-nil r));
      row = get_or-map (row_of r) hs k [] no_row within;
    }

-- each number at a row leads on, where all plays are listed
leads_on : (r : Rules) → IsLawful r → (n : ℕ) → 4096 ≤ n → (k i : ℕ) → k < length (map (row_of r) (below (next_of r) n []))
    → i < length (row_at (map (row_of r) (below (next_of r) n [])) k).here.numbers → LeadsOn (map (row_of r) (below (next_of r) n [])) k i
leads_on r laws n long k i l legal =
    let hs = below (next_of r) n [] in
    let h = history_at hs k in
    let at = play_at r n k l in
    let there : i < length (next_of r h) = subst (λ (row : Row). i < length row.here.numbers) at.row legal in
    let a = slice_index (next_of r h) i in
    let short = laws.limits.short (h ++ a ∷ []) (IsPlay-more r h a at.play (Contains-get_or (next_of r h) i 0 there)) in
    let child = child_below (next_of r) n [] k i at.within (omega (arith, short, length_push h a, long)) there in
    let row : row_at (map (row_of r) hs) child.place ≡ row_of r (history_at hs child.place) = get_or-map (row_of r) hs child.place [] no_row child.within in
    record {
      row = child.place;
      after = child.after;
      within = omega (arith, child.within, length-map hs (row_of r));
      way = ap (λ (x : Row). x.way) row ∙ ap (way_from r []) child.is ∙ sym (way_behind r laws h at.play i there) ∙ ap (λ (x : Row). way_on x i) (sym at.row);
    }

pub way_length : (r : Rules) (h xs : List ℕ) → length (way_from r h xs) ≡ length xs
way_length r h [] = refl
way_length r h (a ∷ xs) = ap suc (way_length r (h ++ a ∷ []) xs)

closed_by : (r : Rules) → IsLawful r → (n : ℕ) → 4096 ≤ n → IsClosed (map (row_of r) (below (next_of r) n [])) 4096
closed_by r laws n long = record {
  goes_on = λ k l open_there.
      let hs = below (next_of r) n [] in
      let at = play_at r n k l in
      let some = laws.numbers.goes_on (history_at hs k) at.play (subst (λ (row : Row). IsOpen row.here.place) at.row open_there) in
      let legal : 0 < length (row_at (map (row_of r) hs) k).here.numbers = subst (λ (row : Row). 0 < length row.here.numbers) (sym at.row) some in
      let child = leads_on r laws n long k 0 l legal in
      record { index = 0; legal = legal; row = child.row; after = child.after; within = child.within; way = child.way };
  bounded = λ k l.
      let at = play_at r n k l in
      let h = history_at (below (next_of r) n []) k in
      omega (arith, ap (λ (row : Row). length row.way) at.row, way_length r [] h, laws.limits.short h at.play);
}

rows_closed : (r : Rules) → IsLawful r → IsClosed (rows r) 4096
unfolding histories_from
rows_closed r laws = closed_by r laws (4096 - length {A = ℕ} []) (omega arith)

rows_lead_on : (r : Rules) → IsLawful r → (k i : ℕ) → k < length (rows r) → i < length (row_at (rows r) k).here.numbers → LeadsOn (rows r) k i
unfolding histories_from
rows_lead_on r laws = leads_on r laws (4096 - length {A = ℕ} []) (omega arith)

-- the tree of a game goes on until the end, which comes after 4,096 numbers at most
pub tree_closed : (tree : Whole) → IsGameTree tree → IsClosed tree.rows 4096
tree_closed tree game = subst (λ (t : Whole). IsClosed t.rows 4096) (sym game.is) (rows_closed game.rules game.lawful)

-- each number at each row leads on
pub tree_leads_on : (tree : Whole) → IsGameTree tree → (k i : ℕ) → k < length tree.rows → i < length (row_at tree.rows k).here.numbers → LeadsOn tree.rows k i
tree_leads_on tree game =
    subst (λ (t : Whole). (k i : ℕ) → k < length t.rows → i < length (row_at t.rows k).here.numbers → LeadsOn t.rows k i) (sym game.is) (rows_lead_on game.rules game.lawful)

-- ---- the end
-- closed rows end with one at the end
last_ends : (rows : List Row) (bound k : ℕ) → IsClosed rows bound → suc k ≡ length rows → (place : Place) → (row_at rows k).here.place ≡ place → (row_at rows k).here.place ≡ End
last_ends rows bound k closed last End e = e
last_ends rows bound k closed last Chance e = let on = closed.goes_on k (omega (arith, last)) (subst IsOpen (sym e) tt) in absurd (omega (arith, on.after, on.within, last))
last_ends rows bound k closed last (Move p) e = let on = closed.goes_on k (omega (arith, last)) (subst IsOpen (sym e) tt) in absurd (omega (arith, on.after, on.within, last))
last_ends rows bound k closed last (Joint p) e = let on = closed.goes_on k (omega (arith, last)) (subst IsOpen (sym e) tt) in absurd (omega (arith, on.after, on.within, last))

-- a row of the tree of a game is at the end
pub ends_there : (tree : Whole) → IsGameTree tree → (k : ℕ) × (k < length tree.rows) × ((row_at tree.rows k).here.place ≡ End)
ends_there tree game =
    let some = tree_some tree game in
    let k = length tree.rows - 1 in
    let last : suc k ≡ length tree.rows = omega (arith, some) in
    (k, omega (arith, last), last_ends tree.rows 4096 k (tree_closed tree game) last (row_at tree.rows k).here.place refl)

-- ---- the numbers that stand in the rows
of_play : (r : Rules) (k : ℕ) → k < length (rows r) → IsOfPlay r (row_at (rows r) k)
of_play r k l = All-get_or (IsOfPlay r) (rows r) k no_row l (rows_of_plays r)

chance_sum_of : (r : Rules) → IsLawful r → (row : Row) → IsOfPlay r row → row.here.place ≡ Chance → (1 ≤ sum row.here.weights) × (sum row.here.weights ≤ 2 ^ 62)
chance_sum_of r laws row of chance =
    let there : r.place of.history ≡ Chance = sym (ap (λ (x : Row). x.here.place) of.is) ∙ chance in
    let weights : row.here.weights ≡ r.weights of.history = ap (λ (x : Row). x.here.weights) of.is ∙ ap (λ (place : Place). weights_at place (r.weights of.history)) there in (
      subst (λ (ws : List ℕ). 1 ≤ sum ws) (sym weights) (laws.chance.weight_low of.history of.play there),
      subst (λ (ws : List ℕ). sum ws ≤ 2 ^ 62) (sym weights) (laws.chance.weight_high of.history of.play there),
    )

-- the weights of a chance node sum to 1 to 2^62
pub chance_sums : (tree : Whole) → IsGameTree tree → (k : ℕ) → k < length tree.rows → (row_at tree.rows k).here.place ≡ Chance
    → (1 ≤ sum (row_at tree.rows k).here.weights) × (sum (row_at tree.rows k).here.weights ≤ 2 ^ 62)
chance_sums tree game =
    subst (λ (t : Whole). (k : ℕ) → k < length t.rows → (row_at t.rows k).here.place ≡ Chance → (1 ≤ sum (row_at t.rows k).here.weights) × (sum (row_at t.rows k).here.weights ≤ 2 ^ 62)) (sym game.is)
    (λ k l. chance_sum_of game.rules game.lawful (row_at (rows game.rules) k) (of_play game.rules k l))

-- the return of a player among those of all
pay_there : (pay : ℕ → ℤ) (n p : ℕ) → p < n → slice_index_or (pays_below pay n) p (pos 0) ≡ pay p
pay_there pay zero p l = absurd (omega (arith, l))
pay_there pay (suc n) p l = by (nat_lt p n) refl (λ m. pay_there pay n p m)
  where
    by : (b : Bool) → nat_lt p n ≡ b → (p < n → get_or (pays_below pay n) p (pos 0) ≡ pay p) → get_or (pays_below pay n ++ pay n ∷ []) p (pos 0) ≡ pay p
    by true e ih =
        let below_n : p < n = ltb-true _ _ e in
        get_or-append (pays_below pay n) (pay n ∷ []) (pos 0) p (omega (arith, below_n, pays_count pay n)) ∙ ih below_n
    by false e ih =
        let same : p ≡ n = omega (arith, l, ltb-false _ _ e) in
        let at : p ≡ length (pays_below pay n) = omega (arith, same, pays_count pay n) in
        ap (λ (q : ℕ). get_or (pays_below pay n ++ pay n ∷ []) q (pos 0)) at ∙ get_or-append_seam (pays_below pay n) (pay n) [] (pos 0) ∙ ap pay (sym same)

pay_small_of : (r : Rules) → IsLawful r → (row : Row) → IsOfPlay r row → row.here.place ≡ End → (p : ℕ) → p < r.players → nat_abs (slice_index_or row.here.pays p (pos 0)) ≤ 2 ^ 62
pay_small_of r laws row of over p l =
    let there : r.place of.history ≡ End = sym (ap (λ (x : Row). x.here.place) of.is) ∙ over in
    let pay : slice_index_or row.here.pays p (pos 0) ≡ r.pay of.history p =
    ap (λ (x : Row). slice_index_or x.here.pays p (pos 0)) of.is
    ∙ ap (λ (place : Place). slice_index_or (pays_at place (pays_below (r.pay of.history) r.players)) p (pos 0)) there
    ∙ pay_there (r.pay of.history) r.players p l in
    omega (arith, ap nat_abs pay, laws.capped of.history p of.play there l, laws.limits.cap_high)

-- no return is larger in size than 2^62
pub pays_small : (tree : Whole) → IsGameTree tree → (k : ℕ) → k < length tree.rows → (row_at tree.rows k).here.place ≡ End
    → (p : ℕ) → p < tree.players → nat_abs (slice_index_or (row_at tree.rows k).here.pays p (pos 0)) ≤ 2 ^ 62
pays_small tree game =
    subst (λ (t : Whole). (k : ℕ) → k < length t.rows → (row_at t.rows k).here.place ≡ End → (p : ℕ) → p < t.players → nat_abs (slice_index_or (row_at t.rows k).here.pays p (pos 0)) ≤ 2 ^ 62) (sym game.is)
    (λ k l. pay_small_of game.rules game.lawful (row_at (rows game.rules) k) (of_play game.rules k l))
