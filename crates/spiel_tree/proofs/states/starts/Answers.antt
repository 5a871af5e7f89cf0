use Rattle.std.proofs.Common.{rules, arith, ◌≡◌, ◌+◌, ◌<◌, ◌≤◌, ◌⊎◌, inl, inr, ℕ, suc, List, [], ◌∷◌, ◌++◌, length, add-one, ap, sym, subst, ◌∙◌}
use Rattle.std.specs.Prelude.{slice_index}
use Rattle.std.proofs.lemmas.Bool.{cases_lt}
use Rattle.std.proofs.lemmas.List.{get_or_append_left, get_or_push, length_push}
use Rattle.spiel_tree.specs.Flat.{rows_of}
use Rattle.spiel_tree.specs.States.{states_below}
use Rattle.spiel_tree.proofs.StateReading.{player_texts}
use Rattle.spiel_tree.proofs.states.starts.Goals as goal

-- one number more in a list of the values of a function
each_more : (f : ℕ → ℕ) (starts new : List ℕ) (n x : ℕ) → length starts ≡ suc n → new ≡ starts ++ x ∷ [] → ((p : ℕ) → p ≤ n → slice_index starts p ≡ f p) → x ≡ f (n + 1)
    → (p : ℕ) → p ≤ n + 1 → slice_index new p ≡ f p
each_more f starts new n x long added before here p l = subst (λ (xs : List ℕ). slice_index xs p ≡ f p) (sym added) (by (cases_lt p (n + 1)))
  where
    by : (p < n + 1) ⊎ (n + 1 ≤ p) → slice_index (starts ++ x ∷ []) p ≡ f p
    by (inl w) = get_or_append_left starts (x ∷ []) 0 p (omega (arith, w, long)) ∙ before p (omega (arith, w))
    by (inr w) = let same : n + 1 ≡ p = omega arith in get_or_push starts x 0 p (omega (arith, long, same)) ∙ here ∙ ap f same

pub loop-player-preserved : goal.loop-player-preserved
loop-player-preserved c =
    let rows = rows_of c.args.rows.now in
    let player = c.loop-player.player in
    let so_far = c.loop-player.invariant in
    let low : player < length c.args.rows.now.texts.items = search rules in
    let texts = player_texts c.args.rows.now player c.index.result.now c.requires.built low c.index.ensures in
    let counted : c.loop-player.count + c.len.result ≡ length (states_below (player + 1) rows) =
    ap (λ n. n + c.len.result) so_far.count ∙ ap (λ n. length (states_below player rows) + n) c.len.ensures ∙ sym texts.next ∙ sym (ap (λ (n : ℕ). length (states_below n rows)) (add-one player)) in
    record {
      long = ap length c.in_ok-push-2.ensures.items ∙ length_push c.loop-player.starts.items (c.loop-player.count + c.len.result) ∙ omega (arith, so_far.long);
      count = counted;
      each = each_more (λ n. length (states_below n rows)) c.loop-player.starts.items c.push-in-loop-player.new.self.items player (c.loop-player.count + c.len.result) so_far.long c.in_ok-push-2.ensures.items so_far.each counted;
    }
