-- The state of a game of several rounds, as its last number is taken back.
use Rattle.std.specs.Prelude.{◌≡◌, ℕ, suc, ◌+◌, ◌*◌, ◌<◌, ◌≤◌, List, [], ◌∷◌, ◌++◌, length, take, drop, slice_index_or}
use Rattle.std.proofs.Common.{refl, sym, subst, ◌∙◌, ap, arith, inl, inr, length-drop}
use Rattle.std.proofs.Math.Nat.{suc-mul, zero-mul, mul-le-mul_right}
use Rattle.std.proofs.lemmas.List.{take_all, take-append-le, get_or_append_left, get_or_push, length_push}
use Rattle.spiel_api.specs.declared.game.Game.{Ghosts}
use Rattle.spiel_api.specs.States.{StandsFor}
use Rattle.spiel_api.specs.Laws.{IsLawful}
use Rattle.spiel_api.specs.Plays.{IsPlay}
use Rattle.spiel_api.proofs.PlayLemmas.{IsPlay-front}
use Rattle.spiel_layers.specs.Repeated.{repeated_rules}
use Rattle.spiel_layers.specs.RepeatedState.{IsRoundAt, IsRepeatedAt, IsInRound}
use Rattle.spiel_layers.specs.PieceLaws.{decide, drop_push}
use Rattle.spiel_layers.specs.RepeatedLaws.{rounds_short}
use Rattle.spiel_layers.specs.declared.repeated.Repeated.{Repeated}
use Rattle.spiel_layers.specs.declared.repeated.RepeatedState.{RepeatedState}
use Rattle.spiel_layers.proofs.RepeatedSteps.{drop_append}

module _ {G S : Type 0} {inner : Ghosts G S} {game : Repeated G} {state : RepeatedState S} (at : IsRepeatedAt inner game state) where
  piece_long : length (inner.history_of game.stage state.stage) + length state.rounds * (inner.rules game.stage).players ≡ length state.history
  piece_long = omega (arith, ap length at.piece, length-drop (length state.rounds * (inner.rules game.stage).players) state.history, at.long)

  -- the round that is played has a number
  pub in_round : IsLawful (inner.rules game.stage) → 0 < length (inner.history_of game.stage state.stage) → IsInRound inner game state
  in_round laws some =
      let n = (inner.rules game.stage).players in
      let most : length state.history ≤ game.times * n = rounds_short (inner.rules game.stage) laws game.times at.can.shot state.history at.play in
      let open_ : length state.rounds < game.times = elim (decide (length state.rounds) game.times) [
        | inl l ↦ l
        | inr l ↦ (let room : game.times * n ≤ length state.rounds * n = mul-le-mul_right n l in absurd (omega (arith, piece_long)))
      ] in
      record {
        can = at.can;
        play = at.play;
        count = open_;
        now = at.now;
        piece = at.piece;
        long = omega (arith, piece_long);
        short = omega (arith, at.short);
        done = at.done;
      }

  -- the round that is played has no number, so that there is one that is over
  pub some_over : length (inner.history_of game.stage state.stage) ≡ 0 → 0 < length state.history → state.rounds ≡ [] → ⊥
  some_over none some e = omega (arith, piece_long, ap (λ (rounds : List S). length rounds * (inner.rules game.stage).players) e, zero-mul (inner.rules game.stage).players)

  -- and the last one of these comes back
  pub back_in_round : IsLawful (inner.rules game.stage) → length (inner.history_of game.stage state.stage) ≡ 0 → (front : List S) (last : S) → state.rounds ≡ front ++ last ∷ []
      → IsInRound inner game (record { history = state.history; rounds = front; stage = last })
  back_in_round laws none front last e =
      let n = (inner.rules game.stage).players in
      let one_more : length state.rounds ≡ length front + 1 = ap length e ∙ length_push front last in
      let whole : length state.history ≡ length front * n + n = omega (arith, piece_long, ap (λ k. k * n) one_more) in
      let here = subst (λ (rounds : List S). (j : ℕ) (d : S) → j < length rounds → IsRoundAt inner game.stage n j state.history (slice_index_or rounds j d)) e at.done in
      let round = subst (IsRoundAt inner game.stage n (length front) state.history) (get_or_push front last last (length front) refl) (here (length front) last (omega (arith, length_push front last))) in
      record {
        can = at.can;
        play = at.play;
        count = omega (arith, at.count);
        now = round.sound;
        piece = round.told ∙ take_all n (drop (length front * n) state.history) (omega (arith, length-drop (length front * n) state.history));
        long = omega (arith, laws.limits.players_low);
        short = omega arith;
        done = λ j d l. subst (IsRoundAt inner game.stage n j state.history) (get_or_append_left front (last ∷ []) d j l) (here j d (omega (arith, length_push front last)));
      }

module _ {G S : Type 0} {inner : Ghosts G S} {game : Repeated G} {state : RepeatedState S} (at : IsInRound inner game state) where
  -- there is a number to take back
  pub some_number : 0 < length (inner.history_of game.stage state.stage)
  some_number = omega (arith, ap length at.piece, length-drop (length state.rounds * (inner.rules game.stage).players) state.history, at.long)

  -- without the last number the state stands for what is before it
  pub undone : (h i : List ℕ) (a : ℕ) (s : S) → state.history ≡ h ++ a ∷ [] → i ≡ h
      → ((j : List ℕ) (b : ℕ) → inner.history_of game.stage state.stage ≡ j ++ b ∷ [] → StandsFor (inner.is_at game.stage) (inner.history_of game.stage) s j)
      → StandsFor (λ t. IsRepeatedAt inner game t) (λ t. t.history) (record { history = i; rounds = state.rounds; stage = s }) h
  undone h i a s e same back =
      let n = (inner.rules game.stage).players in
      let r = length state.rounds in
      let one_more : length state.history ≡ length h + 1 = ap length e ∙ length_push h a in
      let long : r * n ≤ length h = omega (arith, at.long) in
      let piece : inner.history_of game.stage state.stage ≡ drop (r * n) h ++ a ∷ [] = at.piece ∙ ap (drop (r * n)) e ∙ drop_push (r * n) h a long in
      let inside = back (drop (r * n) h) a piece in
      subst (λ (z : List ℕ). StandsFor (λ t. IsRepeatedAt inner game t) (λ t. t.history) (record { history = z; rounds = state.rounds; stage = s }) h) (sym same) (record {
        sound = record {
          can = at.can;
          play = IsPlay-front (repeated_rules game.times (inner.rules game.stage)) h (a ∷ []) (subst (IsPlay (repeated_rules game.times (inner.rules game.stage))) e at.play);
          count = omega (arith, at.count);
          now = inside.sound;
          piece = inside.history;
          long = long;
          short = omega (arith, at.short);
          done = λ j d l.
              let round = at.done j d l in
              let room : suc j * n ≤ r * n = mul-le-mul_right n l in
              let fits : j * n + n ≤ length h = omega (arith, suc-mul j n) in
              record {
                sound = round.sound;
                told = round.told ∙ ap (λ z. take n (drop (j * n) z)) e ∙ ap (take n) (drop_append (j * n) h (a ∷ []) (omega arith)) ∙ take-append-le n (drop (j * n) h) (a ∷ []) (omega (arith, length-drop (j * n) h));
              };
        };
        history = refl;
      })
