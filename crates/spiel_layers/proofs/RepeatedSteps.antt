-- The state of a game of several rounds, as a number is added to it.
use Rattle.std.specs.Prelude.{◌≡◌, ℕ, zero, suc, ◌+◌, ◌*◌, ◌^◌, ◌<◌, ◌≤◌, ◌+ℤ◌, nat_abs, Bool, true, false, nat_lt, List, [], ◌∷◌, ◌++◌, length, take, drop, slice_index_or, Some, None}
use Rattle.std.specs.Bool.{MatchBool}
use Rattle.std.specs.List.{Contains}
use Rattle.std.proofs.Common.{refl, sym, subst, ◌∙◌, ap, arith, inl, inr, add-one, length-drop, length-append}
use Rattle.std.proofs.Math.Nat.{suc-mul, mul-le-mul_right}
use Rattle.std.proofs.lemmas.Bool.{ltb-true, ltb-false}
use Rattle.std.proofs.lemmas.List.{take_all, take-append-le, get_or_append_left, get_or_push, length_push, length-take-le}
use Rattle.spiel_api.specs.declared.place.Place.TheVariants.{End}
use Rattle.spiel_api.specs.declared.game.Game.{Ghosts}
use Rattle.spiel_api.specs.Rules.{next_of}
use Rattle.spiel_api.specs.States.{StandsFor}
use Rattle.spiel_api.specs.Plays.{IsPlay}
use Rattle.spiel_api.specs.Laws.{IsLawful}
use Rattle.spiel_api.proofs.PlayLemmas.{IsPlay-more}
use Rattle.spiel_layers.specs.Repeated.{piece_of, at_piece, rounds_pay, repeated_rules}
use Rattle.spiel_layers.specs.RepeatedState.{IsRoundAt, IsRepeatedAt}
use Rattle.spiel_layers.specs.PieceLaws.{decide, drop_whole, piece_at, piece_over}
use Rattle.spiel_layers.specs.RepeatedLaws.{IsSoundPiece, next_none, next_some, sound, stage_place, round_play, pay_bound}
use Rattle.spiel_layers.specs.declared.repeated.Repeated.{Repeated}
use Rattle.spiel_layers.specs.declared.repeated.RepeatedState.{RepeatedState}

-- numbers behind a list are behind what is left of it
pub drop_append : (m : ℕ) (h xs : List ℕ) → m ≤ length h → drop m (h ++ xs) ≡ drop m h ++ xs
drop_append zero h xs l = refl
drop_append (suc m) [] xs l = absurd (omega arith)
drop_append (suc m) (x ∷ h) xs l = drop_append m h xs (omega arith)

module _ {G S : Type 0} {inner : Ghosts G S} {game : Repeated G} {state : RepeatedState S} (at : IsRepeatedAt inner game state) where
  -- a round is played
  pub piece_now : length state.rounds < game.times → piece_of (inner.rules game.stage).players game.times state.history ≡ Some (inner.history_of game.stage state.stage)
  piece_now l = piece_at (inner.rules game.stage).players game.times (length state.rounds) state.history l at.long at.short ∙ ap Some (sym at.piece)

  -- all rounds are over
  pub piece_none : game.times ≤ length state.rounds → piece_of (inner.rules game.stage).players game.times state.history ≡ None
  piece_none l = let e : length state.rounds ≡ game.times = omega (arith, at.count) in piece_over (inner.rules game.stage).players game.times state.history (subst (λ t. t * (inner.rules game.stage).players ≤ length state.history) e at.long)

  test_cases : (b : Bool) → nat_lt (length state.rounds) game.times ≡ b → MatchBool b (piece_of (inner.rules game.stage).players game.times state.history ≡ Some (inner.history_of game.stage state.stage)) (piece_of (inner.rules game.stage).players game.times state.history ≡ None)
  test_cases true e = piece_now (ltb-true (length state.rounds) game.times e)
  test_cases false e = piece_none (ltb-false (length state.rounds) game.times e)

  pub piece_test : MatchBool (nat_lt (length state.rounds) game.times) (piece_of (inner.rules game.stage).players game.times state.history ≡ Some (inner.history_of game.stage state.stage)) (piece_of (inner.rules game.stage).players game.times state.history ≡ None)
  piece_test = test_cases (nat_lt (length state.rounds) game.times) refl

  module _ (laws : IsLawful (inner.rules game.stage)) where
    -- a number is legal only while a round is played
    still_open : (a : ℕ) → Contains (next_of (repeated_rules game.times (inner.rules game.stage)) state.history) a → length state.rounds < game.times
    still_open a c = elim (decide (length state.rounds) game.times) [
      | inl l ↦ l
      | inr l ↦ (let d = subst (λ (xs : List ℕ). Contains xs a) (next_none (inner.rules game.stage) laws game.times state.history (piece_none l)) c in absurd (omega (arith, d.1)))
    ]

    pub stage_legal : (a : ℕ) → Contains (next_of (repeated_rules game.times (inner.rules game.stage)) state.history) a → Contains (next_of (inner.rules game.stage) (inner.history_of game.stage state.stage)) a
    stage_legal a c = subst (λ (xs : List ℕ). Contains xs a) (next_some (inner.rules game.stage) laws game.times state.history (inner.history_of game.stage state.stage) (piece_now (still_open a c))) c

    -- a round that is over is a whole play of the stage
    pub round_ends : (j : ℕ) (d : S) → j < length state.rounds → (inner.rules game.stage).place (inner.history_of game.stage (slice_index_or state.rounds j d)) ≡ End
    round_ends j d l =
        let n = (inner.rules game.stage).players in
        let r = at.done j d l in
        let room : suc j * n ≤ length state.rounds * n = mul-le-mul_right n l in
        let fits : j * n + n ≤ length state.history = omega (arith, suc-mul j n, at.long) in
        let play = round_play (inner.rules game.stage) laws game.times at.can.shot state.history at.play j (omega (arith, at.count)) fits in
        let long = length-take-le n (drop (j * n) state.history) (omega (arith, length-drop (j * n) state.history)) in
        ap (inner.rules game.stage).place r.told ∙ (laws.one_shot at.can.shot).one_step (take n (drop (j * n) state.history)) play long

    -- the rounds that are over stay as they are
    kept : (xs : List ℕ) (j : ℕ) (d : S) → j < length state.rounds → IsRoundAt inner game.stage (inner.rules game.stage).players j (state.history ++ xs) (slice_index_or state.rounds j d)
    kept xs j d l =
        let n = (inner.rules game.stage).players in
        let h = state.history in
        let r = at.done j d l in
        let room : suc j * n ≤ length state.rounds * n = mul-le-mul_right n l in
        let fits : j * n + n ≤ length h = omega (arith, suc-mul j n, at.long) in
        record {
          sound = r.sound;
          told = r.told ∙ sym (ap (take n) (drop_append (j * n) h xs (omega arith)) ∙ take-append-le n (drop (j * n) h) xs (omega (arith, length-drop (j * n) h)));
        }

    -- behind some numbers more, what the round's state stands for
    piece_grows : (xs : List ℕ) (s : S) → inner.history_of game.stage s ≡ inner.history_of game.stage state.stage ++ xs → inner.history_of game.stage s ≡ drop (length state.rounds * (inner.rules game.stage).players) (state.history ++ xs)
    piece_grows xs s e =
        e ∙ ap (λ z. z ++ xs) at.piece ∙ sym (drop_append (length state.rounds * (inner.rules game.stage).players) state.history xs at.long)

    length_grows : (xs : List ℕ) (s : S) → inner.history_of game.stage s ≡ inner.history_of game.stage state.stage ++ xs → length (inner.history_of game.stage s) + length state.rounds * (inner.rules game.stage).players ≡ length (state.history ++ xs)
    length_grows xs s e = omega (arith, ap length (piece_grows xs s e), length-drop (length state.rounds * (inner.rules game.stage).players) (state.history ++ xs), length-append state.history xs, at.long)

    abbrev Stands : RepeatedState S → List ℕ → Type 0
    Stands s h = StandsFor (λ t. IsRepeatedAt inner game t) (λ t. t.history) s h

    -- the round goes on
    pub stage_grows : (xs : List ℕ) (new : RepeatedState S) → new.history ≡ state.history ++ xs → new.rounds ≡ state.rounds → IsPlay (repeated_rules game.times (inner.rules game.stage)) (state.history ++ xs)
        → inner.is_at game.stage new.stage → inner.history_of game.stage new.stage ≡ inner.history_of game.stage state.stage ++ xs → length (inner.history_of game.stage new.stage) < (inner.rules game.stage).players
        → Stands new (state.history ++ xs)
    stage_grows xs new told same play sound e l =
        let all = state.history ++ xs in
        let q : Stands (record { history = all; rounds = state.rounds; stage = new.stage }) all = record {
          sound = record {
            can = at.can;
            play = play;
            count = at.count;
            now = sound;
            piece = piece_grows xs new.stage e;
            long = omega (arith, at.long, length-append state.history xs);
            short = omega (arith, length_grows xs new.stage e);
            done = kept xs;
          };
          history = refl;
        } in
        subst (λ (z : List ℕ). Stands (record { history = z; rounds = new.rounds; stage = new.stage }) all) (sym told)
        (subst (λ (z : List S). Stands (record { history = all; rounds = z; stage = new.stage }) all) (sym same) q)

    -- the round is over, and another begins
    pub round_grows : (xs h : List ℕ) (rounds : List S) (s f : S) → h ≡ state.history ++ xs → rounds ≡ state.rounds ++ s ∷ [] → IsPlay (repeated_rules game.times (inner.rules game.stage)) (state.history ++ xs) → length state.rounds < game.times
        → inner.is_at game.stage s → inner.history_of game.stage s ≡ inner.history_of game.stage state.stage ++ xs → length (inner.history_of game.stage s) ≡ (inner.rules game.stage).players → inner.is_at game.stage f → inner.history_of game.stage f ≡ []
        → Stands (record { history = h; rounds = rounds; stage = f }) (state.history ++ xs)
    round_grows xs h rounds s f told added play l sound e whole fresh none =
        let n = (inner.rules game.stage).players in
        let all = state.history ++ xs in
        let more : length (state.rounds ++ s ∷ []) * n ≡ length state.rounds * n + n = ap (λ z. z * n) (length_push state.rounds s) ∙ omega arith in
        let long : length all ≡ length state.rounds * n + n = omega (arith, length_grows xs s e) in
        let done : (j : ℕ) (d : S) → j < length (state.rounds ++ s ∷ []) → IsRoundAt inner game.stage n j all (slice_index_or (state.rounds ++ s ∷ []) j d) = λ j d m.
        elim (decide j (length state.rounds)) [
          | inl w ↦ subst (IsRoundAt inner game.stage n j all) (sym (get_or_append_left state.rounds (s ∷ []) d j w)) (kept xs j d w)
          | inr w ↦ (let last : length state.rounds ≡ j = omega (arith, length_push state.rounds s) in
              subst (IsRoundAt inner game.stage n j all) (sym (get_or_push state.rounds s d j last)) (record {
                sound = sound;
                told = (let p = piece_grows xs s e in p ∙ sym (take_all n (drop (length state.rounds * n) all) (omega (arith, ap length p))) ∙ ap (λ z. take n (drop (z * n) all)) last);
              }))
        ] in
        let q : Stands (record { history = all; rounds = state.rounds ++ s ∷ []; stage = f }) all = record {
          sound = record {
            can = at.can;
            play = play;
            count = omega (arith, length_push state.rounds s);
            now = fresh;
            piece = none ∙ sym (drop_whole (length (state.rounds ++ s ∷ []) * n) all (omega arith));
            long = omega arith;
            short = omega (arith, laws.limits.players_low);
            done = done;
          };
          history = refl;
        } in
        subst (λ (z : List ℕ). Stands (record { history = z; rounds = rounds; stage = f }) all) (sym told)
        (subst (λ (z : List S). Stands (record { history = all; rounds = z; stage = f }) all) (sym added) q)

    pub repeated_more : (a : ℕ) → Contains (next_of (repeated_rules game.times (inner.rules game.stage)) state.history) a → IsPlay (repeated_rules game.times (inner.rules game.stage)) (state.history ++ a ∷ []) × (length state.rounds < game.times)
    repeated_more a c = (IsPlay-more (repeated_rules game.times (inner.rules game.stage)) state.history a at.play c, still_open a c)

    stage_play : length state.rounds < game.times → IsPlay (inner.rules game.stage) (inner.history_of game.stage state.stage)
    stage_play l = (subst (IsSoundPiece (inner.rules game.stage)) (piece_now l) (sound (inner.rules game.stage) laws game.times state.history at.play)).0

    -- at the end all rounds are over
    pub all_over : (repeated_rules game.times (inner.rules game.stage)).place state.history ≡ End → length state.rounds ≡ game.times
    all_over e = elim (decide (length state.rounds) game.times) [
      | inl l ↦ (let f : (inner.rules game.stage).place (inner.history_of game.stage state.stage) ≡ End = sym (ap (at_piece End (inner.rules game.stage).place) (piece_now l)) ∙ e in
          let short : length (inner.history_of game.stage state.stage) < (inner.rules game.stage).players = omega (arith, ap length at.piece, length-drop (length state.rounds * (inner.rules game.stage).players) state.history, at.short, at.long) in
          let g = stage_place (inner.rules game.stage) laws game.times at.can.shot (inner.history_of game.stage state.stage) (stage_play l) short in cc)
      | inr l ↦ omega (arith, at.count)
    ]

    pub pay_step : (p j : ℕ) (d : S) → j < length state.rounds
        → rounds_pay (inner.rules game.stage).players (λ i. (inner.rules game.stage).pay i p) (j + 1) state.history ≡ rounds_pay (inner.rules game.stage).players (λ i. (inner.rules game.stage).pay i p) j state.history +ℤ (inner.rules game.stage).pay (inner.history_of game.stage (slice_index_or state.rounds j d)) p
    pay_step p j d l =
        ap (λ k. rounds_pay (inner.rules game.stage).players (λ i. (inner.rules game.stage).pay i p) k state.history) (add-one j)
        ∙ ap (λ (z : List ℕ). rounds_pay (inner.rules game.stage).players (λ i. (inner.rules game.stage).pay i p) j state.history +ℤ (inner.rules game.stage).pay z p) (sym (at.done j d l).told)

    pub pay_fits : (p j : ℕ) → p < (inner.rules game.stage).players → (repeated_rules game.times (inner.rules game.stage)).place state.history ≡ End → j ≤ game.times → nat_abs (rounds_pay (inner.rules game.stage).players (λ i. (inner.rules game.stage).pay i p) j state.history) ≤ 2 ^ 62
    pay_fits p j l e w =
        let all : game.times * (inner.rules game.stage).players ≤ length state.history = subst (λ t. t * (inner.rules game.stage).players ≤ length state.history) (all_over e) at.long in
        omega (arith, pay_bound (inner.rules game.stage) laws game.times at.can.shot state.history p at.play l all j w, mul-le-mul_right (inner.rules game.stage).cap w, at.can.cap_fits)

-- a round more stands for its piece
module _ {G S : Type 0} (inner : Ghosts G S) (stage : G) (n : ℕ) (h : List ℕ) where
  pub round_more : (i : ℕ) (rounds new : List S) (s : S) → length rounds ≡ i → new ≡ rounds ++ s ∷ []
      → ((j : ℕ) (d : S) → j < i → IsRoundAt inner stage n j h (slice_index_or rounds j d)) → IsRoundAt inner stage n i h s
      → (j : ℕ) (d : S) → j < i + 1 → IsRoundAt inner stage n j h (slice_index_or new j d)
  round_more i rounds new s long added before here j d l = subst (λ (xs : List S). IsRoundAt inner stage n j h (slice_index_or xs j d)) (sym added) (elim (decide j i) [
    | inl w ↦ subst (IsRoundAt inner stage n j h) (sym (get_or_append_left rounds (s ∷ []) d j (omega (arith, w, long)))) (before j d w)
    | inr w ↦ (let same : i ≡ j = omega arith in
        subst (IsRoundAt inner stage n j h) (sym (get_or_push rounds s d j (long ∙ same))) (subst (λ (k : ℕ). IsRoundAt inner stage n k h s) same here))
  ])
