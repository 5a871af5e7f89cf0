-- What plays of liar's dice are made of.
use Rattle.std.proofs.Common.{◌≡◌, ℕ, ◌+◌, ◌-◌, ◌*◌, ◌%◌, ◌<◌, ◌≤◌, Bool, true, false, List, [], ◌∷◌, ◌++◌, length, replicate, Option, None, Some, if◌then◌else◌, ◌==◌, refl, ap, sym, subst, ◌∙◌, arith, length-append}
use Rattle.std.specs.Prelude.{count_by, flat_map}
use Rattle.std.specs.List.{All, Contains, range_with_len}
use Rattle.std.proofs.lemmas.Bool.{ltb-true, ltb-false, eqb-false}
use Rattle.std.proofs.lemmas.List.{append-nil, length-replicate, drop_all, drop-append-le, length-drop, get_or_push, map-id}
use Rattle.std.proofs.lemmas.List.Concat.{flat_map-append}
use Rattle.std.proofs.lemmas.List.Elements.{All-nil, All-push}
use Rattle.std.proofs.lemmas.List.Folds.{sum_by-replicate}
use Rattle.std.proofs.lemmas.List.FromFn.{length-range_with_len, map-range_with_len_more}
use Rattle.std.proofs.lemmas.Option.{slice_get-get_or, slice_get_within}
use Rattle.std.proofs.Math.Nat.{mul-le-mul}
use Rattle.spiel_api.specs.declared.place.Place.TheVariants.{End, Chance, Move}
use Rattle.spiel_api.specs.Rules.{next_of}
use Rattle.spiel_api.specs.Plays.{IsPlay}
use Rattle.spiel_dice.specs.LiarsDice.{between, liar, is_rolling, calls_of, last_of, turn_after, calls_after, numbers_after, faces_of, liars_dice_place, liars_dice_weights, liars_dice_rules}
use Rattle.spiel_dice.specs.LiarsDiceState.{IsWithinRange}
use Rattle.spiel_api.proofs.Inductions.{of_plays}
use Rattle.spiel_api.proofs.NodeLaws.{AreChoices-range, range_within}
use Rattle.spiel_api.proofs.TurnLaws.{IsTurn, for_numbers, next_numbers}

-- a number between two
pub between_within : (low high a : ℕ) → Contains (between low high) a → (low ≤ a) × (a < high)
between_within low high a c = let within = range_within low (high - low) a c in (within.0, omega (arith, within))

-- the last of some numbers, when one more comes
pub last_of-push : (calls : List ℕ) (a : ℕ) → last_of (calls ++ a ∷ []) ≡ Some a
last_of-push calls a =
    let long = length-append calls (a ∷ []) in
    slice_get-get_or (calls ++ a ∷ []) (length (calls ++ a ∷ []) - 1) 0 (omega (arith, long)) ∙ ap (λ n. Some n) (get_or_push calls a 0 (length (calls ++ a ∷ []) - 1) (omega (arith, long)))

-- how many calls can have been made up to this one
abbrev pub said : Option ℕ → ℕ
said None = 0
said (Some call) = call + 1

-- these are calls up to `top`: they rise, and the highest comes after another
pub record AreCalls (top : ℕ) (calls : List ℕ) : Type 0 where
  pub few : length calls ≤ said (last_of calls)
  pub low : said (last_of calls) ≤ top + 1
  pub doubted : last_of calls ≡ Some top → 2 ≤ length calls

none_called : (top : ℕ) → AreCalls top []
none_called top = record { few = omega arith; low = omega arith; doubted = λ e. cc }

AreCalls-push : (top : ℕ) (calls : List ℕ) (a : ℕ) → AreCalls top calls → Contains (calls_after top (last_of calls)) a → AreCalls top (calls ++ a ∷ [])
AreCalls-push top calls a before c = by (last_of calls) refl c
  where
    last : last_of (calls ++ a ∷ []) ≡ Some a
    last = last_of-push calls a

    long : length (calls ++ a ∷ []) ≡ length calls + 1
    long = length-append calls (a ∷ [])

    by : (o : Option ℕ) → last_of calls ≡ o → Contains (calls_after top o) a → AreCalls top (calls ++ a ∷ [])
    by None e c =
        let within = between_within 0 top a c in
        record {
          few = omega (arith, long, before.few, ap said last, ap said e);
          low = omega (arith, ap said last, within.1);
          doubted = λ f. let same : Some a ≡ Some top = sym last ∙ f in let equal : a ≡ top = cc in absurd (omega (arith, equal, within.1));
        }
    by (Some bid) e c =
        let within = between_within (bid + 1) (top + 1) a c in
        let some : length calls - 1 < length calls = slice_get_within calls (length calls - 1) bid e in
        record {
          few = omega (arith, long, before.few, ap said last, ap said e, within.0);
          low = omega (arith, ap said last, within.1);
          doubted = λ f. omega (arith, long, some);
        }

-- the dice of one face more
pub faces_of-more : (k : ℕ) (dice : List ℕ) → faces_of (k + 1) dice ≡ faces_of k dice ++ replicate (count_by (λ die. die == k) dice) (k + 1)
faces_of-more k dice =
    let shows : ℕ → List ℕ = λ face. replicate (count_by (λ die. die == face) dice) (face + 1) in
    let range : (n : ℕ) → range_with_len 0 (n - 0) ≡ range_with_len 0 n = λ n. ap (range_with_len 0) (omega arith) in
    let more : range_with_len 0 (k + 1) ≡ range_with_len 0 k ++ k ∷ [] =
    sym (map-id (range_with_len 0 (k + 1))) ∙ map-range_with_len_more (λ x. x) 0 k k (omega arith) ∙ ap (λ (xs : List ℕ). xs ++ k ∷ []) (map-id (range_with_len 0 k)) in
    ap (flat_map shows) (range (k + 1) ∙ more) ∙ flat_map-append shows (range_with_len 0 k) (k ∷ [])
    ∙ ap (λ (xs : List ℕ). flat_map shows xs ++ flat_map shows (k ∷ [])) (sym (range k)) ∙ ap (λ (xs : List ℕ). faces_of k dice ++ xs) (append-nil (shows k))

module _ (dice sides : ℕ) (range : IsWithinRange dice sides) where
  pub liar_low : 2 ≤ liar dice sides
  liar_low =
      let two : 2 * 1 ≤ 2 * dice = omega (arith, range.dice_low) in
      omega (arith, mul-le-mul two range.sides_low)

  pub liar_high : liar dice sides ≤ 200
  liar_high =
      let ten : 2 * dice ≤ 10 = omega (arith, range.dice_high) in
      omega (arith, mul-le-mul ten range.sides_high)

  -- no number is above that of `liar`
  pub numbers_small : (h : List ℕ) (a : ℕ) → Contains (numbers_after dice sides h) a → a ≤ 200
  numbers_small h a = by (is_rolling dice h)
    where
      after : (o : Option ℕ) → Contains (calls_after (liar dice sides) o) a → a ≤ 200
      after None c = omega (arith, liar_high, between_within 0 (liar dice sides) a c)
      after (Some bid) c = omega (arith, liar_high, between_within (bid + 1) (liar dice sides + 1) a c)

      by : (b : Bool) → Contains (if b then between 0 sides else calls_after (liar dice sides) (last_of (calls_of dice h))) a → a ≤ 200
      by true c = omega (arith, range.sides_high, between_within 0 sides a c)
      by false c = after (last_of (calls_of dice h)) c

  pub legal_small : (h : List ℕ) (p a : ℕ) → Contains ((liars_dice_rules dice sides).legal h p) a → a ≤ 200
  legal_small h p a c = numbers_small h a (for_numbers (liars_dice_place dice sides h) (numbers_after dice sides h) p a c)

  pub play_small : (h : List ℕ) → IsPlay (liars_dice_rules dice sides) h → All (λ a. a ≤ 200) h
  play_small = of_plays (liars_dice_rules dice sides) (All (λ a. a ≤ 200)) (All-nil (λ a. a ≤ 200))
      (λ h a small c. All-push (λ a. a ≤ 200) h a small (numbers_small h a (next_numbers (liars_dice_place dice sides h) (numbers_after dice sides h) a c)))

  pub play_calls : (h : List ℕ) → IsPlay (liars_dice_rules dice sides) h → AreCalls (liar dice sides) (calls_of dice h)
  play_calls = of_plays (liars_dice_rules dice sides) (λ h. AreCalls (liar dice sides) (calls_of dice h)) (subst (AreCalls (liar dice sides)) (sym (drop_all (2 * dice) [] (omega arith))) (none_called (liar dice sides))) more
    where
      more : (h : List ℕ) (a : ℕ) → AreCalls (liar dice sides) (calls_of dice h) → Contains (next_of (liars_dice_rules dice sides) h) a → AreCalls (liar dice sides) (calls_of dice (h ++ a ∷ []))
      more h a before c = by (is_rolling dice h) refl (next_numbers (liars_dice_place dice sides h) (numbers_after dice sides h) a c)
        where
          by : (b : Bool) → is_rolling dice h ≡ b → Contains (if b then between 0 sides else calls_after (liar dice sides) (last_of (calls_of dice h))) a → AreCalls (liar dice sides) (calls_of dice (h ++ a ∷ []))
          by true e c =
              let fewer = ltb-true (length h) (2 * dice) e in
              subst (AreCalls (liar dice sides)) (sym (drop_all (2 * dice) (h ++ a ∷ []) (omega (arith, fewer, length-append h (a ∷ []))))) (none_called (liar dice sides))
          by false e c =
              let rolled = ltb-false (length h) (2 * dice) e in
              subst (AreCalls (liar dice sides)) (sym (drop-append-le (2 * dice) h (a ∷ []) rolled)) (AreCalls-push (liar dice sides) (calls_of dice h) a before c)

  -- rolls, calls, and `liar`
  pub play_short : (h : List ℕ) → IsPlay (liars_dice_rules dice sides) h → length h ≤ 211
  play_short h play =
      let calls = play_calls h play in
      omega (arith, calls.few, calls.low, liar_high, length-drop (2 * dice) h, range.dice_high)

  -- chance rolls, a player calls, or the play is over
  pub turns : (h : List ℕ) → IsPlay (liars_dice_rules dice sides) h → IsTurn 2 (liars_dice_place dice sides h) (numbers_after dice sides h) (liars_dice_weights dice sides h)
  turns h play = by (is_rolling dice h)
    where
      count : ℕ
      count = length (calls_of dice h)

      top : ℕ
      top = liar dice sides

      turn : (low high : ℕ) → low < high → high ≤ 201 → IsTurn 2 (Move (count % 2)) (between low high) []
      turn low high some few = (omega arith, AreChoices-range low (high - low) (omega arith) (omega arith))

      call_by : (b : Bool) (call : ℕ) → (call == top) ≡ b → last_of (calls_of dice h) ≡ Some call → IsTurn 2 (if b then End else Move (count % 2)) (between (call + 1) (top + 1)) []
      call_by true call e l = tt
      call_by false call e l =
          let low = (play_calls h play).low in
          let other = eqb-false call top e in
          turn (call + 1) (top + 1) (omega (arith, low, ap said l, other)) (omega (arith, liar_high))

      after : (o : Option ℕ) → last_of (calls_of dice h) ≡ o → IsTurn 2 (turn_after top o count) (calls_after top o) []
      after None l = turn 0 top (omega (arith, liar_low)) (omega (arith, liar_high))
      after (Some call) l = call_by (call == top) call refl l

      by : (b : Bool) → IsTurn 2 (if b then Chance else turn_after top (last_of (calls_of dice h)) count) (if b then between 0 sides else calls_after top (last_of (calls_of dice h))) (if b then replicate sides 1 else [])
      by true = (
        AreChoices-range 0 (sides - 0) (omega (arith, range.sides_low)) (omega (arith, range.sides_high)),
        record {
          each = omega (arith, length-replicate {A = ℕ} sides 1, length-range_with_len 0 (sides - 0));
          low = omega (arith, sum_by-replicate (λ x. x) sides 1, range.sides_low);
          high = omega (arith, sum_by-replicate (λ x. x) sides 1, range.sides_high);
        },
      )
      by false = after (last_of (calls_of dice h)) refl
