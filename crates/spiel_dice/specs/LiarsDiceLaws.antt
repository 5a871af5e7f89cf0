-- Liar's dice keeps the laws.
use Rattle.std.specs.Prelude.{◌≡◌, ℕ, zero, suc, ◌+◌, ◌*◌, ◌%◌, ◌^◌, ◌<◌, ◌≤◌, Bool, true, false, not, List, ◌++◌, length, drop, replicate, codes, count_by, nat_abs, if◌then◌else◌, ◌==◌}
use Rattle.std.specs.List.{All, Contains}
use Rattle.std.specs.Fmt.{decimal}
use Rattle.std.proofs.Common.{refl, ap, ◌∙◌, arith, length-append}
use Rattle.std.proofs.Math.Nat.{div-le_self}
use Rattle.std.proofs.lemmas.Bool.{cond_both}
use Rattle.std.proofs.lemmas.List.{length-replicate, length-take}
use Rattle.std.proofs.lemmas.List.Elements.{All-nil, All-append, All-weaker, All-replicate, All-drop}
use Rattle.std.proofs.lemmas.List.Sums.{count_by-le-length}
use Rattle.spiel_frac.specs.Listed.{listed}
use Rattle.spiel_api.specs.Plays.{IsPlay}
use Rattle.spiel_api.specs.Laws.{IsLawful, IsPrintable}
use Rattle.spiel_api.proofs.LawLemmas.{IsPrintable-append, IsPrintable-computed, IsPrintable-listed, decimal_printable}
use Rattle.spiel_api.proofs.TurnLaws.{turns_lawful}
use Rattle.spiel_dice.specs.LiarsDice.{liar, is_rolling, dice_of, calls_of, numbers_after, quantity_of, face_of, call_name, faces_of, gain, is_true, liars_dice_turns, liars_dice_rules, liars_dice_info, liars_dice_name, liars_dice_pay}
use Rattle.spiel_dice.specs.LiarsDiceState.{IsWithinRange}
use Rattle.spiel_dice.specs.LiarsDicePlays.{faces_of-more, numbers_small, play_small, play_calls, play_short, turns, liar_high}

abbrev IsSmall : ℕ → Type 0
IsSmall a = a < 10 ^ 3

-- the faces of five dice at the most
length-faces : (own : List ℕ) → length own ≤ 5 → (k : ℕ) → length (faces_of k own) ≤ 5 * k
length-faces own few zero = omega arith
length-faces own few (suc k) =
    let next : suc k ≡ k + 1 = omega arith in
    let shown : ℕ = count_by (λ die. die == k) own in
    let more : length (faces_of (suc k) own) ≡ length (faces_of k own) + length (replicate shown (k + 1)) =
    ap (λ n. length (faces_of n own)) next ∙ ap length (faces_of-more k own) ∙ length-append (faces_of k own) (replicate shown (k + 1)) in
    omega (arith, more, length-faces own few k, length-replicate shown (k + 1), count_by-le-length (λ die. die == k) own)

faces_small : (own : List ℕ) (k : ℕ) → k ≤ 20 → All IsSmall (faces_of k own)
faces_small own zero l = All-nil IsSmall
faces_small own (suc k) l =
    let next : suc k ≡ k + 1 = omega arith in
    let shown : ℕ = count_by (λ die. die == k) own in
    rw (next, faces_of-more k own) (All-append IsSmall (faces_of k own) (replicate shown (k + 1)) (faces_small own k (omega arith)) (All-replicate IsSmall shown (k + 1) (omega arith)))

-- a number of at most three digits
printable : (n : ℕ) → n < 1000 → IsPrintable 3 (decimal n)
printable n l = decimal_printable 3 n (omega arith) (omega arith) (omega arith)

roll_name_printed : (a : ℕ) → a ≤ 200 → IsPrintable 128 (codes "roll " ++ decimal (a + 1))
roll_name_printed a l = IsPrintable-append 5 3 128 (codes "roll ") (decimal (a + 1)) (omega arith) (IsPrintable-computed 5 (codes "roll ") refl refl) (printable (a + 1) (omega arith))

module _ (dice sides : ℕ) (range : IsWithinRange dice sides) where
  infos : (h : List ℕ) (p : ℕ) → IsPlay (liars_dice_rules dice sides) h → IsPrintable 32768 (liars_dice_info dice sides h p)
  infos h p play =
      let own = dice_of p dice h in
      let calls = play_calls dice sides range h play in
      let few : length own ≤ 5 = omega (arith, length-take dice (drop (p * dice) h), range.dice_high) in
      let faces = faces_of sides own in
      let colon = IsPrintable-computed 1 (codes ":") refl refl in
      let rolled = IsPrintable-listed 44 3 faces (omega arith, omega arith) (omega arith) (omega arith) (faces_small own sides range.sides_high) in
      let with_colon = IsPrintable-append (4 * length faces) 1 401 (listed 44 faces) (codes ":") (omega (arith, length-faces own few sides, range.sides_high)) rolled colon in
      let said = IsPrintable-listed 32 3 (calls_of dice h) (omega arith, omega arith) (omega arith) (omega arith) (All-drop IsSmall (2 * dice) h (All-weaker (λ a. a ≤ 200) IsSmall (λ a l. omega (arith, l)) h (play_small dice sides range h play))) in
      IsPrintable-append 401 (4 * length (calls_of dice h)) 32768 (listed 44 faces ++ codes ":") (listed 32 (calls_of dice h)) (omega (arith, calls.few, calls.low, liar_high dice sides range)) with_colon said

  call_name_printed : (a : ℕ) → a ≤ 200 → IsPrintable 128 (call_name dice sides a)
  call_name_printed a l = by (a == liar dice sides)
    where
      quantity : ℕ
      quantity = quantity_of sides a

      face : ℕ
      face = face_of sides a + 1

      quantity_small : quantity < 1000
      quantity_small = omega (arith, div-le_self a sides)

      face_small : face < 1000
      face_small = let some : 0 < sides = omega (arith, range.sides_low) in omega (arith, range.sides_high)

      by : (b : Bool) → IsPrintable 128 (if b then codes "liar" else decimal quantity ++ codes "-" ++ decimal face)
      by true = IsPrintable-computed 128 (codes "liar") refl refl
      by false = IsPrintable-append 4 3 128 (decimal quantity ++ codes "-") (decimal face) (omega arith)
          (IsPrintable-append 3 1 4 (decimal quantity) (codes "-") (omega arith) (printable quantity quantity_small) (IsPrintable-computed 1 (codes "-") refl refl)) (printable face face_small)

  names : (h : List ℕ) (p a : ℕ) → Contains (numbers_after dice sides h) a → IsPrintable 128 (liars_dice_name dice sides h p a)
  names h p a c =
      let small = numbers_small dice sides range h a c in
      cond_both (is_rolling dice h) (codes "roll " ++ decimal (a + 1)) (call_name dice sides a) (IsPrintable 128) (λ e. roll_name_printed a small) (λ e. call_name_printed a small)

  -- nobody gets more than 1
  capped : (h : List ℕ) (p : ℕ) → nat_abs (liars_dice_pay dice sides h p) ≤ 1
  capped h p = cond_both (p == length (calls_of dice h) % 2) (gain (is_true dice sides h)) (gain (not (is_true dice sides h))) (λ pay. nat_abs pay ≤ 1) (λ e. gain_low (is_true dice sides h)) (λ e. gain_low (not (is_true dice sides h)))
    where
      gain_low : (wins : Bool) → nat_abs (gain wins) ≤ 1
      gain_low true = omega arith
      gain_low false = omega arith

  pub liars_dice_lawful : IsLawful (liars_dice_rules dice sides)
  liars_dice_lawful = turns_lawful (liars_dice_turns dice sides) (record {
    size = refl;
    short = λ h play. omega (arith, play_short dice sides range h play);
    turns = turns dice sides range;
    infos = λ h p play turn. infos h p play;
    names = λ h p a play c. names h p a c;
    capped = λ h p play e l. capped h p;
  })
