-- A repeated game is its stage, one round behind another.
use Rattle.std.specs.Prelude.{◌≡◌, ℕ, zero, suc, ◌+◌, ◌*◌, ◌<◌, ◌≤◌, ℤ, ◌+ℤ◌, List, [], ◌∷◌, ◌++◌, length, take, drop, slice_index, Some, IsTrue}
use Rattle.std.specs.List.{Contains}
use Rattle.std.proofs.Common.{refl, sym, subst, ◌∙◌, ap, arith, inl, inr, add-one, append_assoc, length-append, length-drop}
use Rattle.std.proofs.Math.Nat.{suc-mul}
use Rattle.std.proofs.Math.Seq.{drop-append_seam}
use Rattle.std.proofs.lemmas.List.{append-nil, take_all, take_more, take-append-le, length-take-le}
use Rattle.spiel_api.specs.declared.place.Place.TheVariants.{End}
use Rattle.spiel_api.specs.Rules.{Rules, next_at}
use Rattle.spiel_api.specs.Plays.{IsPlay}
use Rattle.spiel_api.specs.Laws.{IsLawful}
use Rattle.spiel_api.proofs.PlayLemmas.{IsPlay-more, IsPlay-last, IsPlay-take}
use Rattle.spiel_layers.specs.Repeated.{piece_of, at_piece, rounds_pay, repeated_rules}
use Rattle.spiel_layers.specs.PieceLaws.{decide, piece_at, piece_over}
use Rattle.spiel_layers.specs.RepeatedLaws.{next_some, sound, round_play, rounds_short, over_at}
use Rattle.spiel_layers.specs.Laws.{HasRounds, round_of}
use Rattle.spiel_layers.proofs.RepeatedSteps.{drop_append}

-- the numbers of a list that is long enough stay as they are behind some numbers more
round_front : (n j : ℕ) (h xs : List ℕ) → j * n + n ≤ length h → round_of n j (h ++ xs) ≡ round_of n j h
round_front n j h xs l = ap (take n) (drop_append (j * n) h xs (omega arith)) ∙ take-append-le n (drop (j * n) h) xs (omega (arith, length-drop (j * n) h))

pay_front : (n : ℕ) (pay : List ℕ → ℤ) (j : ℕ) (h xs : List ℕ) → j * n ≤ length h → rounds_pay n pay j (h ++ xs) ≡ rounds_pay n pay j h
pay_front n pay zero h xs l = refl
pay_front n pay (suc j) h xs l =
    let fits : j * n + n ≤ length h = omega (arith, suc-mul j n) in
    ap (λ z. z +ℤ pay (round_of n j (h ++ xs))) (pay_front n pay j h xs (omega arith)) ∙ ap (λ (piece : List ℕ). rounds_pay n pay j h +ℤ pay piece) (round_front n j h xs fits)

-- what stands behind a list
behind : (n j : ℕ) (h xs : List ℕ) → length h ≡ j * n → drop (j * n) (h ++ xs) ≡ xs
behind n j h xs e = ap (λ m. drop m (h ++ xs)) (sym e) ∙ drop-append_seam h xs

paid : (s : Rules) (times : ℕ) (h piece : List ℕ) (p : ℕ) → length h ≡ times * s.players → length piece ≡ s.players → (repeated_rules (times + 1) s).pay (h ++ piece) p ≡ (repeated_rules times s).pay h p +ℤ s.pay piece p
paid s times h piece p e whole =
    let n = s.players in
    let pay = λ (i : List ℕ). s.pay i p in
    let last : round_of n times (h ++ piece) ≡ piece = ap (take n) (behind n times h piece e) ∙ take_all n piece (omega arith) in
    ap (λ k. rounds_pay n pay k (h ++ piece)) (add-one times)
    ∙ ap (λ z. z +ℤ s.pay (round_of n times (h ++ piece)) p) (pay_front n pay times h piece (omega arith))
    ∙ ap (λ (i : List ℕ). rounds_pay n pay times h +ℤ s.pay i p) last

module _ (s : Rules) (times : ℕ) (laws : IsLawful s) (shot : IsTrue s.one_shot) where
  -- nobody is next behind a whole play of the stage
  stage_short : (piece : List ℕ) → IsPlay s piece → length piece ≤ s.players
  stage_short piece play = elim (decide s.players (length piece)) [
    | inl l ↦ (let n = s.players in
        let front = take n piece in
        let more = subst (λ z. IsPlay s z) (take_more piece n 0 l) (IsPlay-take s piece (n + 1) play) in
        let over = (laws.one_shot shot).one_step front (IsPlay-take s piece n play) (length-take-le n piece (omega arith)) in
        let none = subst (λ place. Contains (next_at place (s.legal front)) (slice_index piece n)) over (IsPlay-last s front (slice_index piece n) more) in
        absurd (omega (arith, none.1)))
    | inr l ↦ l
  ]

  module _ (h piece : List ℕ) (j : ℕ) (play : IsPlay (repeated_rules times s) h) (e : length h ≡ j * s.players) (l : j < times) (sub : IsPlay s piece) where
    joined_take : (m : ℕ) → m ≤ length piece → IsPlay (repeated_rules times s) (h ++ take m piece)
    joined_take zero w = subst (λ z. IsPlay (repeated_rules times s) z) (sym (append-nil h)) play
    joined_take (suc m) w =
        let n = s.players in
        let within : m < length piece = omega arith in
        let front = take m piece in
        let a = slice_index piece m in
        let f : take (suc m) piece ≡ front ++ a ∷ [] = rw (← add-one) (take_more piece m 0 within) in
        let next = IsPlay-last s front a (subst (λ z. IsPlay s z) f (IsPlay-take s piece (suc m) sub)) in
        let long : length (h ++ front) ≡ j * n + m = omega (arith, e, length-append h front, length-take-le m piece (omega arith)) in
        let here : piece_of n times (h ++ front) ≡ Some front = piece_at n times j (h ++ front) l (omega arith) (omega (arith, stage_short piece sub)) ∙ ap (λ (z : List ℕ). Some z) (behind n j h front e) in
        let c = subst (λ (xs : List ℕ). Contains xs a) (sym (next_some s laws times (h ++ front) front here)) next in
        let more = IsPlay-more (repeated_rules times s) (h ++ front) a (joined_take m (omega arith)) c in
        subst (λ z. IsPlay (repeated_rules times s) z) (append_assoc h front (a ∷ []) ∙ ap (λ (z : List ℕ). h ++ z) (sym f)) more

    joined : IsPlay (repeated_rules times s) (h ++ piece)
    joined = subst (λ (z : List ℕ). IsPlay (repeated_rules times s) (h ++ z)) (take_all (length piece) piece (omega arith)) (joined_take (length piece) (omega arith))

  split : (h : List ℕ) (j : ℕ) → IsPlay (repeated_rules times s) h → j < times → j * s.players + s.players ≤ length h → IsPlay s (round_of s.players j h) × (s.place (round_of s.players j h) ≡ End)
  split h j play l m =
      let n = s.players in
      let sub = round_play s laws times shot h play j l m in
      let long = length-take-le n (drop (j * n) h) (omega (arith, length-drop (j * n) h)) in
      (sub, (laws.one_shot shot).one_step (round_of n j h) sub long)

  whole : (h : List ℕ) → IsPlay (repeated_rules times s) h → (repeated_rules times s).place h ≡ End → length h ≡ times * s.players
  whole h play e =
      let long = over_at s laws times shot h (piece_of s.players times h) refl (sound s laws times h play) e in
      omega (arith, long, rounds_short s laws times shot h play)

  pub has_rounds : HasRounds s times
  has_rounds = record {
    split = split;
    joined = λ h piece j play e l sub. joined h piece j play e l sub;
    over = λ h play. (whole h play, λ e. ap (at_piece End s.place) (piece_over s.players times h (omega arith)));
    paid = λ h piece p e w. paid s times h piece p e w;
  }
