-- Several rounds of a one-shot game keep the laws.
use Rattle.std.specs.Prelude.{◌≡◌, ℕ, zero, suc, ◌+◌, ◌-◌, ◌*◌, ◌^◌, ◌<◌, ◌≤◌, ◌⊎◌, ⊤, ◌+ℤ◌, nat_abs, ℤ, List, [], ◌∷◌, ◌++◌, length, take, drop, slice_index, slice_index_or, Option, Some, None, IsTrue}
use Rattle.std.specs.List.{Contains, All}
use Rattle.std.specs.List.Sorted.{IsStrictlyIncreasing}
use Rattle.std.proofs.Common.{refl, ap, sym, subst, ◌∙◌, arith, add-one, inl, inr, length-drop}
use Rattle.std.proofs.lemmas.Bool.{false≢true}
use Rattle.std.proofs.lemmas.Int.{ints}
use Rattle.std.proofs.lemmas.List.{take_more, take_all, length_push, length-take-le, drop-take}
use Rattle.std.proofs.lemmas.List.Elements.{All-nil, All-take, All-contains}
use Rattle.std.proofs.Math.Nat.{zero-mul, suc-mul, mul-le-mul, mul-le-mul_right}
use Rattle.spiel_api.specs.declared.place.Place.TheVariants.{End, Chance, Move, Joint}
use Rattle.spiel_api.specs.declared.game.Game.{Ghosts}
use Rattle.spiel_api.specs.Rules.{Rules, next_of, next_at}
use Rattle.spiel_api.specs.Plays.{IsPlay}
use Rattle.spiel_api.specs.Place.{IsAmongPlayers, IsOpen, IsOutside, HasInfo}
use Rattle.spiel_api.specs.Laws.{IsLawful, IsPrintable}
use Rattle.spiel_api.proofs.PlayLemmas.{IsPlay-nil, IsPlay-more, IsPlay-last, IsPlay-front, IsPlay-take}
use Rattle.spiel_layers.specs.Repeated.{CanRepeat, piece_of, at_piece, before_piece, rounds_told, rounds_pay, repeated_rules}
use Rattle.spiel_layers.specs.PieceLaws.{fresh, grows, piece_at, drop_push, before_push, inside_short, over_long}
use Rattle.spiel_layers.specs.RepeatedTexts.{told_printable}

-- the size of a sum
nat_abs-add : (a b : ℤ) → nat_abs (a +ℤ b) ≤ nat_abs a + nat_abs b
nat_abs-add a b = omega (arith, ints)

-- where the unfinished piece is a play of the stage
abbrev pub IsSoundPiece : Rules → Option (List ℕ) → Type 0
IsSoundPiece s None = ⊤
IsSoundPiece s (Some piece) = IsPlay s piece × (length piece < s.players)

module _ (s : Rules) (laws : IsLawful s) (k : ℕ) where
  -- nobody is next after the last round
  pub next_none : (h : List ℕ) → piece_of s.players k h ≡ None → next_of (repeated_rules k s) h ≡ []
  next_none h e = ap (λ (o : Option (List ℕ)). next_at (at_piece End s.place o) (λ p. at_piece [] (λ i. s.legal i p) o)) e

  pub next_some : (h piece : List ℕ) → piece_of s.players k h ≡ Some piece → next_of (repeated_rules k s) h ≡ next_of s piece
  next_some h piece e = ap (λ (o : Option (List ℕ)). next_at (at_piece End s.place o) (λ p. at_piece [] (λ i. s.legal i p) o)) e

  sound_more : (h : List ℕ) (a : ℕ) (o : Option (List ℕ)) → piece_of s.players k h ≡ o → IsSoundPiece s o → Contains (next_of (repeated_rules k s) h) a → IsSoundPiece s (piece_of s.players k (h ++ a ∷ []))
  sound_more h a None e sound c = let d = subst (λ (xs : List ℕ). Contains xs a) (next_none h e) c in absurd (omega (arith, d.1))
  sound_more h a (Some piece) e sound c =
      let d = subst (λ (xs : List ℕ). Contains xs a) (next_some h piece e) c in
      elim (grows s.players k h piece a laws.limits.players_low e) [
        | inl g ↦ subst (IsSoundPiece s) (sym g.1) (IsPlay-more s piece a sound.0 d, omega (arith, length_push piece a, g.0))
        | inr g ↦ elim g.1 [ inl x ↦ subst (IsSoundPiece s) (sym x) tt | inr x ↦ subst (IsSoundPiece s) (sym x) (IsPlay-nil s, laws.limits.players_low) ]
      ]

  -- the unfinished piece of a play is a play of the stage
  sound_take : (h : List ℕ) → IsPlay (repeated_rules k s) h → (j : ℕ) → j ≤ length h → IsSoundPiece s (piece_of s.players k (take j h))
  sound_take h play zero l = sound_start (piece_of s.players k []) refl
    where
      sound_start : (o : Option (List ℕ)) → piece_of s.players k [] ≡ o → IsSoundPiece s o
      sound_start o e = elim (fresh s.players k laws.limits.players_low) [ inl x ↦ subst (IsSoundPiece s) (sym x ∙ e) tt | inr x ↦ subst (IsSoundPiece s) (sym x ∙ e) (IsPlay-nil s, laws.limits.players_low) ]
  sound_take h play (suc j) l =
      let m : j < length h = omega arith in
      let e : take (suc j) h ≡ take j h ++ slice_index h j ∷ [] = rw (← add-one) (take_more h j 0 m) in
      let c = IsPlay-last (repeated_rules k s) (take j h) (slice_index h j) (subst (λ z. IsPlay (repeated_rules k s) z) e (IsPlay-take (repeated_rules k s) h (suc j) play)) in
      subst (λ z. IsSoundPiece s (piece_of s.players k z)) (sym e) (sound_more (take j h) (slice_index h j) (piece_of s.players k (take j h)) refl (sound_take h play j (omega arith)) c)

  pub sound : (h : List ℕ) → IsPlay (repeated_rules k s) h → IsSoundPiece s (piece_of s.players k h)
  sound h play = subst (λ z. IsSoundPiece s (piece_of s.players k z)) (take_all (length h) h (omega arith)) (sound_take h play (length h) (omega arith))

  -- the stage in one joint step
  module _ (shot : IsTrue s.one_shot) where
    stage_take : (h : List ℕ) → IsPlay s h → (j : ℕ) → j ≤ length h → j < s.players → s.place (take j h) ≡ Joint j
    stage_take h play zero l m = (laws.one_shot shot).joint_root
    stage_take h play (suc j) l m =
        let w : j < length h = omega arith in
        let e : take (suc j) h ≡ take j h ++ slice_index h j ∷ [] = rw (← add-one) (take_more h j 0 w) in
        let p = subst (λ z. IsPlay s z) e (IsPlay-take s h (suc j) play) in
        ap s.place e ∙ laws.joint.runs (take j h) (slice_index h j) j p (stage_take h play j (omega arith) (omega arith)) (omega arith) ∙ ap Joint (add-one j)

    pub stage_place : (h : List ℕ) → IsPlay s h → length h < s.players → s.place h ≡ Joint (length h)
    stage_place h play l = subst (λ z. s.place z ≡ Joint (length h)) (take_all (length h) h (omega arith)) (stage_take h play (length h) (omega arith) l)

    -- at one history
    mover_at : (o : Option (List ℕ)) → IsSoundPiece s o → IsAmongPlayers s.players (at_piece End s.place o)
    mover_at None w = tt
    mover_at (Some piece) w = laws.numbers.mover piece w.0

    rises_at : (o : Option (List ℕ)) (p : ℕ) → IsSoundPiece s o → p < s.players → IsStrictlyIncreasing (at_piece [] (λ piece. s.legal piece p) o)
    rises_at None p w l = λ q h. absurd (omega arith)
    rises_at (Some piece) p w l = laws.numbers.rises piece p w.0 l

    small_at : (o : Option (List ℕ)) (p : ℕ) → IsSoundPiece s o → p < s.players → All (λ a. a < 2 ^ 32 - 1) (at_piece [] (λ piece. s.legal piece p) o)
    small_at None p w l = All-nil (λ a. a < 2 ^ 32 - 1)
    small_at (Some piece) p w l = laws.numbers.small piece p w.0 l

    goes_on_at : (o : Option (List ℕ)) → IsSoundPiece s o → IsOpen (at_piece End s.place o) → 0 < length (next_at (at_piece End s.place o) (λ p. at_piece [] (λ piece. s.legal piece p) o))
    goes_on_at None w open_ = absurd open_
    goes_on_at (Some piece) w open_ = laws.numbers.goes_on piece w.0 open_

    stops_at : (o : Option (List ℕ)) (p : ℕ) → IsSoundPiece s o → at_piece End s.place o ≡ End → at_piece [] (λ piece. s.legal piece p) o ≡ []
    stops_at None p w e = refl
    stops_at (Some piece) p w e = let f = stage_place piece w.0 w.1 in cc

    no_move_at : (o : Option (List ℕ)) (q : ℕ) → IsSoundPiece s o → at_piece End s.place o ≡ Move q → ⊥
    no_move_at None q w e = cc
    no_move_at (Some piece) q w e = let f = stage_place piece w.0 w.1 in cc

    no_chance_at : (o : Option (List ℕ)) → IsSoundPiece s o → at_piece End s.place o ≡ Chance → ⊥
    no_chance_at None w e = cc
    no_chance_at (Some piece) w e = let f = stage_place piece w.0 w.1 in cc

    infos_at : (h : List ℕ) (o : Option (List ℕ)) (p : ℕ) → length h ≤ 1024 → All (λ a. a < 2 ^ 32 - 1) h → IsSoundPiece s o → HasInfo (at_piece End s.place o) p → p < s.players → IsPrintable 32768 (at_piece [] (λ piece. rounds_told (before_piece h piece) ++ s.info piece p) o)
    infos_at h None p few all w has l = absurd has
    infos_at h (Some piece) p few all w has l =
        told_printable (before_piece h piece) (s.info piece p) (omega (arith, length-take-le (length h - length piece) h (omega arith))) (All-take (λ a. a < 2 ^ 32 - 1) (length h - length piece) h all)
        ((laws.one_shot shot).short_infos piece p w.0 has l) (laws.texts.infos piece p w.0 has l).ascii

    names_at : (o : Option (List ℕ)) (p a : ℕ) → IsSoundPiece s o → Contains (at_piece [] (λ piece. s.legal piece p) o) a → IsPrintable 128 (at_piece [] (λ piece. s.name piece p a) o)
    names_at None p a w c = absurd (omega (arith, c.1))
    names_at (Some piece) p a w c = laws.texts.names piece p a w.0 c

    -- two histories, one number apart
    abbrev Pair : Option (List ℕ) → Option (List ℕ) → ℕ → Type 0
    Pair None o a = ⊥
    Pair (Some piece) o a = (IsPlay s (piece ++ a ∷ [])) × (((length piece + 1 < s.players) × (o ≡ Some (piece ++ a ∷ []))) ⊎ ((length piece + 1 ≡ s.players) × ((o ≡ None) ⊎ (o ≡ Some []))))

    pair_at : (h : List ℕ) (a : ℕ) (o : Option (List ℕ)) → piece_of s.players k h ≡ o → IsSoundPiece s o → Contains (next_of (repeated_rules k s) h) a → Pair o (piece_of s.players k (h ++ a ∷ [])) a
    pair_at h a None e w c = let d = subst (λ (xs : List ℕ). Contains xs a) (next_none h e) c in absurd (omega (arith, d.1))
    pair_at h a (Some piece) e w c =
        let d = subst (λ (xs : List ℕ). Contains xs a) (next_some h piece e) c in
        (IsPlay-more s piece a w.0 d, grows s.players k h piece a laws.limits.players_low e)

    pair_of : (h : List ℕ) (a : ℕ) → IsPlay (repeated_rules k s) (h ++ a ∷ []) → Pair (piece_of s.players k h) (piece_of s.players k (h ++ a ∷ [])) a
    pair_of h a play = pair_at h a (piece_of s.players k h) refl (sound h (IsPlay-front (repeated_rules k s) h (a ∷ []) play)) (IsPlay-last (repeated_rules k s) h a play)

    enters_at : (o q : Option (List ℕ)) (a p : ℕ) → Pair o q a → at_piece End s.place q ≡ Joint (p + 1) → at_piece End s.place o ≡ Joint p
    enters_at None q a p w e = absurd w
    enters_at (Some piece) q a p w e = elim w.1 [
      | inl g ↦ laws.joint.enters piece a p w.0 (sym (ap (at_piece End s.place) g.1) ∙ e)
      | inr g ↦ elim g.1 [
        | inl x ↦ (let f : End ≡ Joint (p + 1) = sym (ap (at_piece End s.place) x) ∙ e in cc)
        | inr x ↦ (let f : s.place [] ≡ Joint (p + 1) = sym (ap (at_piece End s.place) x) ∙ e in let r = (laws.one_shot shot).joint_root in let z : 0 ≡ p + 1 = cc in absurd (omega arith))
      ]
    ]

    runs_at : (o q : Option (List ℕ)) (a p : ℕ) → IsSoundPiece s o → Pair o q a → at_piece End s.place o ≡ Joint p → p + 1 < s.players → at_piece End s.place q ≡ Joint (p + 1)
    runs_at None q a p w pair e l = absurd pair
    runs_at (Some piece) q a p w pair e l = elim pair.1 [
      | inl g ↦ ap (at_piece End s.place) g.1 ∙ laws.joint.runs piece a p pair.0 e l
      | inr g ↦ (let f = stage_place piece w.0 w.1 in let z : length piece ≡ p = cc in absurd (omega (arith, g.0)))
    ]

    same_at : {A : Type 0} (over : A) (inside after : List ℕ → A) (o q : Option (List ℕ)) (a p : ℕ) → IsSoundPiece s o → Pair o q a → at_piece End s.place o ≡ Joint p → p + 1 < s.players
        → ((piece : List ℕ) → IsPlay s (piece ++ a ∷ []) → s.place piece ≡ Joint p → after (piece ++ a ∷ []) ≡ inside piece) → at_piece over after q ≡ at_piece over inside o
    same_at over inside after None q a p w pair e l same = absurd pair
    same_at over inside after (Some piece) q a p w pair e l same = elim pair.1 [
      | inl g ↦ ap (at_piece over after) g.1 ∙ same piece pair.0 e
      | inr g ↦ (let f = stage_place piece w.0 w.1 in let z : length piece ≡ p = cc in absurd (omega (arith, g.0)))
    ]

    info_same : (h piece : List ℕ) (a p q : ℕ) → IsPlay s (piece ++ a ∷ []) → s.place piece ≡ Joint p → p < q → q < s.players
        → rounds_told (before_piece (h ++ a ∷ []) (piece ++ a ∷ [])) ++ s.info (piece ++ a ∷ []) q ≡ rounds_told (before_piece h piece) ++ s.info piece q
    info_same h piece a p q play e l m =
        ap (λ (numbers : List ℕ). rounds_told numbers ++ s.info (piece ++ a ∷ []) q) (before_push h piece a)
        ∙ ap (λ (text : List ℕ). rounds_told (before_piece h piece) ++ text) (laws.joint.same_info piece a p q play e l m)

    -- each number of a play is one of the stage's
    number_at : (h : List ℕ) (a : ℕ) (o : Option (List ℕ)) → piece_of s.players k h ≡ o → IsSoundPiece s o → Contains (next_of (repeated_rules k s) h) a → a < 2 ^ 32 - 1
    number_at h a None e w c = let d = subst (λ (xs : List ℕ). Contains xs a) (next_none h e) c in absurd (omega (arith, d.1))
    number_at h a (Some piece) e w c =
        let d = subst (λ (xs : List ℕ). Contains xs a) (next_some h piece e) c in
        let f : Contains (s.legal piece (length piece)) a = subst (λ place. Contains (next_at place (s.legal piece)) a) (stage_place piece w.0 w.1) d in
        All-contains (λ a. a < 2 ^ 32 - 1) (s.legal piece (length piece)) a (laws.numbers.small piece (length piece) w.0 w.1) f

    all_small : (h : List ℕ) → IsPlay (repeated_rules k s) h → All (λ a. a < 2 ^ 32 - 1) h
    all_small h play j d l =
        let e : take (suc j) h ≡ take j h ++ slice_index_or h j d ∷ [] = rw (← add-one) (take_more h j d l) in
        let more = subst (λ z. IsPlay (repeated_rules k s) z) e (IsPlay-take (repeated_rules k s) h (suc j) play) in
        let front = IsPlay-take (repeated_rules k s) h j play in
        number_at (take j h) (slice_index_or h j d) (piece_of s.players k (take j h)) refl (sound (take j h) front) (IsPlay-last (repeated_rules k s) (take j h) (slice_index_or h j d) more)

    short_pair : (h : List ℕ) (a : ℕ) (o : Option (List ℕ)) → piece_of s.players k h ≡ o → Pair o (piece_of s.players k (h ++ a ∷ [])) a → length h < k * s.players
    short_pair h a None e w = absurd w
    short_pair h a (Some piece) e w = inside_short s.players k h piece e

    pub rounds_short : (h : List ℕ) → IsPlay (repeated_rules k s) h → length h ≤ k * s.players
    rounds_short h play = by_length (length h) refl
      where
        by_length : (n : ℕ) → length h ≡ n → length h ≤ k * s.players
        by_length zero e = omega arith
        by_length (suc j) e =
            let m : j < length h = omega arith in
            let f : take (suc j) h ≡ take j h ++ slice_index h j ∷ [] = rw (← add-one) (take_more h j 0 m) in
            let p = subst (λ z. IsPlay (repeated_rules k s) z) f (IsPlay-take (repeated_rules k s) h (suc j) play) in
            omega (arith, short_pair (take j h) (slice_index h j) (piece_of s.players k (take j h)) refl (pair_of (take j h) (slice_index h j) p), length-take-le j h (omega arith))

    -- the full rounds
    pub round_play : (h : List ℕ) → IsPlay (repeated_rules k s) h → (j : ℕ) → j < k → j * s.players + s.players ≤ length h → IsPlay s (take s.players (drop (j * s.players) h))
    round_play h play j l m =
        let n = s.players in
        let low = laws.limits.players_low in
        let b = j * n + n - 1 in
        let before : b < length h = omega arith in
        let front = take b h in
        let long : length front ≡ b = length-take-le b h (omega arith) in
        let a = slice_index h b in
        let e : take (b + 1) h ≡ front ++ a ∷ [] = take_more h b 0 before in
        let p = subst (λ z. IsPlay (repeated_rules k s) z) e (IsPlay-take (repeated_rules k s) h (b + 1) play) in
        let here : piece_of n k front ≡ Some (drop (j * n) front) = piece_at n k j front l (omega arith) (omega arith) in
        let pair = subst (λ (o : Option (List ℕ)). Pair o (piece_of n k (front ++ a ∷ [])) a) here (pair_of front a p) in
        let whole : b + 1 ≡ j * n + n = omega arith in
        let same : drop (j * n) front ++ a ∷ [] ≡ take n (drop (j * n) h) =
        sym (drop_push (j * n) front a (omega arith)) ∙ ap (drop (j * n)) (sym e) ∙ ap (λ z. drop (j * n) (take z h)) whole ∙ drop-take (j * n) n h in
        subst (λ z. IsPlay s z) same pair.0

    pub pay_bound : (h : List ℕ) (p : ℕ) → IsPlay (repeated_rules k s) h → p < s.players → k * s.players ≤ length h → (j : ℕ) → j ≤ k → nat_abs (rounds_pay s.players (λ piece. s.pay piece p) j h) ≤ j * s.cap
    pay_bound h p play l m zero w = omega (arith, zero-mul s.cap)
    pay_bound h p play l m (suc j) w =
        let n = s.players in
        let piece = take n (drop (j * n) h) in
        let room : suc j * n ≤ k * n = mul-le-mul_right n w in
        let fits : j * n + n ≤ length h = omega (arith, suc-mul j n) in
        let long : length piece ≡ n = length-take-le n (drop (j * n) h) (omega (arith, length-drop (j * n) h)) in
        let sub = round_play h play j (omega arith) fits in
        let one = laws.capped piece p sub ((laws.one_shot shot).one_step piece sub long) l in
        omega (arith, suc-mul j s.cap, nat_abs-add (rounds_pay n (λ piece. s.pay piece p) j h) (s.pay piece p), pay_bound h p play l m j (omega arith), one)

    pub over_at : (h : List ℕ) (o : Option (List ℕ)) → piece_of s.players k h ≡ o → IsSoundPiece s o → at_piece End s.place o ≡ End → k * s.players ≤ length h
    over_at h None e w f = over_long s.players k h e
    over_at h (Some piece) e w f = let g = stage_place piece w.0 w.1 in cc

    pub rounds_lawful : 1 ≤ k → k * s.cap ≤ 2 ^ 62 → k * s.players ≤ 1024 → IsLawful (repeated_rules k s)
    rounds_lawful some cap_fits fits = let at = λ (h : List ℕ). piece_of s.players k h in let front = λ (h : List ℕ) (a : ℕ) (play : IsPlay (repeated_rules k s) (h ++ a ∷ [])). sound h (IsPlay-front (repeated_rules k s) h (a ∷ []) play) in record {
      limits = record {
        players_low = laws.limits.players_low;
        players_high = laws.limits.players_high;
        unit_low = laws.limits.unit_low;
        unit_high = laws.limits.unit_high;
        cap_low = omega (arith, mul-le-mul some laws.limits.cap_low);
        cap_high = cap_fits;
        short = λ h play. omega (arith, rounds_short h play);
      };
      numbers = record {
        mover = λ h play. mover_at (at h) (sound h play);
        rises = λ h p play l. rises_at (at h) p (sound h play) l;
        small = λ h p play l. small_at (at h) p (sound h play) l;
        goes_on = λ h play o. goes_on_at (at h) (sound h play) o;
        stops = λ h p play l e. stops_at (at h) p (sound h play) e;
        waits = λ h p q play l e d. absurd (no_move_at (at h) q (sound h play) e);
        shared = λ h p q play l m e. absurd (no_chance_at (at h) (sound h play) e);
      };
      chance = record {
        weighed = λ h play e. absurd (no_chance_at (at h) (sound h play) e);
        weight_low = λ h play e. absurd (no_chance_at (at h) (sound h play) e);
        weight_high = λ h play e. absurd (no_chance_at (at h) (sound h play) e);
      };
      joint = record {
        begins = elim (fresh s.players k laws.limits.players_low) [
          | inl x ↦ subst (λ (o : Option (List ℕ)). IsOutside (at_piece End s.place o)) (sym x) tt
          | inr x ↦ subst (λ (o : Option (List ℕ)). IsOutside (at_piece End s.place o)) (sym x) laws.joint.begins
        ];
        enters = λ h a p play e. enters_at (at h) (at (h ++ a ∷ [])) a p (pair_of h a play) e;
        runs = λ h a p play e l. runs_at (at h) (at (h ++ a ∷ [])) a p (front h a play) (pair_of h a play) e l;
        same_legal = λ h a p q play e l. same_at [] (λ piece. s.legal piece q) (λ piece. s.legal piece q) (at h) (at (h ++ a ∷ [])) a p (front h a play) (pair_of h a play) e l (λ piece w f. laws.joint.same_legal piece a p q w f l);
        same_info = λ h a p q play e l m. same_at [] (λ piece. rounds_told (before_piece h piece) ++ s.info piece q) (λ piece. rounds_told (before_piece (h ++ a ∷ []) piece) ++ s.info piece q) (at h) (at (h ++ a ∷ [])) a p (front h a play) (pair_of h a play) e (omega arith) (λ piece w f. info_same h piece a p q w f l m);
      };
      texts = record {
        infos = λ h p play has l. infos_at h (at h) p (omega (arith, rounds_short h play)) (all_small h play) (sound h play) has l;
        names = λ h p a play c. names_at (at h) p a (sound h play) c;
      };
      capped = λ h p play e l. pay_bound h p play l (over_at h (at h) refl (sound h play) e) k (omega arith);
      one_shot = λ o. absurd (false≢true o);
    }

pub can_repeat_lawful : {G S : Type 0} (inner : Ghosts G S) (stage : G) (times : ℕ) → CanRepeat inner stage times → IsLawful (inner.rules stage) → IsLawful (repeated_rules times (inner.rules stage))
can_repeat_lawful inner stage times can laws = rounds_lawful (inner.rules stage) laws times can.shot can.some can.cap_fits can.fits
