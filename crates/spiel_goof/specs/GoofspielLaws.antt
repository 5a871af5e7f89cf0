-- Goofspiel keeps the laws.
use Rattle.std.specs.Prelude.{◌≡◌, ℕ, zero, suc, ◌+◌, ◌-◌, ◌*◌, ◌/◌, ◌<◌, ◌≤◌, pos, negsuc, Bool, true, false, List, [], ◌∷◌, ◌++◌, length, map, codes, nat_abs, flat_map, slice_get, Option, None, Some, nat_lt, if◌then◌else◌, ◌==◌}
use Rattle.std.specs.List.{All}
use Rattle.std.specs.Fmt.{decimal}
use Rattle.std.proofs.Common.{refl, ap, sym, subst, arith}
use Rattle.std.proofs.Math.Nat.{mul-le-mul}
use Rattle.std.proofs.lemmas.Bool.{false≢true, eqb-false, ltb-true}
use Rattle.std.proofs.lemmas.Int.{ints}
use Rattle.std.proofs.lemmas.List.{length-map}
use Rattle.std.proofs.lemmas.List.Elements.{All-nil, All-weaker, All-contains}
use Rattle.std.proofs.lemmas.List.Sums.{sum_by-cons}
use Rattle.spiel_api.specs.declared.place.Place.{Place}
use Rattle.spiel_api.specs.declared.place.Place.TheVariants.{End, Chance, Move, Joint}
use Rattle.spiel_api.specs.Plays.{IsPlay}
use Rattle.spiel_api.specs.Place.{IsOutside}
use Rattle.spiel_api.specs.Laws.{IsLawful, IsPrintable, HasWholeJointSteps}
use Rattle.spiel_api.proofs.LawLemmas.{IsPrintable-append, IsPrintable-computed, IsPrintable-texts, decimal_printable}
use Rattle.spiel_api.proofs.NodeLaws.{AreChoices, AreChoices-left, AreWeights-ones, IsNode, chance_weights, legal_numbers}
use Rattle.spiel_goof.specs.declared.turns.Turn.{Turn}
use Rattle.spiel_goof.specs.declared.turns.Stage.{Stage}
use Rattle.spiel_goof.specs.declared.turns.Stage.TheVariants.{Between, Shown, Bid}
use Rattle.spiel_goof.specs.declared.goofspiel.PointOrder.{PointOrder}
use Rattle.spiel_goof.specs.declared.goofspiel.ReturnKind.{ReturnKind}
use Rattle.spiel_goof.specs.declared.goofspiel.ReturnKind.TheVariants.{WinLoss, PointDifference, TotalPoints}
use Rattle.spiel_api.specs.Deck.{numbers_below, cards_left}
use Rattle.spiel_api.proofs.CardsLeft.{left_at_most, left_low}
use Rattle.spiel_goof.specs.Worth.{worth, worth-append, all_worth}
use Rattle.spiel_goof.specs.Goofspiel.{IsCardCount, point_of, given_points, Parts, parts, place_by, place_at, numbers_at, legal_at, points_left, hand_of, weights_by, weights_at, name_by, outcome_text, other_text, turn_text, stage_text, info_at, bid_of, gain_of, points_of, return_of, pay_at, cap_of, goofspiel_rules}
use Rattle.spiel_goof.specs.Turns.{begun, told, told_by, parts-push, parts-nil, length-parts}
use Rattle.spiel_goof.specs.GoofspielPlays.{IsSound, IsTurnOf, IsStageOf, lying, come, length-come, sound_play}

-- texts
printable_decimal : (n : ℕ) → n < 100 → IsPrintable 2 (decimal n)
printable_decimal n l = decimal_printable 2 n (omega arith) (omega arith) (omega arith)

printable_name : (place : Place) (a : ℕ) → a < 20 → IsPrintable 128 (name_by place a)
printable_name End a l = IsPrintable-append 4 2 128 (codes "bid ") (decimal (a + 1)) (omega arith) (IsPrintable-computed 4 (codes "bid ") refl refl) (printable_decimal (a + 1) (omega arith))
printable_name Chance a l = IsPrintable-append 6 2 128 (codes "point ") (decimal (a + 1)) (omega arith) (IsPrintable-computed 6 (codes "point ") refl refl) (printable_decimal (a + 1) (omega arith))
printable_name (Move q) a l = IsPrintable-append 4 2 128 (codes "bid ") (decimal (a + 1)) (omega arith) (IsPrintable-computed 4 (codes "bid ") refl refl) (printable_decimal (a + 1) (omega arith))
printable_name (Joint q) a l = IsPrintable-append 4 2 128 (codes "bid ") (decimal (a + 1)) (omega arith) (IsPrintable-computed 4 (codes "bid ") refl refl) (printable_decimal (a + 1) (omega arith))

printable_outcome : (own other : ℕ) → IsPrintable 2 (outcome_text own other)
printable_outcome own other = by (nat_lt other own) (nat_lt own other)
  where
    by : (won lost : Bool) → IsPrintable 2 (if won then codes "w" else if lost then codes "l" else codes "t")
    by true lost = IsPrintable-computed 2 (codes "w") refl refl
    by false true = IsPrintable-computed 2 (codes "l") refl refl
    by false false = IsPrintable-computed 2 (codes "t") refl refl

printable_other : (hidden : Bool) (own other : ℕ) → other < 20 → IsPrintable 2 (other_text hidden own other)
printable_other true own other l = printable_outcome own other
printable_other false own other l = printable_decimal (other + 1) (omega arith)

bid_small : (n p : ℕ) (turn : Turn) → IsTurnOf n turn → bid_of p turn < n
bid_small n zero turn cards = cards.first
bid_small n (suc p) turn cards = cards.second

printable_turn : (n : ℕ) (hidden : Bool) (p : ℕ) (turn : Turn) → n ≤ 20 → IsTurnOf n turn → IsPrintable 9 (turn_text hidden p turn)
printable_turn n hidden p turn few cards =
    let point = decimal (turn.point + 1) in
    let own = decimal (bid_of p turn + 1) in
    let other = other_text hidden (bid_of p turn) (bid_of (1 - p) turn) in
    let slash = IsPrintable-computed 1 (codes "/") refl refl in
    let own_small = bid_small n p turn cards in
    let other_small = bid_small n (1 - p) turn cards in
    let with_point = IsPrintable-append 2 1 3 point (codes "/") (omega arith) (printable_decimal (turn.point + 1) (omega (arith, cards.point))) slash in
    let with_own = IsPrintable-append 3 2 5 (point ++ codes "/") own (omega arith) with_point (printable_decimal (bid_of p turn + 1) (omega arith)) in
    let with_slash = IsPrintable-append 5 1 6 (point ++ codes "/" ++ own) (codes "/") (omega arith) with_own slash in
    let with_other = IsPrintable-append 6 2 8 (point ++ codes "/" ++ own ++ codes "/") other (omega arith) with_slash (printable_other hidden (bid_of p turn) (bid_of (1 - p) turn) (omega arith)) in
    IsPrintable-append 8 1 9 (point ++ codes "/" ++ own ++ codes "/" ++ other) (codes " ") (omega arith) with_other (IsPrintable-computed 1 (codes " ") refl refl)

printable_stage : (n : ℕ) (stage : Stage) → n ≤ 20 → IsStageOf n stage → IsPrintable 2 (stage_text stage)
printable_stage n Between few cards = IsPrintable-computed 2 [] refl refl
printable_stage n (Shown point) few cards = printable_decimal (point + 1) (omega arith)
printable_stage n (Bid point first) few cards = let small : point < n = cards.0 in printable_decimal (point + 1) (omega arith)

-- the points of both players together are no more than the point cards are worth
gains : (turn : Turn) → gain_of 0 turn + gain_of 1 turn ≤ turn.point + 1
gains turn = by (nat_lt turn.second turn.first) refl (nat_lt turn.first turn.second) refl
  where
    by : (first : Bool) → nat_lt turn.second turn.first ≡ first → (second : Bool) → nat_lt turn.first turn.second ≡ second → (if first then turn.point + 1 else 0) + (if second then turn.point + 1 else 0) ≤ turn.point + 1
    by true e true f = absurd (omega (arith, ltb-true turn.second turn.first e, ltb-true turn.first turn.second f))
    by true e false f = omega arith
    by false e true f = omega arith
    by false e false f = omega arith

all_gains : (turns : List Turn) → points_of 0 turns + points_of 1 turns ≤ worth (map point_of turns)
all_gains [] = omega arith
all_gains (turn ∷ turns) = omega (
  arith,
  gains turn,
  all_gains turns,
  sum_by-cons (gain_of 0) turn turns,
  sum_by-cons (gain_of 1) turn turns,
  sum_by-cons (λ (c : ℕ). c + 1) turn.point (map point_of turns),
)

-- all point cards are worth no more than 210
total_low : (n : ℕ) → IsCardCount n → 1 ≤ n * (n + 1) / 2
total_low n range =
    let more : 1 * 2 ≤ n * (n + 1) = let next : 2 ≤ n + 1 = omega (arith, range.low) in mul-le-mul range.low next in
    omega arith

total_high : (n : ℕ) → IsCardCount n → n * (n + 1) / 2 ≤ 210
total_high n range =
    let less : n * (n + 1) ≤ 20 * 21 = let next : n + 1 ≤ 21 = omega (arith, range.high) in mul-le-mul range.high next in
    omega arith

module _ (n : ℕ) (order : PointOrder) (returns : ReturnKind) (hidden : Bool) (range : IsCardCount n) where
  -- what holds at a draw, at the bid of each player and at the end holds at every play
  everywhere : (P : Place → (ℕ → List ℕ) → List ℕ → Type 0) → ((turns : List Turn) → length turns < n → P Chance (λ p. points_left n turns) (map (λ point. 1) (points_left n turns))) → ((q : ℕ) (turns : List Turn) → q < 2 → length turns < n → P (Joint q) (λ p. hand_of n p turns) []) → P End (λ p. []) []
      → (h : List ℕ) → IsPlay (goofspiel_rules n order returns hidden) h → P (place_at n (parts order n h)) (legal_at n (parts order n h)) (weights_at n (parts order n h))
  everywhere P draw bid over h play = by (parts order n h).turns (parts order n h).stage (sound_play n order returns hidden h play)
    where
      by : (turns : List Turn) (stage : Stage) → IsSound n (given_points order n) (record { turns = turns; stage = stage }) → P (place_at n (record { turns = turns; stage = stage })) (legal_at n (record { turns = turns; stage = stage })) (weights_at n (record { turns = turns; stage = stage }))
      by turns Between sound = next (length turns == n) refl
        where
          few : length turns ≤ n
          few = omega (arith, sound.few, length-come (record { turns = turns; stage = Between }))

          next : (b : Bool) → (length turns == n) ≡ b → P (if b then End else Chance) (λ p. numbers_at (if b then End else Chance) (points_left n turns) (hand_of n p turns)) (weights_by (if b then End else Chance) (points_left n turns))
          next true e = over
          next false e = draw turns (let other = eqb-false (length turns) n e in omega (arith, few))
      by turns (Shown point) sound = bid 0 turns (omega arith) (omega (arith, sound.few, length-come (record { turns = turns; stage = Shown point })))
      by turns (Bid point first) sound = bid 1 turns (omega arith) (omega (arith, sound.few, length-come (record { turns = turns; stage = Bid point first })))

  card_count : n ≤ 20
  card_count = range.high

  -- each legal number is a card
  pub legal_small : (h : List ℕ) (p : ℕ) → IsPlay (goofspiel_rules n order returns hidden) h → All (λ a. a < n) (legal_at n (parts order n h) p)
  legal_small h p play = everywhere (λ place legal weights. All (λ a. a < n) (legal p)) (λ turns l. left_low n (map point_of turns)) (λ q turns m l. left_low n (map (bid_of p) turns)) (All-nil (λ a. a < n)) h play

  nodes : (h : List ℕ) → IsPlay (goofspiel_rules n order returns hidden) h → IsNode 2 (place_at n (parts order n h)) (legal_at n (parts order n h)) (weights_at n (parts order n h))
  nodes = everywhere (IsNode 2)
      (λ turns l.
      let left = choices point_of turns l in
      (λ p q. refl, left, AreWeights-ones (points_left n turns) left.some (omega (arith, left_at_most n (map point_of turns), card_count))))
      (λ q turns m l. (m, λ p k. choices (bid_of p) turns l)) (λ p. refl)
    where
      -- a card is left as long as turns are
      choices : (card_of : Turn → ℕ) (turns : List Turn) → length turns < n → AreChoices (cards_left n (map card_of turns))
      choices card_of turns l = AreChoices-left n (map card_of turns) (omega (arith, card_count)) (omega (arith, l, length-map turns card_of))

  -- joint steps
  -- after one number more
  grown : (P : Parts → Type 0) (h : List ℕ) (a : ℕ) → P (told (given_points order n) (parts order n h) a) → P (parts order n (h ++ a ∷ []))
  grown P h a p = subst P (sym (parts-push order n h a)) p

  begins_outside : (points : List ℕ) → IsOutside (place_by (begun (slice_get points 0)) (0 == n))
  begins_outside [] = by (0 == n)
    where
      by : (b : Bool) → IsOutside (if b then End else Chance)
      by true = tt
      by false = tt
  begins_outside (card ∷ points) = refl

  never_second : (over : Bool) (p : ℕ) → (if over then End else Chance) ≡ Joint (p + 1) → ⊥
  never_second true p e = cc
  never_second false p e = cc

  enters : (points : List ℕ) (turns : List Turn) (stage : Stage) (a p : ℕ) → place_at n (told_by points turns stage a) ≡ Joint (p + 1) → place_at n (record { turns = turns; stage = stage }) ≡ Joint p
  enters points turns Between a p e = let zero_p : 0 ≡ p + 1 = cc in absurd (omega arith)
  enters points turns (Shown point) a p e = let one : 1 ≡ p + 1 = cc in ap Joint (omega arith)
  enters points turns (Bid point first) a p e = absurd (by (slice_get points (length turns + 1)) e)
    where
      turn : Turn
      turn = record { point = point; first = first; second = a }

      by : (o : Option ℕ) → place_by (begun o) (length (turns ++ turn ∷ []) == n) ≡ Joint (p + 1) → ⊥
      by None e = never_second (length (turns ++ turn ∷ []) == n) p e
      by (Some c) e = let zero_p : 0 ≡ p + 1 = cc in omega arith

  -- what holds where a point card lies without a bid holds where a player chooses who isn't the last
  first_choice : (P : Parts → ℕ → Type 0) → ((turns : List Turn) (point : ℕ) → P (record { turns = turns; stage = Shown point }) 0) → (turns : List Turn) (stage : Stage) (p : ℕ) → place_at n (record { turns = turns; stage = stage }) ≡ Joint p → p + 1 < 2 → P (record { turns = turns; stage = stage }) p
  first_choice P shown turns Between p e l = absurd (by (length turns == n) e)
    where
      by : (b : Bool) → (if b then End else Chance) ≡ Joint p → ⊥
      by true e = cc
      by false e = cc
  first_choice P shown turns (Shown point) zero e l = shown turns point
  first_choice P shown turns (Shown point) (suc p) e l = absurd (omega arith)
  first_choice P shown turns (Bid point first) p e l = let one : 1 ≡ p = cc in absurd (omega arith)

  joint_step : HasWholeJointSteps (goofspiel_rules n order returns hidden)
  joint_step = record {
    begins = subst (λ (x : Parts). IsOutside (place_at n x)) (sym (parts-nil order n)) (begins_outside (given_points order n));
    enters = λ h a p play e. enters (given_points order n) (parts order n h).turns (parts order n h).stage a p (subst (λ (x : Parts). place_at n x ≡ Joint (p + 1)) (parts-push order n h a) e);
    runs = λ h a p play e l. grown (λ (x : Parts). place_at n x ≡ Joint (p + 1)) h a
        (first_choice (λ x p. place_at n (told (given_points order n) x a) ≡ Joint (p + 1)) (λ turns point. refl) (parts order n h).turns (parts order n h).stage p e l);
    same_legal = λ h a p q play e l. grown (λ (x : Parts). legal_at n x q ≡ legal_at n (parts order n h) q) h a
        (first_choice (λ x p. legal_at n (told (given_points order n) x a) q ≡ legal_at n x q) (λ turns point. refl) (parts order n h).turns (parts order n h).stage p e l);
    same_info = λ h a p q play e l m. grown (λ (x : Parts). info_at hidden x q ≡ info_at hidden (parts order n h) q) h a
        (first_choice (λ x p. info_at hidden (told (given_points order n) x a) q ≡ info_at hidden x q) (λ turns point. refl) (parts order n h).turns (parts order n h).stage p e (omega arith));
  }

  -- at most 20 turns
  pub few_turns : (h : List ℕ) → IsPlay (goofspiel_rules n order returns hidden) h → length (parts order n h).turns ≤ 20
  few_turns h play = omega (arith, (sound_play n order returns hidden h play).few, length-come (parts order n h), card_count)

  infos : (h : List ℕ) (p : ℕ) → IsPlay (goofspiel_rules n order returns hidden) h → IsPrintable 32768 (info_at hidden (parts order n h) p)
  infos h p play =
      let x = parts order n h in
      let sound = sound_play n order returns hidden h play in
      IsPrintable-append (9 * length x.turns) 2 32768 (flat_map (turn_text hidden p) x.turns) (stage_text x.stage) (omega (arith, few_turns h play))
      (IsPrintable-texts 9 (turn_text hidden p) x.turns (All-weaker (IsTurnOf n) (λ turn. IsPrintable 9 (turn_text hidden p turn)) (λ turn cards. printable_turn n hidden p turn card_count cards) x.turns sound.turns)) (printable_stage n x.stage card_count sound.stage)

  -- both players together have no more points than there are
  pub points_low : (h : List ℕ) → IsPlay (goofspiel_rules n order returns hidden) h → points_of 0 (parts order n h).turns + points_of 1 (parts order n h).turns ≤ n * (n + 1) / 2
  points_low h play =
      let x = parts order n h in
      omega (arith, all_gains x.turns, worth-append (map point_of x.turns) (lying x.stage), come_low (given_points order n) x (sound_play n order returns hidden h play), all_worth n)
    where
      come_low : (points : List ℕ) (x : Parts) → IsSound n points x → worth (come x) ≤ worth (numbers_below n)
      come_low [] x sound = omega (arith, sound.rest)
      come_low (card ∷ points) x sound = omega (arith, sound.rest.worth)

  pub points_small : (h : List ℕ) → IsPlay (goofspiel_rules n order returns hidden) h → points_of 0 (parts order n h).turns + points_of 1 (parts order n h).turns ≤ 210
  points_small h play = omega (arith, points_low h play, total_high n range)

  capped : (h : List ℕ) (p : ℕ) → IsPlay (goofspiel_rules n order returns hidden) h → p < 2 → nat_abs (pay_at returns (parts order n h) p) ≤ cap_of returns n
  capped h p play l = by p l
    where
      paid : (kind : ReturnKind) (own other : ℕ) → own + other ≤ n * (n + 1) / 2 → nat_abs (return_of kind own other) ≤ cap_of kind n
      paid WinLoss own other m = each (nat_lt other own) (nat_lt own other)
        where
          each : (won lost : Bool) → nat_abs (if won then pos 1 else if lost then negsuc 0 else pos 0) ≤ 1
          each true lost = omega arith
          each false true = omega arith
          each false false = omega arith
      paid PointDifference own other m = omega (arith, ints)
      paid TotalPoints own other m = omega (arith, ints)

      by : (p : ℕ) → p < 2 → nat_abs (pay_at returns (parts order n h) p) ≤ cap_of returns n
      by zero l = paid returns _ _ (points_low h play)
      by (suc zero) l = paid returns _ _ (omega (arith, points_low h play))
      by (suc (suc p)) l = absurd (omega arith)

  cap_within : (kind : ReturnKind) → (1 ≤ cap_of kind n) × (cap_of kind n ≤ 210)
  cap_within WinLoss = (omega arith, omega arith)
  cap_within PointDifference = (total_low n range, total_high n range)
  cap_within TotalPoints = (total_low n range, total_high n range)

  pub goofspiel_lawful : IsLawful (goofspiel_rules n order returns hidden)
  goofspiel_lawful = record {
    limits = record {
      players_low = omega arith;
      players_high = omega arith;
      unit_low = omega arith;
      unit_high = omega arith;
      cap_low = (cap_within returns).0;
      cap_high = omega (arith, (cap_within returns).1);
      short = λ h play. omega (arith, length-parts order n h, few_turns h play);
    };
    numbers = legal_numbers (goofspiel_rules n order returns hidden) nodes;
    chance = chance_weights (goofspiel_rules n order returns hidden) nodes;
    joint = joint_step;
    texts = record {
      infos = λ h p play has l. infos h p play;
      names = λ h p a play c. printable_name (place_at n (parts order n h)) a (let small = All-contains (λ a. a < n) (legal_at n (parts order n h) p) a (legal_small h p play) c in omega (arith, small, card_count));
    };
    capped = λ h p play e l. capped h p play l;
    one_shot = λ o. absurd (false≢true o);
  }
