-- What holds of every play of goofspiel.
use Rattle.std.proofs.Common.{◌≡◌, ℕ, zero, suc, ◌+◌, ◌-◌, ◌<◌, ◌≤◌, Bool, true, false, List, [], ◌∷◌, ◌++◌, length, map, drop, reverse, Option, None, Some, if◌then◌else◌, ◌==◌, refl, ap, sym, subst, ◌∙◌, arith, length-append}
use Rattle.std.specs.Prelude.{slice_get}
use Rattle.std.specs.List.{All, Contains}
use Rattle.std.proofs.lemmas.Bool.{eqb-false}
use Rattle.std.proofs.lemmas.List.{append-nil, length-map, map-append, length-reverse, get_or-reverse}
use Rattle.std.proofs.lemmas.List.Elements.{All-nil, All-push, All-drop, All-head, All-from_get_or}
use Rattle.std.proofs.lemmas.List.Sums.{sum_by-cons}
use Rattle.spiel_api.specs.declared.place.Place.TheVariants.{End, Chance}
use Rattle.spiel_api.specs.Rules.{next_at}
use Rattle.spiel_api.specs.Plays.{IsPlay}
use Rattle.spiel_goof.specs.declared.turns.Turn.{Turn}
use Rattle.spiel_goof.specs.declared.turns.Stage.{Stage}
use Rattle.spiel_goof.specs.declared.turns.Stage.TheVariants.{Between, Shown, Bid}
use Rattle.spiel_goof.specs.declared.goofspiel.PointOrder.{PointOrder}
use Rattle.spiel_goof.specs.declared.goofspiel.PointOrder.TheVariants.{Random, Ascending, Descending}
use Rattle.spiel_goof.specs.declared.goofspiel.ReturnKind.{ReturnKind}
use Rattle.spiel_api.specs.Deck.{numbers_below, cards_left}
use Rattle.spiel_api.proofs.CardsLeft.{length-numbers_below, numbers_low, left_below, number_at, none_gone}
use Rattle.spiel_goof.specs.Worth.{worth, worth-append, worth-reverse, left_worth}
use Rattle.spiel_goof.specs.Goofspiel.{point_of, given_points, Parts, parts, place_at, legal_at, points_left, goofspiel_rules}
use Rattle.spiel_goof.specs.Turns.{begun, told_by, parts-push, parts-nil}
use Rattle.spiel_api.proofs.Inductions.{of_plays}
use Rattle.spiel_api.proofs.Members.{none_of_none}

-- the point card that lies, if one does
abbrev pub lying : Stage → List ℕ
lying Between = []
lying (Shown point) = point ∷ []
lying (Bid point first) = point ∷ []

-- the point cards so far
abbrev pub come : Parts → List ℕ
come x = map point_of x.turns ++ lying x.stage

-- a turn and a stage are made of n cards
pub record IsTurnOf (n : ℕ) (turn : Turn) : Type 0 where
  pub point : turn.point < n
  pub first : turn.first < n
  pub second : turn.second < n

abbrev pub IsStageOf : ℕ → Stage → Type 0
IsStageOf n Between = Unit {0}
IsStageOf n (Shown point) = point < n
IsStageOf n (Bid point first) = (point < n) × (first < n)

-- given point cards are all of n cards
pub record AreAllPoints (n : ℕ) (points : List ℕ) : Type 0 where
  pub count : length points ≡ n
  pub small : All (λ c. c < n) points
  pub worth : worth points ≡ worth (numbers_below n)

abbrev pub AreGiven : ℕ → List ℕ → Type 0
AreGiven n [] = Unit {0}
AreGiven n (card ∷ points) = AreAllPoints n (card ∷ points)

-- where the point cards are given, there is one as long as turns are left
pub record KeepsOn (n : ℕ) (points : List ℕ) (x : Parts) : Type 0 where
  pub worth : worth (come x) + worth (drop (length (come x)) points) ≡ worth (numbers_below n)
  pub over : x.stage ≡ Between → n ≤ length x.turns

-- the point cards so far and those to come are worth all cards
abbrev pub HasRest : ℕ → List ℕ → Parts → Type 0
HasRest n [] x = worth (come x) + worth (cards_left n (come x)) ≡ worth (numbers_below n)
HasRest n (card ∷ points) x = KeepsOn n (card ∷ points) x

-- what is so of the parts of every play
pub record IsSound (n : ℕ) (points : List ℕ) (x : Parts) : Type 0 where
  pub few : length (come x) ≤ n
  pub turns : All (IsTurnOf n) x.turns
  pub stage : IsStageOf n x.stage
  pub rest : HasRest n points x

pub length-come : (x : Parts) → length (come x) ≡ length x.turns + length (lying x.stage)
length-come x = length-append (map point_of x.turns) (lying x.stage) ∙ ap (λ k. k + length (lying x.stage)) (length-map x.turns point_of)

-- the point cards so far, when a turn is complete
come_complete : (turns : List Turn) (turn : Turn) (stage : Stage) → come (record { turns = turns ++ turn ∷ []; stage = stage }) ≡ (map point_of turns ++ turn.point ∷ []) ++ lying stage
come_complete turns turn stage = ap (λ (xs : List ℕ). xs ++ lying stage) (map-append point_of turns (turn ∷ []))

drop_next : (xs : List ℕ) (k c : ℕ) → slice_get xs k ≡ Some c → drop k xs ≡ c ∷ drop (k + 1) xs
drop_next [] k c e = cc
drop_next (x ∷ xs) zero c e = let same : x ≡ c = cc in ap (λ (d : ℕ). d ∷ xs) same
drop_next (x ∷ xs) (suc k) c e =
    let next : suc k + 1 ≡ suc (k + 1) = omega arith in
    rw next (drop_next xs k c e)

get_within : (xs : List ℕ) (k c : ℕ) → slice_get xs k ≡ Some c → k < length xs
get_within [] k c e = cc
get_within (x ∷ xs) zero c e = omega arith
get_within (x ∷ xs) (suc k) c e = omega (arith, get_within xs k c e)

get_past : (xs : List ℕ) (k : ℕ) → slice_get xs k ≡ None → length xs ≤ k
get_past [] k e = omega arith
get_past (x ∷ xs) zero e = cc
get_past (x ∷ xs) (suc k) e = omega (arith, get_past xs k e)

-- chance draws a point card
sound_draw : (n : ℕ) (points : List ℕ) (turns : List Turn) (a : ℕ) → length turns < n → Contains (points_left n turns) a → IsSound n points (record { turns = turns; stage = Between }) → IsSound n points (record { turns = turns; stage = Shown a })
sound_draw n points turns a fewer c sound = record {
  few = omega (arith, length-come (record { turns = turns; stage = Shown a }));
  turns = sound.turns;
  stage = left_below n (map point_of turns) a c;
  rest = by points sound.rest;
}
  where
    none : map point_of turns ++ [] ≡ map point_of turns
    none = append-nil (map point_of turns)

    by : (points : List ℕ) → HasRest n points (record { turns = turns; stage = Between }) → HasRest n points (record { turns = turns; stage = Shown a })
    by [] rest =
        let before : worth (map point_of turns) + worth (cards_left n (map point_of turns)) ≡ worth (numbers_below n) =
        subst (λ (xs : List ℕ). worth xs + worth (cards_left n xs) ≡ worth (numbers_below n)) none rest in
        omega (arith, before, left_worth n (map point_of turns) a c, worth-append (map point_of turns) (a ∷ []))
    by (card ∷ points) rest = absurd (let full = rest.over refl in omega arith)

-- player 0 bids
sound_first : (n : ℕ) (points : List ℕ) (turns : List Turn) (point a : ℕ) → a < n → IsSound n points (record { turns = turns; stage = Shown point }) → IsSound n points (record { turns = turns; stage = Bid point a })
sound_first n points turns point a l sound = record {
  few = sound.few;
  turns = sound.turns;
  stage = (sound.stage, l);
  rest = by points sound.rest;
}
  where
    by : (points : List ℕ) → HasRest n points (record { turns = turns; stage = Shown point }) → HasRest n points (record { turns = turns; stage = Bid point a })
    by [] rest = rest
    by (card ∷ points) rest = record { worth = rest.worth; over = λ e. cc }

-- player 1 bids, and the turn is complete
sound_second : (n : ℕ) (points : List ℕ) (turns : List Turn) (point first a : ℕ) → AreGiven n points → a < n → IsSound n points (record { turns = turns; stage = Bid point first }) → IsSound n points (told_by points turns (Bid point first) a)
sound_second n [] turns point first a given l sound =
    let turn : Turn = record { point = point; first = first; second = a } in
    let same : come (told_by [] turns (Bid point first) a) ≡ map point_of turns ++ point ∷ [] = come_complete turns turn Between ∙ append-nil (map point_of turns ++ point ∷ []) in
    record {
      few = omega (arith, ap length same, sound.few);
      turns = All-push (IsTurnOf n) turns turn sound.turns (record { point = sound.stage.0; first = sound.stage.1; second = l });
      stage = tt;
      rest = subst (λ (xs : List ℕ). worth xs + worth (cards_left n xs) ≡ worth (numbers_below n)) (sym same) sound.rest;
    }
sound_second n (card ∷ more) turns point first a given l sound = by (slice_get points (length turns + 1)) refl
  where
    points : List ℕ
    points = card ∷ more

    turn : Turn
    turn = record { point = point; first = first; second = a }

    before : List ℕ
    before = map point_of turns ++ point ∷ []

    count : length before ≡ length turns + 1
    count = length-come (record { turns = turns; stage = Bid point first })

    longer : length (turns ++ turn ∷ []) ≡ length turns + 1
    longer = length-append turns (turn ∷ [])

    all : All (IsTurnOf n) (turns ++ turn ∷ [])
    all = All-push (IsTurnOf n) turns turn sound.turns (record { point = sound.stage.0; first = sound.stage.1; second = l })

    by : (next : Option ℕ) → slice_get points (length turns + 1) ≡ next → IsSound n points (record { turns = turns ++ turn ∷ []; stage = begun next })
    by None e =
        let same : come (record { turns = turns ++ turn ∷ []; stage = Between }) ≡ before = come_complete turns turn Between ∙ append-nil before in
        record {
          few = omega (arith, ap length same, sound.few);
          turns = all;
          stage = tt;
          rest = record {
            worth = subst (λ (xs : List ℕ). worth xs + worth (drop (length xs) points) ≡ worth (numbers_below n)) (sym same) sound.rest.worth;
            over = λ f. omega (arith, get_past points (length turns + 1) e, given.count, longer);
          };
        }
    by (Some c) e =
        let same : come (record { turns = turns ++ turn ∷ []; stage = Shown c }) ≡ before ++ c ∷ [] = come_complete turns turn (Shown c) in
        let rest : drop (length before) points ≡ c ∷ drop (length before + 1) points = drop_next points (length before) c (ap (λ k. slice_get points k) count ∙ e) in
        let longer_by : length (before ++ c ∷ []) ≡ length before + 1 = length-append before (c ∷ []) in
        let small : c < n = All-head (λ c. c < n) c (drop (length before + 1) points) (subst (λ (xs : List ℕ). All (λ c. c < n) xs) rest (All-drop (λ c. c < n) (length before) points given.small)) in
        record {
          few = omega (arith, ap length same, longer_by, count, get_within points (length turns + 1) c e, given.count);
          turns = all;
          stage = small;
          rest = record {
            worth = subst (λ (xs : List ℕ). worth xs + worth (drop (length xs) points) ≡ worth (numbers_below n)) (sym same)
                (omega (
                  arith,
                  sound.rest.worth,
                  worth-append before (c ∷ []),
                  ap worth rest,
                  sum_by-cons (λ (c : ℕ). c + 1) c (drop (length before + 1) points),
                  ap (λ k. worth (drop k points)) longer_by,
                ));
            over = λ f. cc;
          };
        }

sound_told : (n : ℕ) (points : List ℕ) (turns : List Turn) (stage : Stage) (a : ℕ) → AreGiven n points → Contains (next_at (place_at n (record { turns = turns; stage = stage })) (legal_at n (record { turns = turns; stage = stage }))) a → IsSound n points (record { turns = turns; stage = stage }) → IsSound n points (told_by points turns stage a)
sound_told n points turns Between a given c sound = by (length turns == n) refl c
  where
    by : (over : Bool) → (length turns == n) ≡ over → Contains (next_at (if over then End else Chance) (legal_at n (record { turns = turns; stage = Between }))) a → IsSound n points (record { turns = turns; stage = Shown a })
    by true e c = none_of_none a c
    by false e c =
        let other = eqb-false (length turns) n e in
        let few : length turns ≤ n = omega (arith, sound.few, length-come (record { turns = turns; stage = Between })) in
        sound_draw n points turns a (omega arith) (rw e at c) sound
sound_told n points turns (Shown point) a given c sound = sound_first n points turns point a (left_below n _ a c) sound
sound_told n points turns (Bid point first) a given c sound = sound_second n points turns point first a given (left_below n _ a c) sound

-- given point cards are all cards
all_points : (n : ℕ) → AreAllPoints n (numbers_below n)
all_points n = record { count = length-numbers_below n; small = numbers_low n; worth = refl }

falling_small : (n : ℕ) → All (λ c. c < n) (reverse (numbers_below n))
falling_small n = All-from_get_or (λ c. c < n) (reverse (numbers_below n)) 0
    (λ k l.
    let within : k < length (numbers_below n) = omega (arith, l, length-reverse (numbers_below n)) in
    let mirrored : length (numbers_below n) - 1 - k < n = omega (arith, length-numbers_below n) in
    omega (arith, get_or-reverse (numbers_below n) k 0 within, number_at n (length (numbers_below n) - 1 - k) mirrored))

all_falling : (n : ℕ) → AreAllPoints n (reverse (numbers_below n))
all_falling n = record { count = length-reverse (numbers_below n) ∙ length-numbers_below n; small = falling_small n; worth = worth-reverse (numbers_below n) }

given_by : (n : ℕ) (points : List ℕ) → AreAllPoints n points → AreGiven n points
given_by n [] all = tt
given_by n (card ∷ points) all = all

pub are_given : (order : PointOrder) (n : ℕ) → AreGiven n (given_points order n)
are_given Random n = tt
are_given Ascending n = given_by n (numbers_below n) (all_points n)
are_given Descending n = given_by n (reverse (numbers_below n)) (all_falling n)

-- at the root
sound_root : (n : ℕ) (points : List ℕ) → AreGiven n points → IsSound n points (record { turns = []; stage = begun (slice_get points 0) })
sound_root n [] given = record { few = omega arith; turns = All-nil (IsTurnOf n); stage = tt; rest = omega (arith, ap worth (none_gone n)) }
sound_root n (card ∷ points) given = record {
  few = omega (arith, given.count);
  turns = All-nil (IsTurnOf n);
  stage = All-head (λ c. c < n) card points given.small;
  rest = record { worth = omega (arith, given.worth, sum_by-cons (λ (c : ℕ). c + 1) card points); over = λ e. cc };
}

module _ (n : ℕ) (order : PointOrder) (returns : ReturnKind) (hidden : Bool) where
  pub sound_play : (h : List ℕ) → IsPlay (goofspiel_rules n order returns hidden) h → IsSound n (given_points order n) (parts order n h)
  sound_play = of_plays (goofspiel_rules n order returns hidden) (λ h. IsSound n (given_points order n) (parts order n h))
      (subst (IsSound n (given_points order n)) (sym (parts-nil order n)) (sound_root n (given_points order n) (are_given order n)))
      (λ h a sound c. subst (IsSound n (given_points order n)) (sym (parts-push order n h a))
      (sound_told n (given_points order n) (parts order n h).turns (parts order n h).stage a (are_given order n) c sound))
