-- A turn-based game keeps the laws where the inner game does.
use Rattle.std.specs.Prelude.{◌≡◌, ◌≢◌, ℕ, ◌-◌, ◌^◌, ◌<◌, Bool, true, false, List, [], length, if◌then◌else◌, ◌==◌}
use Rattle.std.specs.List.{All, Contains}
use Rattle.std.specs.List.Sorted.{IsStrictlyIncreasing}
use Rattle.std.proofs.Common.{refl, subst, sym, arith}
use Rattle.std.proofs.lemmas.Bool.{false≢true}
use Rattle.std.proofs.lemmas.List.Elements.{All-nil}
use Rattle.spiel_api.specs.declared.place.Place.{Place}
use Rattle.spiel_api.specs.declared.place.Place.TheVariants.{End, Chance, Move, Joint}
use Rattle.spiel_api.specs.Rules.{Rules, next_of, next_at}
use Rattle.spiel_api.specs.Plays.{IsPlay}
use Rattle.spiel_api.specs.Place.{IsAmongPlayers, IsOpen, IsOutside, HasInfo}
use Rattle.spiel_api.specs.Laws.{IsLawful, HasLegalNumbers}
use Rattle.spiel_api.proofs.LawLemmas.{without_joint_steps, IsStrictlyIncreasing-computed}
use Rattle.spiel_api.proofs.PlayLemmas.{Follows-same}
use Rattle.spiel_layers.specs.TurnBased.{turn_place, turn_legal, turn_based_rules}

same_number : (b : Bool) (xs : List ℕ) → b ≡ true → (if b then xs else []) ≡ xs
same_number true xs e = refl
same_number false xs e = absurd (false≢true e)

equal_self : (p : ℕ) → (p == p) ≡ true
equal_self p = search Rattle.std.proofs.Common.rules

-- the numbers of whoever is next are the inner ones
next_turn : (place : Place) (legal : ℕ → List ℕ) → next_at (turn_place place) (turn_legal place legal) ≡ next_at place legal
next_turn End legal = refl
next_turn Chance legal = refl
next_turn (Move p) legal = refl
next_turn (Joint p) legal = same_number (p == p) (legal p) (equal_self p)

-- so the plays are those of the inner game
pub turn_play : (r : Rules) (h : List ℕ) → IsPlay r h → IsPlay (turn_based_rules r) h
turn_play r h play = record {
  steps = Follows-same (next_of r) (next_of (turn_based_rules r)) (λ i. sym (next_turn (r.place i) (r.legal i))) [] h play.steps;
}

pub inner_play : (r : Rules) (h : List ℕ) → IsPlay (turn_based_rules r) h → IsPlay r h
inner_play r h play = record {
  steps = Follows-same (next_of (turn_based_rules r)) (next_of r) (λ i. next_turn (r.place i) (r.legal i)) [] h play.steps;
}

turn_mover : (n : ℕ) (place : Place) → IsAmongPlayers n place → IsAmongPlayers n (turn_place place)
turn_mover n End m = m
turn_mover n Chance m = m
turn_mover n (Move p) m = m
turn_mover n (Joint p) m = m

-- what holds of no numbers and of the inner numbers holds of the numbers
choice_has : (P : List ℕ → Type 0) (b : Bool) (xs : List ℕ) → P [] → P xs → P (if b then xs else [])
choice_has P true xs none all = all
choice_has P false xs none all = none

turn_has : (P : List ℕ → Type 0) (place : Place) (legal : ℕ → List ℕ) (p : ℕ) → P [] → P (legal p) → P (turn_legal place legal p)
turn_has P End legal p none all = all
turn_has P Chance legal p none all = all
turn_has P (Move q) legal p none all = all
turn_has P (Joint q) legal p none all = choice_has P (p == q) (legal p) none all

turn_open : (place : Place) → IsOpen (turn_place place) → IsOpen place
turn_open End o = o
turn_open Chance o = o
turn_open (Move p) o = o
turn_open (Joint p) o = o

turn_chance : (place : Place) → turn_place place ≡ Chance → place ≡ Chance
turn_chance End e = cc
turn_chance Chance e = refl
turn_chance (Move p) e = cc
turn_chance (Joint p) e = cc

turn_end : (place : Place) → turn_place place ≡ End → place ≡ End
turn_end End e = refl
turn_end Chance e = cc
turn_end (Move p) e = cc
turn_end (Joint p) e = cc

-- there is no joint step
turn_alone : (place : Place) (p : ℕ) → turn_place place ≡ Joint p → ⊥
turn_alone End p e = cc
turn_alone Chance p e = cc
turn_alone (Move q) p e = cc
turn_alone (Joint q) p e = cc

turn_outside : (place : Place) → IsOutside (turn_place place)
turn_outside End = tt
turn_outside Chance = tt
turn_outside (Move p) = tt
turn_outside (Joint p) = tt

turn_info : (place : Place) (p : ℕ) → HasInfo (turn_place place) p → HasInfo place p
turn_info End p has = has
turn_info Chance p has = has
turn_info (Move q) p has = has
turn_info (Joint q) p has = omega arith

turn_contains : (place : Place) (legal : ℕ → List ℕ) (p a : ℕ) → Contains (turn_legal place legal p) a → Contains (legal p) a
turn_contains place legal p a =
    turn_has (λ xs. Contains xs a → Contains (legal p) a) place legal p (λ c. absurd (omega (arith, c.1))) (λ c. c)

-- the others have no numbers
other_number : (b : Bool) (xs : List ℕ) → b ≡ false → (if b then xs else []) ≡ []
other_number true xs e = absurd (false≢true (sym e))
other_number false xs e = refl

differs : (p q : ℕ) → p ≢ q → (p == q) ≡ false
differs p q n = search Rattle.std.proofs.Common.rules

turn_waits : (place : Place) (legal : ℕ → List ℕ) (p q : ℕ) → (place ≡ Move q → p ≢ q → legal p ≡ []) → turn_place place ≡ Move q → p ≢ q → turn_legal place legal p ≡ []
turn_waits End legal p q inner e n = cc
turn_waits Chance legal p q inner e n = cc
turn_waits (Move r) legal p q inner e n = inner e n
turn_waits (Joint r) legal p q inner e n =
    let same : r ≡ q = cc in other_number (p == r) (legal p) (rw same (differs p q n))

turn_stops : (place : Place) (legal : ℕ → List ℕ) (p : ℕ) → (place ≡ End → legal p ≡ []) → turn_place place ≡ End → turn_legal place legal p ≡ []
turn_stops place legal p inner e =
    turn_has (λ xs. xs ≡ []) place legal p refl (inner (turn_end place e))

turn_shared : (place : Place) (legal : ℕ → List ℕ) (p q : ℕ) → (place ≡ Chance → legal p ≡ legal q) → turn_place place ≡ Chance → turn_legal place legal p ≡ turn_legal place legal q
turn_shared End legal p q inner e = cc
turn_shared Chance legal p q inner e = inner refl
turn_shared (Move r) legal p q inner e = cc
turn_shared (Joint r) legal p q inner e = cc

turn_numbers : (r : Rules) → HasLegalNumbers r → HasLegalNumbers (turn_based_rules r)
turn_numbers r numbers = record {
  mover = λ h play. turn_mover r.players (r.place h) (numbers.mover h (inner_play r h play));
  rises = λ h p play l. turn_has IsStrictlyIncreasing (r.place h) (r.legal h) p (IsStrictlyIncreasing-computed [] refl) (numbers.rises h p (inner_play r h play) l);
  small = λ h p play l. turn_has (All (λ a. a < 2 ^ 32 - 1)) (r.place h) (r.legal h) p (All-nil (λ a. a < 2 ^ 32 - 1)) (numbers.small h p (inner_play r h play) l);
  goes_on = λ h play o. subst (λ (xs : List ℕ). 0 < length xs) (sym (next_turn (r.place h) (r.legal h))) (numbers.goes_on h (inner_play r h play) (turn_open (r.place h) o));
  stops = λ h p play l. turn_stops (r.place h) (r.legal h) p (numbers.stops h p (inner_play r h play) l);
  waits = λ h p q play l. turn_waits (r.place h) (r.legal h) p q (numbers.waits h p q (inner_play r h play) l);
  shared = λ h p q play l m. turn_shared (r.place h) (r.legal h) p q (numbers.shared h p q (inner_play r h play) l m);
}

pub turn_lawful : (r : Rules) → IsLawful r → IsLawful (turn_based_rules r)
turn_lawful r laws = record {
  limits = record {
    players_low = laws.limits.players_low;
    players_high = laws.limits.players_high;
    unit_low = laws.limits.unit_low;
    unit_high = laws.limits.unit_high;
    cap_low = laws.limits.cap_low;
    cap_high = laws.limits.cap_high;
    short = λ h play. laws.limits.short h (inner_play r h play);
  };
  numbers = turn_numbers r laws.numbers;
  chance = record {
    weighed = λ h play e. subst (λ (xs : List ℕ). length (r.weights h) ≡ length xs) (sym (next_turn (r.place h) (r.legal h))) (laws.chance.weighed h (inner_play r h play) (turn_chance (r.place h) e));
    weight_low = λ h play e. laws.chance.weight_low h (inner_play r h play) (turn_chance (r.place h) e);
    weight_high = λ h play e. laws.chance.weight_high h (inner_play r h play) (turn_chance (r.place h) e);
  };
  joint = without_joint_steps (turn_based_rules r) (turn_outside (r.place [])) (λ h p play e. turn_alone (r.place h) p e);
  texts = record {
    infos = λ h p play has l. laws.texts.infos h p (inner_play r h play) (turn_info (r.place h) p has) l;
    names = λ h p a play c. laws.texts.names h p a (inner_play r h play) (turn_contains (r.place h) (r.legal h) p a c);
  };
  capped = λ h p play e l. laws.capped h p (inner_play r h play) (turn_end (r.place h) e) l;
  one_shot = λ o. absurd (false≢true o);
}
