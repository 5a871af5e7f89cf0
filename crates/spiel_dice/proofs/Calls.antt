-- The place of a play of liar's dice, and the numbers there.
use Rattle.std.proofs.Common.{◌≡◌, ℕ, ◌-◌, ◌*◌, ◌%◌, ◌≤◌, Bool, true, false, List, length, Option, None, Some, if◌then◌else◌, ◌==◌, refl, ap, sym, ◌∙◌, arith}
use Rattle.std.specs.Prelude.{slice_get}
use Rattle.std.proofs.lemmas.Bool.{ltb-false, eqb-true}
use Rattle.spiel_api.specs.declared.place.Place.{Place}
use Rattle.spiel_api.specs.declared.place.Place.TheVariants.{End, Chance, Move}
use Rattle.spiel_api.specs.Plays.{IsPlay}
use Rattle.spiel_api.specs.Place.{HasInfo}
use Rattle.spiel_dice.specs.LiarsDice.{liar, is_rolling, calls_of, last_of, turn_after, liars_dice_place, liars_dice_rules}
use Rattle.spiel_dice.specs.LiarsDiceState.{IsWithinRange}
use Rattle.spiel_dice.specs.LiarsDicePlays.{said, play_calls}

-- the last call is `liar` at the most
pub last_small : (dice sides : ℕ) → IsWithinRange dice sides → (h : List ℕ) → IsPlay (liars_dice_rules dice sides) h → (calls : List ℕ) (call : ℕ) → calls ≡ calls_of dice h → Some call ≡ slice_get calls (length calls - 1) → call ≤ liar dice sides
last_small dice sides range h play calls call e l =
    let last : last_of (calls_of dice h) ≡ Some call = ap last_of (sym e) ∙ sym l in
    omega (arith, (play_calls dice sides range h play).low, ap said last)

-- at every place but the rolls all dice lie
rolled_by : (dice : ℕ) (h : List ℕ) (Q : Place → Type 0) (after : Place) → (Q Chance → ⊥) → Q (if is_rolling dice h then Chance else after) → 2 * dice ≤ length h
rolled_by dice h Q after never q = by (is_rolling dice h) refl q
  where
    by : (b : Bool) → is_rolling dice h ≡ b → Q (if b then Chance else after) → 2 * dice ≤ length h
    by true e q = absurd (never q)
    by false e q = ltb-false (length h) (2 * dice) e

pub rolled_with_info : (dice sides p : ℕ) (h : List ℕ) → HasInfo (liars_dice_place dice sides h) p → 2 * dice ≤ length h
rolled_with_info dice sides p h has = rolled_by dice h (λ place. HasInfo place p) (turn_after (liar dice sides) (last_of (calls_of dice h)) (length (calls_of dice h))) (λ never. never) has

pub rolled_at_end : (dice sides : ℕ) (h : List ℕ) → liars_dice_place dice sides h ≡ End → 2 * dice ≤ length h
rolled_at_end dice sides h end = rolled_by dice h (λ place. place ≡ End) (turn_after (liar dice sides) (last_of (calls_of dice h)) (length (calls_of dice h))) (λ e. cc) end

-- a play ends with `liar`, which comes after a bid
pub called_at_end : (dice sides : ℕ) → IsWithinRange dice sides → (h : List ℕ) → IsPlay (liars_dice_rules dice sides) h → liars_dice_place dice sides h ≡ End → 2 ≤ length (calls_of dice h)
called_at_end dice sides range h play end = (play_calls dice sides range h play).doubted (by (is_rolling dice h) end)
  where
    call_by : (b : Bool) (call : ℕ) → (call == liar dice sides) ≡ b → (if b then End else Move (length (calls_of dice h) % 2)) ≡ End → Some call ≡ Some (liar dice sides)
    call_by true call e f = ap (λ n. Some n) (eqb-true call (liar dice sides) e)
    call_by false call e f = cc

    after : (o : Option ℕ) → turn_after (liar dice sides) o (length (calls_of dice h)) ≡ End → o ≡ Some (liar dice sides)
    after None f = cc
    after (Some call) f = call_by (call == liar dice sides) call refl f

    by : (b : Bool) → (if b then Chance else turn_after (liar dice sides) (last_of (calls_of dice h)) (length (calls_of dice h))) ≡ End → last_of (calls_of dice h) ≡ Some (liar dice sides)
    by true f = cc
    by false f = after (last_of (calls_of dice h)) f
