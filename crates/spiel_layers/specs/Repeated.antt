-- Several rounds of a one-shot game.
use Rattle.std.specs.Prelude.{◌≡◌, ℕ, zero, suc, ◌-◌, ◌*◌, ◌^◌, ◌<◌, ◌≤◌, ◌⊎◌, ℤ, pos, ◌+ℤ◌, false, not, ◌==◌, ◌||◌, List, [], ◌++◌, length, take, drop, flat_map, Option, Some, None, codes, if◌then◌else◌, nat_lt, IsTrue}
use Rattle.std.specs.Fmt.{decimal}
use Rattle.spiel_api.specs.declared.place.Place.TheVariants.{End}
use Rattle.spiel_api.specs.declared.game.Game.{Ghosts}
use Rattle.spiel_api.specs.Rules.{Rules}
use Rattle.spiel_layers.specs.declared.repeated.RepeatFault.{RepeatFault}
use Rattle.spiel_layers.specs.declared.repeated.RepeatFault.TheVariants.{NotOneShot, Repeats, PayTooFine}

-- A history is cut into pieces of n numbers, one for each of k rounds. This is the piece that isn't full
-- yet, which may be empty; there is none once all rounds are over.
abbrev pub piece_of : ℕ → ℕ → List ℕ → Option (List ℕ)
piece_of n zero h = None
piece_of n (suc k) h = if nat_lt (length h) n then Some h else piece_of n k (drop n h)

-- a meaning at the unfinished piece, and another once all rounds are over
abbrev pub at_piece : {A : Type 0} → A → (List ℕ → A) → Option (List ℕ) → A
at_piece over inside None = over
at_piece over inside (Some piece) = inside piece

-- the numbers of the full pieces: those before the unfinished one
abbrev pub before_piece : List ℕ → List ℕ → List ℕ
before_piece h piece = take (length h - length piece) h

-- a number and a space
abbrev pub with_space : ℕ → List ℕ
with_space a = decimal a ++ codes " "

-- what is told of the rounds that are over
abbrev pub rounds_told : List ℕ → List ℕ
rounds_told numbers = flat_map with_space numbers ++ codes "| "

-- the returns of the first k pieces, one added to another
abbrev pub rounds_pay : ℕ → (List ℕ → ℤ) → ℕ → List ℕ → ℤ
rounds_pay n pay zero h = pos 0
rounds_pay n pay (suc k) h = rounds_pay n pay k h +ℤ pay (take n (drop (k * n) h))

-- so many rounds of a one-shot game
abbrev pub repeated_rules : ℕ → Rules → Rules
repeated_rules times rules = record rules {
  cap = times * rules.cap;
  one_shot = false;
  place = λ h. at_piece End rules.place (piece_of rules.players times h);
  legal = λ h p. at_piece [] (λ piece. rules.legal piece p) (piece_of rules.players times h);
  weights = λ h. [];
  info = λ h p. at_piece [] (λ piece. rounds_told (before_piece h piece) ++ rules.info piece p) (piece_of rules.players times h);
  name = λ h p a. at_piece [] (λ piece. rules.name piece p a) (piece_of rules.players times h);
  pay = λ h p. rounds_pay rules.players (λ piece. rules.pay piece p) times h;
}

-- the stage can be repeated so often
pub record CanRepeat {G S : Type 0} (inner : Ghosts G S) (stage : G) (times : ℕ) : Type 0 where
  pub sound : inner.is_game stage
  pub shot : IsTrue (inner.rules stage).one_shot
  pub some : 1 ≤ times
  pub fits : times * (inner.rules stage).players ≤ 1024
  pub cap_fits : times * (inner.rules stage).cap ≤ 2 ^ 62

-- what each fault says of the stage and the number of repetitions
abbrev pub HasRepeatFault : Rules → ℕ → RepeatFault → Type 0
HasRepeatFault rules times NotOneShot = rules.one_shot ≡ false
HasRepeatFault rules times Repeats = IsTrue rules.one_shot × ((times ≡ 0) ⊎ (1024 < times * rules.players))
HasRepeatFault rules times PayTooFine = IsTrue rules.one_shot × (1 ≤ times) × (times * rules.players ≤ 1024) × (2 ^ 62 < times * rules.cap)

-- why a game isn't repeated so often, if it isn't
unfoldable pub repeat_fault : Rules → ℕ → Option RepeatFault
repeat_fault rules times =
    if not rules.one_shot then Some NotOneShot
    else if times == 0 || nat_lt 1024 (times * rules.players) then Some Repeats
    else if nat_lt (2 ^ 62) (times * rules.cap) then Some PayTooFine
    else None
