-- The fault that is computed is the one that the facts tell.
use Rattle.std.proofs.Common.{◌≡◌, ℕ, ◌*◌, ◌^◌, ◌<◌, ◌≤◌, ◌⊎◌, true, false, nat_lt, ◌==◌, ◌||◌, Some, None, refl, arith, inl, inr}
use Rattle.std.proofs.lemmas.Bool.{lt-ltb, le-ltb, eq-eqb, ne_eqb, or_right}
use Rattle.spiel_api.specs.declared.game.Game.{Ghosts}
use Rattle.spiel_api.specs.Rules.{Rules}
use Rattle.spiel_layers.specs.declared.repeated.RepeatFault.{RepeatFault}
use Rattle.spiel_layers.specs.declared.repeated.RepeatFault.TheVariants.{NotOneShot, Repeats, PayTooFine}
use Rattle.spiel_layers.specs.Repeated.{CanRepeat, HasRepeatFault, repeat_fault}

-- too few repetitions, or too many
refused : (t n : ℕ) → (t ≡ 0) ⊎ (1024 < n) → (t == 0 || nat_lt 1024 n) ≡ true
refused t n (inl e) = rw (eq-eqb t 0 e) refl
refused t n (inr l) = rw (lt-ltb 1024 n l) (or_right (t == 0) true refl)

taken : (t n : ℕ) → 1 ≤ t → n ≤ 1024 → (t == 0 || nat_lt 1024 n) ≡ false
taken t n some fits = rw (ne_eqb t 0 (λ e. absurd (omega arith)), le-ltb 1024 n fits) refl

pub computed_fault : (r : Rules) (t : ℕ) (f : RepeatFault) → HasRepeatFault r t f → repeat_fault r t ≡ Some f
unfolding repeat_fault
computed_fault r t NotOneShot e = rw e refl
computed_fault r t Repeats w = rw (w.0, refused t (t * r.players) w.1) refl
computed_fault r t PayTooFine w = rw (w.0, taken t (t * r.players) w.1 w.2, lt-ltb (2 ^ 62) (t * r.cap) w.3) refl

pub computed_none : {G S : Type 0} (inner : Ghosts G S) (stage : G) (t : ℕ) → CanRepeat inner stage t → repeat_fault (inner.rules stage) t ≡ None
unfolding repeat_fault
computed_none inner stage t can = rw (can.shot, taken t (t * (inner.rules stage).players) can.some can.fits, le-ltb (2 ^ 62) (t * (inner.rules stage).cap) can.cap_fits) refl
