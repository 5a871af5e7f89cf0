-- Calls that follow a plan: one after the other, one that stops, none at all, and one whose errors are renamed.
use Rattle.std.proofs.Common.{◌≡◌, ◌+◌, ◌≤◌, Option, Some, None, Result, Ok, Err, refl, sym, ◌∙◌, subst, arith}
use Rattle.std.specs.Prelude.{IfSome}
use Rattle.std.specs.Result.{IsErr, IsErrAnd}
use Rattle.std.proofs.lemmas.Option.{IfSome_then}
use Rattle.spiel_io.specs.Outside.{Files, ShelfState}
use Rattle.spiel_io.specs.Plan.{Plan, Give, Refuse, ◌>>=◌, refusing, faulting, seeing, Kind, IsMemory, IsRefusal, Reaches, AgreesAt, Agrees, CausedAt, Caused, HoldsAsked, AsksNothing, side_asks, Follows}
use Rattle.spiel_io.specs.declared.outside.Slot.TheVariants.{Side}
use Rattle.spiel_io.proofs.Reached.{agrees_then, agrees_stop, agrees_refusing, caused_refusing, holds_first, holds_rest, holds_refusing, quiet_first, quiet_rest, quiet_refusing, quiet_agrees, quiet_caused, side_first, side_then, side_refusing}

-- what holds where the files are told, of two facts that do
IfSome_both : {X : Type 0} (o : Option X) {P Q R : X → Type 0} → ((x : X) → o ≡ Some x → P x → Q x → R x) → IfSome o P → IfSome o Q → IfSome o R
IfSome_both None f h k = tt
IfSome_both (Some x) f h k = f x refl h k

IfSome_always : {X : Type 0} (o : Option X) {P : X → Type 0} → ((x : X) → P x) → IfSome o P
IfSome_always None f = tt
IfSome_always (Some x) f = f x

module _ {A E : Type 0} (kind : E → Kind) where
  -- a call that follows the first part, and then one that follows the rest
  pub follows_then : {B : Type 0} (plan : Plan A E) (next : A → Plan B E) (old mid new : ShelfState) (a : A) (r : Result B E)
      → Follows kind plan old mid (Ok a) → Follows kind (next a) mid new r
      → Follows kind (plan >>= next) old new r
  follows_then plan next old mid new a r h k =
      let reach : Reaches plan old.files (Ok a) = h.agrees in
      let there : (fs : Files) → old.files ≡ Some fs → Reaches plan (Some fs) (Ok a) = λ fs e. subst (λ told. Reaches plan told (Ok a)) e reach in
      record {
        same_files = k.same_files ∙ h.same_files;
        agrees = agrees_then next a kind plan old.files r reach (subst (λ told. Agrees kind (next a) told r) h.same_files k.agrees);
        later = omega (arith, h.later, k.later);
        cause = subst (λ before. Caused kind before new.faults r) h.cause k.cause;
        stays_steady = λ s. k.stays_steady (h.stays_steady s);
        no_fault = λ s. IfSome_both old.files (λ fs e p q all. q (holds_rest next a plan fs (there fs e) all) ∙ p (holds_first next plan fs all))
            (h.no_fault s) (subst (λ told. IfSome told (λ fs. HoldsAsked (next a) fs → new.faults ≡ mid.faults)) h.same_files (k.no_fault (h.stays_steady s)));
        quiet = λ n. k.quiet (quiet_rest next a plan old.files reach n) ∙ h.quiet (quiet_first next plan n);
        side_asked = IfSome_both old.files (λ fs e p q. let all = side_then next a plan fs (there fs e) in omega (arith, p, q, all))
            h.side_asked (subst (λ told. IfSome told (λ fs. (new.reading Side).begins ≤ (mid.reading Side).begins + side_asks (next a) fs)) h.same_files k.side_asked);
      }

  -- a call that follows the first part and stops there
  pub follows_stop : {B : Type 0} (plan : Plan A E) (next : A → Plan B E) (old new : ShelfState) (e : E)
      → Follows kind plan old new (Err e) → Follows kind (plan >>= next) old new (Err e)
  follows_stop {B} plan next old new e h = record {
    same_files = h.same_files;
    agrees = agrees_stop next e kind plan old.files h.agrees;
    later = h.later;
    cause = h.cause;
    stays_steady = h.stays_steady;
    no_fault = λ s. IfSome_then old.files (h.no_fault s) (λ fs p all. p (holds_first next plan fs all));
    quiet = λ n. h.quiet (quiet_first next plan n);
    side_asked = IfSome_then old.files h.side_asked (λ fs p. let more = side_first next plan fs in omega (arith, p, more));
  }

  -- a call that stops, where its error is handed on
  pub follows_handed_on : {C : Type 0} (seen : C → A) (plan : Plan A E) (old new : ShelfState) (e : E) (r : Result C E)
      → Follows kind plan old new (Err e) → IsErr r × IsErrAnd r (λ x. x ≡ e) → Follows kind plan old new (seeing seen r)
  follows_handed_on seen plan old new e (Ok c) h same = absurd same.1
  follows_handed_on seen plan old new e (Err x) h same = subst (λ (y : E). Follows {A = A} kind plan old new (Err y)) (sym same.1) h

  -- nothing is called
  follows_none : (plan : Plan A E) (s : ShelfState) (r : Result A E) → Agrees kind plan s.files r → Caused kind s.faults s.faults r → Follows kind plan s s r
  follows_none plan s r h k = record {
    same_files = refl;
    agrees = h;
    later = omega arith;
    cause = k;
    stays_steady = λ p. p;
    no_fault = λ p. IfSome_always s.files (λ fs all. refl);
    quiet = λ n. refl;
    side_asked = IfSome_always s.files (λ fs. omega arith);
  }

  -- nothing is called: what is answered agrees with a plan that asks for nothing
  pub follows_agrees : (plan : Plan A E) (s : ShelfState) (r : Result A E) → Agrees kind plan None r → AsksNothing plan → Follows kind plan s s r
  follows_agrees plan s r h n = follows_none plan s r (quiet_agrees kind plan s.files r n h) (quiet_caused kind plan s.faults r n h)

  pub follows_give : (s : ShelfState) (a : A) → Follows kind (Give a) s s (Ok a)
  follows_give s a = follows_none (Give a) s (Ok a) refl refl

  pub follows_refuse : (s : ShelfState) (e : E) → kind e ≡ IsRefusal → Follows {A = A} kind (Refuse e) s s (Err e)
  follows_refuse s e h = follows_none (Refuse e) s (Err e)
      (let P : Kind → Type 0 = λ what. AgreesAt {A = A} what (Refuse e) s.files (Err e) in subst P (sym h) refl)
      (let P : Kind → Type 0 = λ what. CausedAt what s.faults s.faults in subst P (sym h) refl)

  pub follows_memory : (plan : Plan A E) (s : ShelfState) (e : E) → kind e ≡ IsMemory → Follows kind plan s s (Err e)
  follows_memory plan s e h = follows_none plan s (Err e)
      (let P : Kind → Type 0 = λ what. AgreesAt what plan s.files (Err e) in subst P (sym h) tt)
      (let P : Kind → Type 0 = λ what. CausedAt what s.faults s.faults in subst P (sym h) tt)

-- a call that follows a plan follows the plan with its refusals renamed, where each error keeps its kind
pub follows_refusing : {A E R : Type 0} (f : E → R) (kind : E → Kind) (kind_of : R → Kind) (same : (e : E) → kind e ≡ kind_of (f e))
    → (plan : Plan A E) (old new : ShelfState) (r : Result A E)
    → Follows kind plan old new r → Follows kind_of (refusing f plan) old new (faulting f r)
follows_refusing f kind kind_of same plan old new r h = record {
  same_files = h.same_files;
  agrees = agrees_refusing f kind kind_of same plan old.files r h.agrees;
  later = h.later;
  cause = caused_refusing f kind kind_of same old.faults new.faults r h.cause;
  stays_steady = h.stays_steady;
  no_fault = λ s. IfSome_then old.files (h.no_fault s) (λ fs p all. p (holds_refusing f plan fs all));
  quiet = λ n. h.quiet (quiet_refusing f plan n);
  side_asked = IfSome_then old.files h.side_asked (λ fs p. let e = side_refusing f plan fs in omega (arith, p, e));
}
