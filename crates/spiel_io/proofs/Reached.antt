-- What is asked for and reached: by a plan and the rest of it, and by a plan with its refusals renamed.
use Rattle.std.proofs.Common.{◌≡◌, ℕ, ◌+◌, ◌≤◌, List, Option, Some, None, Result, Ok, Err, refl, ap, ◌∙◌, subst, arith}
use Rattle.std.specs.Prelude.{MatchOption}
use Rattle.spiel_io.specs.Outside.{Files, held}
use Rattle.spiel_io.specs.Plan.{Plan, Give, Refuse, Ask, ◌>>=◌, decide, unless, refusing, faulting, Kind, IsRead, IsMemory, IsRefusal, Reaches, Asks, AgreesAt, Agrees, CausedAt, Caused, HoldsAsked, AsksNothing, side_asks, count_if}
use Rattle.spiel_io.specs.declared.outside.Slot.TheVariants.{Main, Side}

-- what follows from what holds of the bytes that a name holds
held_then : {X : Type 0} (o : Option X) {P Q : X → Type 0} → ((x : X) → P x → Q x) → MatchOption o ⊥ P → MatchOption o ⊥ Q
held_then None f h = h
held_then (Some x) f h = f x h

-- counts over the bytes that a name holds compare as they do at each text
count_at : (R : ℕ → ℕ → Type 0) (o : Option (List ℕ)) {f g : List ℕ → ℕ} → R 0 0 → ((x : List ℕ) → R (f x) (g x)) → R (count_if o f) (count_if o g)
count_at R None none each = none
count_at R (Some x) none each = each x

count_held : (o : Option (List ℕ)) {P : List ℕ → Type 0} (f g : List ℕ → ℕ) (n : ℕ) → ((x : List ℕ) → P x → f x ≡ g x + n) → MatchOption o ⊥ P → count_if o f ≡ count_if o g + n
count_held None f g n each h = absurd h
count_held (Some x) f g n each h = each x h

-- what agrees with a plan agrees with another one that asks and is reached where the first is
agrees_at : {A B E R : Type 0} (what : Kind) (plan : Plan A E) (other : Plan B R) (told now : Option Files) (r : Result A E) (s : Result B R)
    → (Asks plan → Asks other) → (Reaches plan told r → Reaches other now s) → AgreesAt what plan told r → AgreesAt what other now s
agrees_at IsRead plan other told now r s asks reaches h = asks h
agrees_at IsMemory plan other told now r s asks reaches h = tt
agrees_at IsRefusal plan other told now r s asks reaches h = reaches h

-- the first part of a plan
module _ {A B E : Type 0} (next : A → Plan B E) where
  pub holds_first : (plan : Plan A E) (files : Files) → HoldsAsked (plan >>= next) files → HoldsAsked plan files
  holds_first (Give a) files h = tt
  holds_first (Refuse e) files h = tt
  holds_first (Ask slot name rest) files h = held_then (held files name) (λ bytes p. holds_first (rest bytes) files p) h

  pub quiet_first : (plan : Plan A E) → AsksNothing (plan >>= next) → AsksNothing plan
  quiet_first (Give a) h = tt
  quiet_first (Refuse e) h = tt
  quiet_first (Ask slot name rest) h = h

  pub side_first : (plan : Plan A E) (files : Files) → side_asks plan files ≤ side_asks (plan >>= next) files
  side_first (Give a) files = omega arith
  side_first (Refuse e) files = omega arith
  side_first (Ask Main name rest) files = count_at ◌≤◌ (held files name) (omega arith) (λ bytes. side_first (rest bytes) files)
  side_first (Ask Side name rest) files =
      let h = count_at ◌≤◌ (held files name) (omega arith) (λ bytes. side_first (rest bytes) files) in omega (arith, h)

-- a plan that gives a value, and then the rest of it
module _ {A B E : Type 0} (next : A → Plan B E) (a : A) where
  reaches_then : (plan : Plan A E) (told : Option Files) (r : Result B E) → Reaches plan told (Ok a) → Reaches (next a) told r → Reaches (plan >>= next) told r
  reaches_then (Give b) told r h k = let e : a ≡ b = cc in subst (λ x. Reaches (next x) told r) e k
  reaches_then (Refuse e) told r h k = let no : ⊥ = cc in absurd no
  reaches_then (Ask slot name rest) None r h k = tt
  reaches_then (Ask slot name rest) (Some files) r h k = held_then (held files name) (λ bytes p. reaches_then (rest bytes) (Some files) r p k) h

  asks_then : (plan : Plan A E) (told : Option Files) → Reaches plan told (Ok a) → Asks (next a) → Asks (plan >>= next)
  asks_then (Give b) told h k = let e : a ≡ b = cc in subst (λ x. Asks (next x)) e k
  asks_then (Refuse e) told h k = let no : ⊥ = cc in absurd no
  asks_then (Ask slot name rest) told h k = tt

  pub agrees_then : (kind : E → Kind) (plan : Plan A E) (told : Option Files) (r : Result B E)
      → Reaches plan told (Ok a) → Agrees kind (next a) told r → Agrees kind (plan >>= next) told r
  agrees_then kind plan told (Ok b) h k = reaches_then plan told (Ok b) h k
  agrees_then kind plan told (Err e) h k = agrees_at (kind e) _ _ _ _ _ _ (asks_then plan told h) (reaches_then plan told (Err e) h) k

  pub holds_rest : (plan : Plan A E) (files : Files) → Reaches plan (Some files) (Ok a) → HoldsAsked (plan >>= next) files → HoldsAsked (next a) files
  holds_rest (Give b) files h k = let e : b ≡ a = cc in subst (λ x. HoldsAsked (next x) files) e k
  holds_rest (Refuse e) files h k = let no : ⊥ = cc in absurd no
  holds_rest (Ask slot name rest) files h k =
      let both : (o : Option (List ℕ)) → MatchOption o ⊥ (λ bytes. Reaches (rest bytes) (Some files) (Ok a)) → MatchOption o ⊥ (λ bytes. HoldsAsked (rest bytes >>= next) files) → HoldsAsked (next a) files =
      λ o. elim o as (λ o. MatchOption o ⊥ (λ bytes. Reaches (rest bytes) (Some files) (Ok a)) → MatchOption o ⊥ (λ bytes. HoldsAsked (rest bytes >>= next) files) → HoldsAsked (next a) files)
      [ None ↦ (λ p q. absurd p) | Some bytes ↦ (λ p q. holds_rest (rest bytes) files p q) ] in
      both (held files name) h k

  pub quiet_rest : (plan : Plan A E) (told : Option Files) → Reaches plan told (Ok a) → AsksNothing (plan >>= next) → AsksNothing (next a)
  quiet_rest (Give b) told h k = let e : b ≡ a = cc in subst (λ x. AsksNothing (next x)) e k
  quiet_rest (Refuse e) told h k = let no : ⊥ = cc in absurd no
  quiet_rest (Ask slot name rest) told h k = absurd k

  pub side_then : (plan : Plan A E) (files : Files) → Reaches plan (Some files) (Ok a) → side_asks (plan >>= next) files ≡ side_asks plan files + side_asks (next a) files
  side_then (Give b) files h = let e : b ≡ a = cc in ap (λ x. side_asks (next x) files) e ∙ omega arith
  side_then (Refuse e) files h = let no : ⊥ = cc in absurd no
  side_then (Ask Main name rest) files h = count_held (held files name) _ _ _ (λ bytes p. side_then (rest bytes) files p) h
  side_then (Ask Side name rest) files h =
      let e = count_held (held files name) _ _ _ (λ bytes p. side_then (rest bytes) files p) h in omega (arith, e)

-- a plan that refuses, and so its rest is not reached
module _ {A B E : Type 0} (next : A → Plan B E) (e : E) where
  reaches_stop : (plan : Plan A E) (told : Option Files) → Reaches plan told (Err e) → Reaches (plan >>= next) told (Err e)
  reaches_stop (Give b) told h = let no : ⊥ = cc in absurd no
  reaches_stop (Refuse d) told h = let same : e ≡ d = cc in ap (λ x. Err x) same
  reaches_stop (Ask slot name rest) None h = tt
  reaches_stop (Ask slot name rest) (Some files) h = held_then (held files name) (λ bytes p. reaches_stop (rest bytes) (Some files) p) h

  asks_stop : (plan : Plan A E) → Asks plan → Asks (plan >>= next)
  asks_stop (Give b) h = absurd h
  asks_stop (Refuse d) h = absurd h
  asks_stop (Ask slot name rest) h = tt

  pub agrees_stop : (kind : E → Kind) (plan : Plan A E) (told : Option Files) → Agrees kind plan told (Err e) → Agrees kind (plan >>= next) told (Err e)
  agrees_stop kind plan told h = agrees_at (kind e) _ _ _ _ _ _ (asks_stop plan) (reaches_stop plan told) h

-- what is decided without a file asks for none
pub quiet_decide : {A F E : Type 0} (refusal : F → E) (r : Result A F) → AsksNothing (decide refusal r)
quiet_decide refusal (Ok a) = tt
quiet_decide refusal (Err fault) = tt

pub quiet_unless : {A F E : Type 0} (refusal : F → E) (fault : Option F) (plan : Plan A E) → AsksNothing plan → AsksNothing (unless refusal fault plan)
quiet_unless refusal None plan h = h
quiet_unless refusal (Some fault) plan h = tt

-- a plan that asks for nothing: what it comes to doesn't hang on the files
module _ {A E : Type 0} where
  quiet_reaches : (plan : Plan A E) (told : Option Files) (r : Result A E) → AsksNothing plan → Reaches plan None r → Reaches plan told r
  quiet_reaches (Give a) told r n h = h
  quiet_reaches (Refuse e) told r n h = h
  quiet_reaches (Ask slot name rest) told r n h = absurd n

  quiet_asks : (plan : Plan A E) → AsksNothing plan → Asks plan → ⊥
  quiet_asks (Give a) n h = h
  quiet_asks (Refuse e) n h = h
  quiet_asks (Ask slot name rest) n h = n

  pub quiet_agrees : (kind : E → Kind) (plan : Plan A E) (told : Option Files) (r : Result A E) → AsksNothing plan → Agrees kind plan None r → Agrees kind plan told r
  quiet_agrees kind plan told (Ok a) n h = quiet_reaches plan told (Ok a) n h
  quiet_agrees kind plan told (Err e) n h = agrees_at (kind e) _ _ _ _ _ _ (λ p. p) (quiet_reaches plan told (Err e) n) h

  quiet_caused_at : (what : Kind) (plan : Plan A E) (count : ℕ) (r : Result A E) → AsksNothing plan → AgreesAt what plan None r → CausedAt what count count
  quiet_caused_at IsRead plan count r n h = absurd (quiet_asks plan n h)
  quiet_caused_at IsMemory plan count r n h = tt
  quiet_caused_at IsRefusal plan count r n h = refl

  pub quiet_caused : (kind : E → Kind) (plan : Plan A E) (count : ℕ) (r : Result A E) → AsksNothing plan → Agrees kind plan None r → Caused kind count count r
  quiet_caused kind plan count (Ok a) n h = refl
  quiet_caused kind plan count (Err e) n h = quiet_caused_at (kind e) plan count (Err e) n h

-- a plan with its refusals renamed
module _ {A E R : Type 0} (f : E → R) where
  pub reaches_refusing : (plan : Plan A E) (told : Option Files) (r : Result A E) → Reaches plan told r → Reaches (refusing f plan) told (faulting f r)
  reaches_refusing (Give a) told r h = ap (faulting f) h
  reaches_refusing (Refuse e) told r h = ap (faulting f) h
  reaches_refusing (Ask slot name rest) None r h = tt
  reaches_refusing (Ask slot name rest) (Some files) r h = held_then (held files name) (λ bytes p. reaches_refusing (rest bytes) (Some files) r p) h

  -- what is given by the one is given by the other
  pub given_refusing : (plan : Plan A E) (told : Option Files) (a : A) → Reaches (refusing f plan) told (Ok a) → Reaches plan told (Ok a)
  given_refusing (Give b) told a h = let same : a ≡ b = cc in ap (λ (x : A). Ok x) same
  given_refusing (Refuse e) told a h = let no : ⊥ = cc in absurd no
  given_refusing (Ask slot name rest) None a h = tt
  given_refusing (Ask slot name rest) (Some files) a h = held_then (held files name) (λ bytes p. given_refusing (rest bytes) (Some files) a p) h

  asks_refusing : (plan : Plan A E) → Asks plan → Asks (refusing f plan)
  asks_refusing (Give a) h = h
  asks_refusing (Refuse e) h = h
  asks_refusing (Ask slot name rest) h = h

  pub quiet_refusing : (plan : Plan A E) → AsksNothing (refusing f plan) → AsksNothing plan
  quiet_refusing (Give a) h = h
  quiet_refusing (Refuse e) h = h
  quiet_refusing (Ask slot name rest) h = h

  pub holds_refusing : (plan : Plan A E) (files : Files) → HoldsAsked (refusing f plan) files → HoldsAsked plan files
  holds_refusing (Give a) files h = h
  holds_refusing (Refuse e) files h = h
  holds_refusing (Ask slot name rest) files h = held_then (held files name) (λ bytes p. holds_refusing (rest bytes) files p) h

  pub side_refusing : (plan : Plan A E) (files : Files) → side_asks plan files ≡ side_asks (refusing f plan) files
  side_refusing (Give a) files = refl
  side_refusing (Refuse e) files = refl
  side_refusing (Ask Main name rest) files = count_at ◌≡◌ (held files name) refl (λ bytes. side_refusing (rest bytes) files)
  side_refusing (Ask Side name rest) files =
      let e = count_at ◌≡◌ (held files name) refl (λ bytes. side_refusing (rest bytes) files) in omega (arith, e)

  module _ (kind : E → Kind) (kind_of : R → Kind) (same : (e : E) → kind e ≡ kind_of (f e)) where
    pub agrees_refusing : (plan : Plan A E) (told : Option Files) (r : Result A E) → Agrees kind plan told r → Agrees kind_of (refusing f plan) told (faulting f r)
    agrees_refusing plan told (Ok a) h = reaches_refusing plan told (Ok a) h
    agrees_refusing plan told (Err e) h =
        subst (λ what. AgreesAt what (refusing f plan) told (Err (f e))) (same e) (agrees_at (kind e) _ _ _ _ _ _ (asks_refusing plan) (reaches_refusing plan told (Err e)) h)

    pub caused_refusing : (before now : ℕ) (r : Result A E) → Caused kind before now r → Caused kind_of before now (faulting f r)
    caused_refusing before now (Ok a) h = h
    caused_refusing before now (Err e) h = subst (λ what. CausedAt what before now) (same e) h
