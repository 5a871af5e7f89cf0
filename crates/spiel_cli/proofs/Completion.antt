-- From what was answered and what was written to the outcome.
use Rattle.std.proofs.Common.{◌≡◌, ℕ, ◌<◌, ◌≤◌, ◌⊎◌, inl, inr, List, [], Option, Some, None, Result, Ok, Err, refl, sym, ap, ◌∙◌, subst, arith}
use Rattle.std.specs.Prelude.{MatchOption}
use Rattle.std.specs.Option.{option_and_then}
use Rattle.std.proofs.lemmas.List.{append-nil}
use Rattle.std.specs.Io.KnownBytes.{append_known}
use Rattle.spiel_io.specs.Causes.{Rose}
use Rattle.spiel_io.specs.Outside.{Files, SinkState, held}
use Rattle.spiel_io.specs.Plan.{Plan, Give, Refuse, Ask, Kind, IsRead, IsMemory, IsRefusal, Reaches, AgreesAt, Agrees, CausedAt, Caused, AsksNothing, decided}
use Rattle.spiel_cli.specs.Refusal.{kind_at, kind_of, line, message_of, status_of}
use Rattle.spiel_cli.specs.Outcome.{outcome_of}
use Rattle.spiel_cli.specs.Run.{Completes, IsUntouched, IsWritten, Knows, Says, SaysStatus, TakesFront, no_memory}
use Rattle.spiel_cli.specs.declared.refusal.Refusal.{Refusal}
use Rattle.spiel_cli.proofs.Refusals.{kind_memory, kind_seen, refusal_said}

-- nothing more
append_none : (known : Option (List ℕ)) → append_known known [] ≡ known
append_none None = refl
append_none (Some bytes) = ap (λ x. Some x) (append-nil bytes)

module _ {A E : Type 0} where
  pub reaches_decided : (plan : Plan A E) (files : Files) (r : Result A E) → Reaches plan (Some files) r → decided plan files ≡ Some r
  reaches_decided (Give a) files r h = ap (λ x. Some x) (sym h)
  reaches_decided (Refuse e) files r h = ap (λ x. Some x) (sym h)
  reaches_decided (Ask slot name rest) files r h =
      let go : (o : Option (List ℕ)) → MatchOption o ⊥ (λ bytes. Reaches (rest bytes) (Some files) r) → option_and_then (λ bytes. decided (rest bytes) files) o ≡ Some r =
      λ o. elim o as (λ o. MatchOption o ⊥ (λ bytes. Reaches (rest bytes) (Some files) r) → option_and_then (λ bytes. decided (rest bytes) files) o ≡ Some r)
      [ None ↦ (λ p. absurd p) | Some bytes ↦ (λ p. reaches_decided (rest bytes) files r p) ] in
      go (held files name) h

  quiet_decided : (plan : Plan A E) (told : Option (Files)) (files : Files) (r : Result A E) → AsksNothing plan → Reaches plan told r → decided plan files ≡ Some r
  quiet_decided (Give a) told files r n h = ap (λ x. Some x) (sym h)
  quiet_decided (Refuse e) told files r n h = ap (λ x. Some x) (sym h)
  quiet_decided (Ask slot name rest) told files r n h = absurd n

  -- what is reached is what is decided over the files that are known
  pub known_decided : (plan : Plan A E) (told : Option (Files)) (files : Files) (r : Result A E) → Knows told plan files → Reaches plan told r → decided plan files ≡ Some r
  known_decided plan told files r (inl e) h = reaches_decided plan files r (subst (λ t. Reaches plan t r) e h)
  known_decided plan told files r (inr p) h = quiet_decided plan told files r p.0 h

untouched_front : (bytes : List ℕ) (old new : SinkState) → IsUntouched old new → TakesFront bytes old new
untouched_front bytes old new h = (0, h.0 ∙ sym (append_none old.taken))

says_nothing : (old new : SinkState) → IsUntouched old new → Says [] old new
says_nothing old new h = record {
  later = omega (arith, h.1);
  front = untouched_front [] old new h;
  whole = λ quiet. h.0 ∙ sym (append_none old.taken);
}

module _ (plan : Plan (List ℕ) Refusal) (told : Option Files) (files : Files) (status : ℕ) (out out' err err' : SinkState) (known : Knows told plan files) where
  text_completes : (text : List ℕ) → Reaches plan told (Ok text) → IsWritten (Ok text) status out out' err err' → (Rose out.faults out'.faults → ⊥)
      → (status ≡ 8) ⊎ Completes (outcome_of (decided plan files)) status out out' err err'
  text_completes text h (inl w) quiet = inr (subst (λ o. Completes (outcome_of o) status out out' err err') (sym (known_decided plan told files (Ok text) known h))
      (record { status_is = w.0; out_is = w.1; err_is = says_nothing err err' w.3 }))
  text_completes text h (inr w) quiet = absurd (quiet w.3)

  refusal_completes : (e : Refusal) → Reaches plan told (Err e) → IsWritten (Err e) status out out' err err'
      → (status ≡ 8) ⊎ Completes (outcome_of (decided plan files)) status out out' err err'
  refusal_completes e h (same, inl w) = inr (subst (λ o. Completes (outcome_of o) status out out' err err') (sym (known_decided plan told files (Err e) known h))
      (record { status_is = w.0; out_is = same.0 ∙ sym (append_none out.taken); err_is = w.1 }))
  refusal_completes e h (same, inr w) = inl w.0

  memory_completes : (e : Refusal) → kind_of e ≡ IsMemory → IsWritten (Err e) status out out' err err' → status ≡ 8
  memory_completes e h (same, inl w) = w.0 ∙ kind_memory (status_of e) h
  memory_completes e h (same, inr w) = w.0

  -- where no read and no write failed, what was answered and written is the outcome, or memory ran out
  pub completed : (before now : ℕ) (answer : Result (List ℕ) Refusal) → Agrees kind_of plan told answer → Caused kind_of before now answer → IsWritten answer status out out' err err'
      → (Rose before now → ⊥) → (Rose out.faults out'.faults → ⊥) → (status ≡ 8) ⊎ Completes (outcome_of (decided plan files)) status out out' err err'
  completed before now (Ok text) h c w read write = text_completes text h w write
  completed before now (Err e) h c w read write =
      let go : (what : Kind) → kind_of e ≡ what → AgreesAt what plan told (Err e) → CausedAt what before now → (status ≡ 8) ⊎ Completes (outcome_of (decided plan files)) status out out' err err' =
      λ what. elim what as (λ what. kind_of e ≡ what → AgreesAt what plan told (Err e) → CausedAt what before now → (status ≡ 8) ⊎ Completes (outcome_of (decided plan files)) status out out' err err')
      [ IsRead ↦ (λ k p q. absurd (read q)) | IsMemory ↦ (λ k p q. inl (memory_completes e k w)) | IsRefusal ↦ (λ k p q. refusal_completes e p w) ] in
      go (kind_of e) refl h c

  -- after a write fault or want of memory, a front of the outcome was written
  pub front_taken : (answer : Result (List ℕ) Refusal) → Agrees kind_of plan told answer → IsWritten answer status out out' err err' → 7 ≤ status
      → TakesFront (outcome_of (decided plan files)).out out out'
  front_taken (Ok text) h (inl w) late = absurd (omega (arith, w.0, late))
  front_taken (Ok text) h (inr w) late = subst (λ o. TakesFront (outcome_of o).out out out') (sym (known_decided plan told files (Ok text) known h)) w.1
  front_taken (Err e) h w late = untouched_front (outcome_of (decided plan files)).out out out' w.0

-- ---- the status of what was answered and written
module _ (status : ℕ) (out out' err err' : SinkState) where
  pub read_fault_only : (before now : ℕ) (answer : Result (List ℕ) Refusal) → Caused kind_of before now answer → IsWritten answer status out out' err err' → status ≡ 3 → Rose before now
  read_fault_only before now (Ok text) c (inl w) h = absurd (omega (arith, w.0, h))
  read_fault_only before now (Ok text) c (inr w) h = absurd (omega (arith, w.0, h))
  read_fault_only before now (Err e) c (same, inl w) h = subst (λ (n : ℕ). CausedAt (kind_at n) before now) (sym w.0 ∙ h) c
  read_fault_only before now (Err e) c (same, inr w) h = absurd (omega (arith, w.0, h))

  pub read_fault_seen : (before now : ℕ) (answer : Result (List ℕ) Refusal) → Caused kind_of before now answer → IsWritten answer status out out' err err' → before < now → (status ≡ 3) ⊎ (status ≡ 8)
  read_fault_seen before now (Ok text) c w more = absurd (omega (arith, c, more))
  read_fault_seen before now (Err e) c (same, inl w) more = subst (λ (n : ℕ). (n ≡ 3) ⊎ (n ≡ 8)) (sym w.0) (kind_seen (status_of e) before now c more)
  read_fault_seen before now (Err e) c (same, inr w) more = inr w.0

  pub write_fault_only : (answer : Result (List ℕ) Refusal) → IsWritten answer status out out' err err' → status ≡ 7 → Rose out.faults out'.faults
  write_fault_only (Ok text) (inl w) h = absurd (omega (arith, w.0, h))
  write_fault_only (Ok text) (inr w) h = w.3
  write_fault_only (Err e) (same, inl w) h = absurd ((refusal_said e).no_write (sym w.0 ∙ h))
  write_fault_only (Err e) (same, inr w) h = absurd (omega (arith, w.0, h))

  pub write_fault_seen : (answer : Result (List ℕ) Refusal) → IsWritten answer status out out' err err' → out.faults < out'.faults → (status ≡ 7) ⊎ (status ≡ 8)
  write_fault_seen (Ok text) (inl w) more = absurd (omega (arith, w.2, more))
  write_fault_seen (Ok text) (inr w) more = inl w.0
  write_fault_seen (Err e) w more = absurd (let same = w.0.1 in omega (arith, same, more))

  pub nothing_written : (answer : Result (List ℕ) Refusal) → IsWritten answer status out out' err err' → 2 ≤ status → status ≤ 6 → out'.taken ≡ out.taken
  nothing_written (Ok text) (inl w) low high = absurd (omega (arith, w.0, low))
  nothing_written (Ok text) (inr w) low high = absurd (omega (arith, w.0, high))
  nothing_written (Err e) w low high = w.0.0

  pub nothing_said : (answer : Result (List ℕ) Refusal) → IsWritten answer status out out' err err' → status < 2 → err'.taken ≡ err.taken
  nothing_said (Ok text) (inl w) few = w.3.0
  nothing_said (Ok text) (inr w) few = absurd (omega (arith, w.0, few))
  nothing_said (Err e) (same, inl w) few = absurd (let low = (refusal_said e).low in omega (arith, w.0, low, few))
  nothing_said (Err e) (same, inr w) few = absurd (omega (arith, w.0, few))

  -- the message is that of the status
  none_said : status ≡ 0 → SaysStatus status err err'
  none_said is = record {
    usage = λ h. absurd (omega (arith, is, h));
    read = λ h. absurd (omega (arith, is, h));
    write = λ h. absurd (omega (arith, is, h));
    memory = λ h. absurd (omega (arith, is, h));
  }

  memory_said : status ≡ 8 → Says no_memory err err' → SaysStatus status err err'
  memory_said is said = record {
    usage = λ h. absurd (omega (arith, is, h));
    read = λ h. absurd (omega (arith, is, h));
    write = λ h. absurd (omega (arith, is, h));
    memory = λ h. said;
  }

  reason_said : (e : Refusal) → status ≡ status_of e → Says (message_of e) err err' → SaysStatus status err err'
  reason_said e is said = record {
    usage = λ h. subst (λ (reason : List ℕ). Says (line reason) err err') ((refusal_said e).usage (sym is ∙ h)) said;
    read = λ h. subst (λ (reason : List ℕ). Says (line reason) err err') ((refusal_said e).read (sym is ∙ h)) said;
    write = λ h. absurd ((refusal_said e).no_write (sym is ∙ h));
    memory = λ h. subst (λ (reason : List ℕ). Says (line reason) err err') ((refusal_said e).memory (sym is ∙ h)) said;
  }

  pub says_status : (answer : Result (List ℕ) Refusal) → IsWritten answer status out out' err err' → SaysStatus status err err'
  says_status (Ok text) (inl w) = none_said w.0
  says_status (Ok text) (inr w) = record {
    usage = λ h. absurd (omega (arith, w.0, h));
    read = λ h. absurd (omega (arith, w.0, h));
    write = λ h. w.4;
    memory = λ h. absurd (omega (arith, w.0, h));
  }
  says_status (Err e) (same, inl w) = reason_said e w.0 w.1
  says_status (Err e) (same, inr w) = memory_said w.0 w.1
