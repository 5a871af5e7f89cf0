-- What is said of a refusal, and what it is, by its status.
use Rattle.std.proofs.Common.{◌≡◌, ℕ, ◌<◌, ◌≤◌, ◌⊎◌, inl, inr, Bool, true, false, ◌==◌, eqb-true, List, refl, arith}
use Rattle.std.specs.Prelude.{Ok, Err, codes, if◌then◌else◌}
use Rattle.spiel_io.specs.Outside.{ShelfState}
use Rattle.spiel_io.specs.Plan.{IsRead, IsMemory, IsRefusal, CausedAt, Follows, Plan, refusing}
use Rattle.spiel_io.proofs.Plan.{follows_refusing}
use Rattle.spiel_api.specs.Rules.{Rules}
use Rattle.spiel_io.specs.declared.calls.FetchFault.TheVariants as file
use Rattle.spiel_words.specs.declared.fault.WordsFault.TheVariants as words
use Rattle.spiel_efg.specs.declared.read_fault.EfgFault.TheVariants as efg
use Rattle.spiel_string.specs.declared.fault.StringFault.TheVariants as string
use Rattle.spiel_load.specs.declared.fault.LoadFault.TheVariants as load
use Rattle.spiel_save.specs.declared.fault.SavedFault.TheVariants as saved
use Rattle.spiel_api.specs.declared.walking.WalkFault.TheVariants as walk
use Rattle.spiel_tree.specs.declared.tree.TreeFault.TheVariants as tree
use Rattle.spiel_policy.specs.declared.fault.PolicyFault.TheVariants as policy
use Rattle.spiel_response.specs.declared.fault.JudgeFault.TheVariants as judging
use Rattle.spiel_load.specs.Faults.{load_kind}
use Rattle.spiel_load.specs.declared.fault.LoadFault.{LoadFault}
use Rattle.spiel_cli.specs.Refusal.{kind_at, kind_of, reason_of, status_of}
use Rattle.spiel_cli.specs.declared.refusal.Refusal.{Refusal}
use Rattle.spiel_cli.specs.declared.refusal.Refusal.TheVariants.{Words, BadList, File, GameString, Loading, Efg, SavedFile, Walk, Tree, PolicyFile, Judging, NoMemory}

-- the status is one of a refusal, and these statuses have one text each
pub record IsSaidAt (status : ℕ) (reason : List ℕ) : Type 0 where
  pub low : 2 ≤ status
  pub no_write : status ≡ 7 → ⊥
  pub usage : status ≡ 2 → reason ≡ codes "usage: spiel VERB ARGUMENTS"
  pub read : status ≡ 3 → reason ≡ codes "read fault"
  pub memory : status ≡ 8 → reason ≡ codes "no memory"

usage : IsSaidAt 2 (codes "usage: spiel VERB ARGUMENTS")
usage = record { low = omega arith; no_write = λ h. omega (arith, h); usage = λ h. refl; read = λ h. absurd (omega (arith, h)); memory = λ h. absurd (omega (arith, h)) }

read : IsSaidAt 3 (codes "read fault")
read = record { low = omega arith; no_write = λ h. omega (arith, h); usage = λ h. absurd (omega (arith, h)); read = λ h. refl; memory = λ h. absurd (omega (arith, h)) }

memory : IsSaidAt 8 (codes "no memory")
memory = record { low = omega arith; no_write = λ h. omega (arith, h); usage = λ h. absurd (omega (arith, h)); read = λ h. absurd (omega (arith, h)); memory = λ h. refl }

-- any other text, with a status from 4 to 6
other : (status : ℕ) (reason : List ℕ) → 3 < status → status < 7 → IsSaidAt status reason
other status reason above below = record {
  low = omega (arith, above);
  no_write = λ h. omega (arith, below, h);
  usage = λ h. absurd (omega (arith, above, h));
  read = λ h. absurd (omega (arith, above, h));
  memory = λ h. absurd (omega (arith, below, h));
}

bad : (reason : List ℕ) → IsSaidAt 4 reason
bad reason = other 4 reason (omega arith) (omega arith)

unfit : (reason : List ℕ) → IsSaidAt 5 reason
unfit reason = other 5 reason (omega arith) (omega arith)

large : (reason : List ℕ) → IsSaidAt 6 reason
large reason = other 6 reason (omega arith) (omega arith)

pub refusal_said : (e : Refusal) → IsSaidAt (status_of e) (reason_of e)
refusal_said (Words words.Usage) = usage
refusal_said (Words words.NoMemory) = memory
refusal_said BadList = bad _
refusal_said (File file.Read) = read
refusal_said (File file.TooLong) = bad _
refusal_said (File file.NoMemory) = memory
refusal_said (GameString string.TooLong) = bad _
refusal_said (GameString (string.Syntax at)) = bad _
refusal_said (GameString string.TooDeep) = bad _
refusal_said (GameString (string.Repeated at)) = bad _
refusal_said (GameString string.NoMemory) = memory
refusal_said (Loading (load.UnknownGame name)) = bad _
refusal_said (Loading load.TooDeep) = bad _
refusal_said (Loading (load.UnknownParam name key)) = bad _
refusal_said (Loading (load.BadParam name key)) = bad _
refusal_said (Loading (load.File file.Read)) = read
refusal_said (Loading (load.File file.TooLong)) = bad _
refusal_said (Loading (load.File file.NoMemory)) = bad _
refusal_said (Loading (load.Efg fault)) = bad _
refusal_said (Loading (load.Repeat fault)) = bad _
refusal_said (Loading (load.Start fault)) = bad _
refusal_said (Loading load.NoMemory) = memory
refusal_said (Efg (efg.Token at)) = bad _
refusal_said (Efg (efg.Grammar token)) = bad _
refusal_said (Efg efg.Players) = bad _
refusal_said (Efg (efg.SetClash node)) = bad _
refusal_said (Efg (efg.ChanceSum node)) = bad _
refusal_said (Efg (efg.ChanceTooFine node)) = bad _
refusal_said (Efg (efg.OutcomeClash node)) = bad _
refusal_said (Efg efg.TooLarge) = bad _
refusal_said (Efg efg.PayTooFine) = bad _
refusal_said (Efg efg.NoMemory) = memory
refusal_said (SavedFile saved.Header) = bad _
refusal_said (SavedFile (saved.Game fault)) = bad _
refusal_said (SavedFile (saved.Number line)) = bad _
refusal_said (SavedFile saved.NoMemory) = memory
refusal_said (Walk (walk.Illegal at)) = bad _
refusal_said (Walk (walk.Unfinished at)) = bad _
refusal_said (Walk walk.NoMemory) = memory
refusal_said (Tree (tree.TooMany limit)) = unfit _
refusal_said (Tree (tree.Simultaneous history)) = unfit _
refusal_said (Tree (tree.Recall player first second)) = unfit _
refusal_said (Tree (tree.Actions player first second)) = unfit _
refusal_said (Tree tree.NoMemory) = memory
refusal_said (PolicyFile policy.Json) = bad _
refusal_said (PolicyFile policy.Head) = bad _
refusal_said (PolicyFile (policy.Shape entry)) = bad _
refusal_said (PolicyFile (policy.UnknownState entry)) = unfit _
refusal_said (PolicyFile (policy.Repeated entry)) = unfit _
refusal_said (PolicyFile (policy.Action entry)) = unfit _
refusal_said (PolicyFile (policy.Overflow entry)) = large _
refusal_said (PolicyFile (policy.Sum entry)) = unfit _
refusal_said (PolicyFile (policy.Missing player text)) = unfit _
refusal_said (PolicyFile policy.NoMemory) = memory
refusal_said (Judging judging.Overflow) = large _
refusal_said (Judging judging.NoMemory) = memory
refusal_said NoMemory = memory

-- ---- what a refusal of a status is
pub kind_memory : (status : ℕ) → kind_at status ≡ IsMemory → status ≡ 8
kind_memory status h = by (status == 8) refl (status == 3) h
  where
    by : (b : Bool) → (status == 8) ≡ b → (c : Bool) → (if b then IsMemory else if c then IsRead else IsRefusal) ≡ IsMemory → status ≡ 8
    by true e c h = eqb-true status 8 e
    by false e true h = let no : ⊥ = cc in absurd no
    by false e false h = let no : ⊥ = cc in absurd no

-- a count that rose is that of a read fault, or tells nothing for want of memory
pub kind_seen : (status before now : ℕ) → CausedAt (kind_at status) before now → before < now → (status ≡ 3) ⊎ (status ≡ 8)
kind_seen status before now c more = by (status == 8) refl (status == 3) refl c
  where
    by : (b : Bool) → (status == 8) ≡ b → (d : Bool) → (status == 3) ≡ d → CausedAt (if b then IsMemory else if d then IsRead else IsRefusal) before now → (status ≡ 3) ⊎ (status ≡ 8)
    by true e d f c = inr (eqb-true status 8 e)
    by false e true f c = inl (eqb-true status 3 f)
    by false e false f c = absurd (omega (arith, c, more))

-- a fault of loading is of its own kind
load_kind_kept : (fault : LoadFault) → load_kind fault ≡ kind_of (Loading fault)
load_kind_kept (load.UnknownGame name) = refl
load_kind_kept load.TooDeep = refl
load_kind_kept (load.UnknownParam name key) = refl
load_kind_kept (load.BadParam name key) = refl
load_kind_kept (load.File file.Read) = refl
load_kind_kept (load.File file.TooLong) = refl
load_kind_kept (load.File file.NoMemory) = refl
load_kind_kept (load.Efg fault) = refl
load_kind_kept (load.Repeat fault) = refl
load_kind_kept (load.Start fault) = refl
load_kind_kept load.NoMemory = refl

-- a call that follows a plan of loading, with its faults as refusals
module _ (plan : Plan Rules LoadFault) (old new : ShelfState) where
  pub game_loaded : (rules : Rules) → Follows load_kind plan old new (Ok rules) → Follows kind_of (refusing Loading plan) old new (Ok rules)
  game_loaded rules h = follows_refusing Loading load_kind kind_of load_kind_kept plan old new (Ok rules) h

  pub loading_refused : (fault : LoadFault) → Follows load_kind plan old new (Err fault) → Follows kind_of (refusing Loading plan) old new (Err (Loading fault))
  loading_refused fault h = follows_refusing Loading load_kind kind_of load_kind_kept plan old new (Err fault) h
