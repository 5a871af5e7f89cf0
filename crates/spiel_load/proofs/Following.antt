-- Calls that follow a plan: what is read without a file, what comes by a plan of its own, and what is then read of both.
use Rattle.std.proofs.Common.{◌≡◌, Bool, false, Result, Ok, Err, refl, sym, subst}
use Rattle.std.specs.Prelude.{codes, if◌then◌else◌}
use Rattle.std.specs.Result.{IsErr, IsErrAnd}
use Rattle.std.specs.Str.{bytes_eq}
use Rattle.spiel_io.specs.Outside.{ShelfState}
use Rattle.spiel_io.specs.Plan.{Plan, ◌>>=◌, Follows, IsRefusal, seeing}
use Rattle.spiel_io.proofs.Plan.{follows_give, follows_handed_on, follows_memory, follows_refuse, follows_stop, follows_then}
use Rattle.spiel_api.specs.Rules.{Rules}
use Rattle.spiel_load.specs.Asked.{IsComputed, ReadsAs}
use Rattle.spiel_load.specs.Faults.{load_kind}
use Rattle.spiel_load.specs.Games.{Table, base_rules, rules_named}
use Rattle.spiel_load.specs.Games.Gambit.{efg_game}
use Rattle.spiel_load.specs.Given.{Asked, Read, planned}
use Rattle.spiel_load.specs.declared.fault.LoadFault.{LoadFault}
use Rattle.spiel_load.specs.declared.fault.LoadFault.TheVariants.{UnknownGame, TooDeep, UnknownParam, BadParam, File, Efg, Repeat, Start, NoMemory}

-- ---- what is read without a file
module _ {A : Type 0} (read : Read A) (s : ShelfState) where
  refused : (fault : LoadFault) → load_kind fault ≡ IsRefusal → read ≡ Err fault → Follows load_kind (planned read) s s (Err fault)
  refused fault kind h = subst (λ (read : Read A). Follows load_kind (planned read) s s (Err fault)) (sym h) (follows_refuse load_kind s fault kind)

  fault_follows : (fault : LoadFault) → IsComputed read fault → Follows load_kind (planned read) s s (Err fault)
  fault_follows (UnknownGame name) h = refused (UnknownGame name) refl h
  fault_follows TooDeep h = refused TooDeep refl h
  fault_follows (UnknownParam name key) h = refused (UnknownParam name key) refl h
  fault_follows (BadParam name key) h = refused (BadParam name key) refl h
  fault_follows (File fault) h = absurd h
  fault_follows (Efg fault) h = refused (Efg fault) refl h
  fault_follows (Repeat fault) h = refused (Repeat fault) refl h
  fault_follows (Start fault) h = refused (Start fault) refl h
  fault_follows NoMemory h = follows_memory load_kind (planned read) s NoMemory refl

  given_follows : (a : A) → read ≡ Ok a → Follows load_kind (planned read) s s (Ok a)
  given_follows a h = subst (λ (read : Read A). Follows load_kind (planned read) s s (Ok a)) (sym h) (follows_give load_kind s a)

  pub read_follows : {B : Type 0} (meaning : B → A) (r : Result B LoadFault) → ReadsAs meaning read r → Follows load_kind (planned read) s s (seeing meaning r)
  read_follows meaning (Ok x) h = given_follows (meaning x) h
  read_follows meaning (Err fault) h = fault_follows fault h

-- ---- three steps: something is read, something comes by a plan of its own, and of both something is read
module _ {A B C D : Type 0} (first : Read A) (next : A → Plan B LoadFault) (last : A → B → Read C) (seen : D → C) (old new : ShelfState) (r : Result D LoadFault) where
  abbrev rest : A → Plan C LoadFault
  rest a = next a >>= λ b. planned (last a b)

  pub first_stops : (fault : LoadFault) → IsComputed first fault → IsErr r × IsErrAnd r (λ x. x ≡ fault) → Follows load_kind (planned first >>= rest) old old (seeing seen r)
  first_stops fault h same = follows_handed_on load_kind seen (planned first >>= rest) old old fault r (follows_stop load_kind (planned first) rest old old fault (fault_follows first old fault h)) same

  pub second_stops : (a : A) (fault : LoadFault) → first ≡ Ok a → Follows load_kind (next a) old new (Err fault) → IsErr r × IsErrAnd r (λ x. x ≡ fault)
      → Follows load_kind (planned first >>= rest) old new (seeing seen r)
  second_stops a fault e h same =
      follows_handed_on load_kind seen (planned first >>= rest) old new fault r
      (follows_then load_kind (planned first) rest old old new a (Err fault) (given_follows first old a e)
      (follows_stop load_kind (next a) (λ b. planned (last a b)) old new fault h)) same

  pub third_follows : (a : A) (b : B) → first ≡ Ok a → Follows load_kind (next a) old new (Ok b) → ReadsAs seen (last a b) r
      → Follows load_kind (planned first >>= rest) old new (seeing seen r)
  third_follows a b e h k =
      follows_then load_kind (planned first) rest old old new a (seeing seen r) (given_follows first old a e)
      (follows_then load_kind (next a) (λ b. planned (last a b)) old new new b (seeing seen r) h (read_follows (last a b) new seen r k))

-- ---- a game of the table
pub table_follows : {A : Type 0} (seen : A → Rules) (entries : Table) (asked : Asked) (s : ShelfState) (r : Result A LoadFault) → bytes_eq asked.name (codes "efg_game") ≡ false
    → ReadsAs seen (rules_named entries asked) r → Follows load_kind (base_rules entries asked) s s (seeing seen r)
table_follows seen entries asked s r other h =
    subst (λ (b : Bool). Follows load_kind (if b then efg_game asked else planned (rules_named entries asked)) s s (seeing seen r)) (sym other)
    (read_follows (rules_named entries asked) s seen r h)

pub table_given : (entries : Table) (asked : Asked) (s : ShelfState) (rules : Rules) → bytes_eq asked.name (codes "efg_game") ≡ false → rules_named entries asked ≡ Ok rules
    → Follows load_kind (base_rules entries asked) s s (Ok rules)
table_given entries asked s rules other h = table_follows (λ rules. rules) entries asked s (Ok rules) other h
