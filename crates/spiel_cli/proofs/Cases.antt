-- Going on with a game and a policy for it.
use Rattle.std.proofs.Common.{◌≡◌, ℕ, Bool, true, false, List, refl, sym, subst}
use Rattle.std.specs.Prelude.{Option, Some, None, Result, Ok, Err, if◌then◌else◌}
use Rattle.std.specs.Result.{IsErr, IsErrAnd}
use Rattle.spiel_io.specs.Outside.{ShelfState}
use Rattle.spiel_io.specs.Plan.{Plan, Give, Refuse, ◌>>=◌, Agrees, AsksNothing, Follows, IsRefusal, seeing, unless}
use Rattle.spiel_io.proofs.Plan.{follows_agrees, follows_handed_on, follows_memory, follows_refuse, follows_stop, follows_then}
use Rattle.spiel_tree.specs.declared.tree.TreeFault.{TreeFault}
use Rattle.spiel_tree.specs.declared.tree.TreeFault.TheVariants as tree
use Rattle.spiel_tree.specs.Trees.{IsComputed, Whole, tree_fault, tree_of}
use Rattle.spiel_cli.specs.Case.{Case, case_of, case_plan, game_case, history_limit, policy_case}
use Rattle.spiel_cli.specs.Named.{NamedGame}
use Rattle.spiel_cli.specs.Policies.{chosen}
use Rattle.spiel_cli.specs.Refusal.{kind_of}
use Rattle.spiel_cli.specs.Reports.{case_report}
use Rattle.spiel_cli.specs.Value.{case_values, numbers_fit}
use Rattle.spiel_cli.specs.declared.case.Case.{Case as CodeCase}
use Rattle.spiel_cli.specs.declared.refusal.Refusal.{Refusal}
use Rattle.spiel_cli.specs.declared.refusal.Refusal.TheVariants.{Tree}

quiet_if : {A E : Type 0} (b : Bool) (a : A) (e : E) → AsksNothing (if b then Give a else Refuse e)
quiet_if true a e = tt
quiet_if false a e = tt

pub values_ask_nothing : (case : Case) → AsksNothing (case_values case)
values_ask_nothing case = quiet_if (numbers_fit case.judged) _ _

pub reports_ask_nothing : (brief : Bool) (case : Case) → AsksNothing (case_report brief case)
reports_ask_nothing brief case = quiet_if (numbers_fit case.judged) _ _

-- a case was read, and nothing more is asked for
pub case_then : (game policy : List ℕ) (next : Case → Plan (List ℕ) Refusal) → ((case : Case) → AsksNothing (next case)) → (old new : ShelfState) (case : CodeCase) (r : Result (List ℕ) Refusal)
    → Follows kind_of (case_plan game policy) old new (Ok (case_of case)) → Agrees kind_of (next (case_of case)) None r → Follows kind_of (case_plan game policy >>= next) old new r
case_then game policy next quiet old new case r h k =
    follows_then kind_of (case_plan game policy) next old new new (case_of case) r h (follows_agrees kind_of (next (case_of case)) new r k (quiet (case_of case)))

-- no case was read
pub case_refused : (game policy : List ℕ) (next : Case → Plan (List ℕ) Refusal) (old new : ShelfState) (e : Refusal) (r : Result (List ℕ) Refusal)
    → Follows {A = Case} kind_of (case_plan game policy) old new (Err e) → IsErr r × IsErrAnd r (λ x. x ≡ e) → Follows kind_of (case_plan game policy >>= next) old new r
case_refused game policy next old new e (Ok text) h same = absurd same.1
case_refused game policy next old new e (Err x) h same =
    follows_stop kind_of (case_plan game policy) next old new x (subst (λ (y : Refusal). Follows {A = Case} kind_of (case_plan game policy) old new (Err y)) (sym same.1) h)

-- ---- the policy, after the tree
game_follows : (policy : List ℕ) (game : NamedGame) (tree : Whole) (old new : ShelfState) (r : Result Case Refusal) → tree ≡ tree_of game.rules → tree_fault game.rules history_limit ≡ None
    → Follows kind_of (policy_case policy game.text tree) old new r → Follows kind_of (game_case policy game) old new r
game_follows policy game tree old new r is none h =
    subst (λ (o : Option TreeFault). Follows kind_of (unless Tree o (policy_case policy game.text (tree_of game.rules))) old new r) (sym none)
    (subst (λ (t : Whole). Follows kind_of (policy_case policy game.text t) old new r) is h)

pub policy_stop : (policy : List ℕ) (game : NamedGame) (tree : Whole) (old new : ShelfState) (e : Refusal) (r : Result CodeCase Refusal) → tree ≡ tree_of game.rules
    → tree_fault game.rules history_limit ≡ None → Follows kind_of (chosen policy tree) old new (Err e) → IsErr r × IsErrAnd r (λ x. x ≡ e)
    → Follows kind_of (game_case policy game) old new (seeing case_of r)
policy_stop policy game tree old new e r is none h same =
    game_follows policy game tree old new (seeing case_of r) is none
    (follows_handed_on kind_of case_of (policy_case policy game.text tree) old new e r
    (follows_stop kind_of (chosen policy tree) (λ profile. Give (record { text = game.text; judged = record { tree = tree; profile = profile } })) old new e h) same)

-- ---- the game can't be judged
refused : (policy : List ℕ) (game : NamedGame) (s : ShelfState) (fault : TreeFault) → kind_of (Tree fault) ≡ IsRefusal → tree_fault game.rules history_limit ≡ Some fault
    → Follows {A = Case} kind_of (game_case policy game) s s (Err (Tree fault))
refused policy game s fault kind is =
    subst (λ (o : Option TreeFault). Follows {A = Case} kind_of (unless Tree o (policy_case policy game.text (tree_of game.rules))) s s (Err (Tree fault))) (sym is) (follows_refuse kind_of s (Tree fault) kind)

pub tree_refused : (policy : List ℕ) (game : NamedGame) (s : ShelfState) (fault : TreeFault) → IsComputed (tree_fault game.rules history_limit) fault
    → Follows {A = Case} kind_of (game_case policy game) s s (Err (Tree fault))
tree_refused policy game s (tree.TooMany limit) is = refused policy game s (tree.TooMany limit) refl is
tree_refused policy game s (tree.Simultaneous history) is = refused policy game s (tree.Simultaneous history) refl is
tree_refused policy game s (tree.Recall player first second) is = refused policy game s (tree.Recall player first second) refl is
tree_refused policy game s (tree.Actions player first second) is = refused policy game s (tree.Actions player first second) refl is
tree_refused policy game s tree.NoMemory is = follows_memory kind_of (game_case policy game) s (Tree tree.NoMemory) refl
