-- The report that was printed, and that it comes.
use Rattle.std.proofs.Common.{◌≡◌, ℕ, ◌≤◌, ◌⊎◌, inl, inr, Bool, true, List, length, Option, Some, None, Result, Ok, Err, refl, sym, ap, ◌∙◌, ◌+◌, ◌<◌, subst, le-ltb, arith}
use Rattle.std.proofs.lemmas.Bool.{cases_eq}
use Rattle.std.specs.Prelude.{IfOk, IfSome, OnOk, pos, ◌<ℤ◌, ◌≤ℤ◌, nat_lt, if◌then◌else◌}
use Rattle.std.specs.Option.{option_and_then}
use Rattle.std.specs.Io.KnownBytes.{append_known}
use Rattle.spiel_io.specs.Outside.{Files, SinkState, held}
use Rattle.spiel_io.specs.Plan.{Plan, Give, Refuse, Ask, ◌>>=◌, Reaches, decided, decide, unless, refusing}
use Rattle.spiel_io.specs.declared.calls.FetchFault.TheVariants.{TooLong}
use Rattle.spiel_io.proofs.Reached.{quiet_first, reaches_refusing}
use Rattle.spiel_api.specs.Rules.{Rules}
use Rattle.spiel_string.specs.Answer.{reading}
use Rattle.spiel_string.specs.Game.{Game}
use Rattle.spiel_string.specs.View.{view}
use Rattle.spiel_load.specs.Named.{named_game}
use Rattle.spiel_tree.specs.declared.tree.TreeFault.{TreeFault}
use Rattle.spiel_tree.specs.Trees.{Whole, tree_fault, tree_of}
use Rattle.spiel_tree.specs.PerfectRecall.{HasPerfectRecall}
use Rattle.spiel_response.specs.BestResponses.{nash_conv_of}
use Rattle.spiel_response.specs.Values.{Judged, NumbersFit, denominator_of}
use Rattle.spiel_response.specs.declared.fault.JudgeFault.TheVariants.{Overflow}
use Rattle.spiel_policy.specs.Profiles.{Fits, Profile}
use Rattle.spiel_policy.specs.Reading.{policy_of}
use Rattle.spiel_words.specs.declared.command.Command.{Command}
use Rattle.spiel_words.specs.declared.command.Command.TheVariants.{Judge}
use Rattle.spiel_words.specs.Verbs.{command_of}
use Rattle.spiel_cli.specs.Case.{Case, case_of, case_plan, game_case, history_limit, policy_case}
use Rattle.spiel_cli.specs.Files.{file_limit, named_file}
use Rattle.spiel_cli.specs.Judgement.{AreOfCase, HasJudged, IsAnswered, IsOfGame, IsReport, IsReportBy, IsRight, IsSaidBy, Judges}
use Rattle.spiel_cli.specs.Named.{NamedGame, with_rules}
use Rattle.spiel_cli.specs.Outcome.{outcome_of, plan_by, plan_of}
use Rattle.spiel_cli.specs.Policies.{chosen, chosen_by, file_profile, name_of}
use Rattle.spiel_cli.specs.Reports.{case_report, judge_plan, report_text}
use Rattle.spiel_cli.specs.Run.{Completes, IsWritten, Knows}
use Rattle.spiel_cli.specs.Value.{numbers_fit}
use Rattle.spiel_cli.specs.declared.case.Case.{Case as CodeCase}
use Rattle.spiel_cli.specs.declared.policies.NamedPolicy.{NamedPolicy}
use Rattle.spiel_cli.specs.declared.refusal.Refusal.{Refusal}
use Rattle.spiel_cli.specs.declared.refusal.Refusal.TheVariants.{File, GameString, Judging, Loading, PolicyFile, Tree}
use Rattle.spiel_cli.proofs.Completion.{known_decided, reaches_decided}
use Rattle.spiel_cli.proofs.Refusals.{refusal_said}

-- ---- what was given, of what is reached
pub decide_gave : {A F : Type 0} (refusal : F → Refusal) (r : Result A F) (told : Option Files) (a : A) → Reaches (decide refusal r) told (Ok a) → r ≡ Ok a
decide_gave {A = A} refusal (Ok x) told a h = let same : x ≡ a = cc in ap (λ (y : A). Ok y) same
decide_gave refusal (Err f) told a h = let no : ⊥ = cc in absurd no

-- the tree is that of the game of the word
pub game_given : (word : List ℕ) (text : Game) (rules : Rules) (told : Option Files) (r : Result CodeCase Refusal) → reading word ≡ Ok text → Reaches (named_game text) told (Ok rules) → IfOk r (λ case. view case.text ≡ text)
    → IfOk r (λ case. tree_fault rules history_limit ≡ None) → IfOk r (λ case. case.tree ≡ tree_of rules) → IfOk r (λ case. IsOfGame word told (case_of case))
game_given word text rules told (Ok case) reads named same judgeable tree = record {
  rules = rules;
  reads = subst (λ t. reading word ≡ Ok t) (sym same) reads;
  named = subst (λ t. Reaches (named_game t) told (Ok rules)) (sym same) named;
  judgeable = judgeable;
  tree = tree;
}
game_given word text rules told (Err e) reads named same judgeable tree = tt

-- the report on the case that was read
pub report_given : (game policy : List ℕ) (brief : Bool) (told : Option Files) (case : CodeCase) (r : Result (List ℕ) Refusal) → IsOfGame game told (case_of case) → Reaches (case_plan game policy) told (Ok (case_of case))
    → Fits case.tree case.policy → IfOk r (λ text. text ≡ report_text brief (case_of case)) → IfOk r (λ text. IsRight (case_of case).judged) → IfOk r (IsReport game policy brief told)
report_given game policy brief told case (Ok done) of_game comes complete is right = record { case = case_of case; of_game = of_game; comes = comes; complete = complete; is = is; right = right }
report_given game policy brief told case (Err e) of_game comes complete is right = tt

-- ---- the players, one after the other
pub one_player_more : {P : ℕ → Type 0} (n : ℕ) → ((p : ℕ) → p < n → P p) → P n → (p : ℕ) → p < n + 1 → P p
one_player_more {P} n before this p less = by (cases_eq p n)
  where
    by : (p ≡ n) ⊎ (p ≡ n → ⊥) → P p
    by (inl same) = subst P (sym same) this
    by (inr other) = before p (omega (arith, less, other))

-- the numbers of a report are what they are called, of what its parts tell
pub made_right : {E : Type 0} (tree : Whole) (j now : Judged) (r : Result (Unit {0}) E) → tree ≡ j.tree → now ≡ j → HasPerfectRecall tree.rows → ((p : ℕ) → p < tree.players → IsAnswered j p)
    → OnOk r (pos 0 ≤ℤ nash_conv_of now) → OnOk r (pos 0 <ℤ denominator_of now) → OnOk r (NumbersFit now) → OnOk r (IsRight j)
made_right tree j now (Ok done) whole same recall answered gap denominator fits = record {
  recall = subst (λ (t : Whole). HasPerfectRecall t.rows) whole recall;
  fits = subst NumbersFit same fits;
  denominator = subst (λ j. pos 0 <ℤ denominator_of j) same denominator;
  answered = λ p less. answered p (subst (λ (t : Whole). p < t.players) (sym whole) less);
  gap = subst (λ j. pos 0 ≤ℤ nash_conv_of j) same gap;
}
made_right tree j now (Err e) whole same recall answered gap denominator fits = tt

-- ---- the report that was printed
pub has_judged : (game policy : List ℕ) (brief : Bool) (told : Option Files) (answer : Result (List ℕ) Refusal) (status : ℕ) (out out' err err' : SinkState)
    → IfOk answer (IsReport game policy brief told) → IsWritten answer status out out' err err' → status ≡ 0 → HasJudged game policy brief told out out' err err'
has_judged game policy brief told (Ok done) status out out' err err' h (inl w) zero = record {
  case = h.case;
  of_game = h.of_game;
  comes = h.comes;
  complete = h.complete;
  judges = record { printed = subst (λ (text : List ℕ). out'.taken ≡ append_known out.taken text) h.is w.1; silent = w.3.0; right = h.right };
}
has_judged game policy brief told (Ok done) status out out' err err' h (inr w) zero = absurd (omega (arith, w.0, zero))
has_judged game policy brief told (Err e) status out out' err err' h (same, inl w) zero = absurd (let late = (refusal_said e).low in omega (arith, late, w.0, zero))
has_judged game policy brief told (Err e) status out out' err err' h (same, inr w) zero = absurd (omega (arith, w.0, zero))

-- ---- what is decided, part by part
module _ {A B E : Type 0} (next : A → Plan B E) (files : Files) where
  decided_then : (plan : Plan A E) (a : A) → decided plan files ≡ Some (Ok a) → decided (plan >>= next) files ≡ decided (next a) files
  decided_then (Give x) a h = let same : x ≡ a = cc in ap (λ (x : A). decided (next x) files) same
  decided_then (Refuse e) a h = let no : ⊥ = cc in absurd no
  decided_then (Ask slot name rest) a h =
      let go : (o : Option (List ℕ)) → option_and_then (λ bytes. decided (rest bytes) files) o ≡ Some (Ok a) → option_and_then (λ bytes. decided (rest bytes >>= next) files) o ≡ decided (next a) files =
      λ o. elim o as (λ o. option_and_then (λ bytes. decided (rest bytes) files) o ≡ Some (Ok a) → option_and_then (λ bytes. decided (rest bytes >>= next) files) o ≡ decided (next a) files)
      [ None ↦ (λ p. let no : ⊥ = cc in absurd no) | Some bytes ↦ (λ p. decided_then (rest bytes) a p) ] in
      go (held files name) h

decided_given : {A F : Type 0} (refusal : F → Refusal) (r : Result A F) (files : Files) (a : A) → r ≡ Ok a → decided (decide refusal r) files ≡ Some (Ok a)
decided_given refusal r files a h = subst (λ r. decided (decide refusal r) files ≡ Some (Ok a)) (sym h) refl

-- the policy of a word
file_decided : (word bytes : List ℕ) (files : Files) (tree : Whole) (profile : Profile) → held files word ≡ Some bytes → length bytes ≤ file_limit → policy_of tree bytes ≡ Ok profile
    → decided (named_file word >>= file_profile tree) files ≡ Some (Ok profile)
file_decided word bytes files tree profile there short gives =
    let gave : decided (named_file word) files ≡ Some (Ok bytes) =
    subst (λ (o : Option (List ℕ)). option_and_then (λ bytes. decided (if nat_lt file_limit (length bytes) then Refuse (File TooLong) else Give bytes) files) o ≡ Some (Ok bytes)) (sym there)
    (subst (λ (b : Bool). decided (if b then Refuse (File TooLong) else Give bytes) files ≡ Some (Ok bytes)) (sym (le-ltb file_limit (length bytes) short)) refl) in
    decided_then (file_profile tree) files (named_file word) bytes gave ∙ decided_given PolicyFile (policy_of tree bytes) files profile gives

policy_decided : (name : Option NamedPolicy) (word : List ℕ) (files : Files) (tree : Whole) (profile : Profile) → IsSaidBy name word files tree profile
    → decided (chosen_by name word tree) files ≡ Some (Ok profile)
policy_decided (Some name) word files tree profile h = ap (λ (p : Profile). Some (Ok p)) (sym h)
policy_decided None word files tree profile h = file_decided word h.bytes files tree profile h.there h.short h.gives

-- the case of the words
pub case_decided : (game policy : List ℕ) (files : Files) (case : Case) → AreOfCase game policy files case → decided (case_plan game policy) files ≡ Some (Ok case)
case_decided game policy files case h =
    let rules = h.of_game.rules in
    let named : NamedGame = record { text = case.text; rules = rules } in
    let tree = case.judged.tree in
    let chose : decided (chosen policy tree) files ≡ Some (Ok case.judged.profile) = policy_decided (name_of policy) policy files tree case.judged.profile h.of_policy in
    let last : decided (policy_case policy case.text tree) files ≡ Some (Ok case) = decided_then _ files (chosen policy tree) case.judged.profile chose in
    let of_tree_decided : decided (game_case policy named) files ≡ Some (Ok case) =
    subst (λ (o : Option TreeFault). decided (unless Tree o (policy_case policy case.text (tree_of rules))) files ≡ Some (Ok case)) (sym h.of_game.judgeable)
    (subst (λ (t : Whole). decided (policy_case policy case.text t) files ≡ Some (Ok case)) h.of_game.tree last) in
    let of_rules : decided (with_rules case.text (game_case policy)) files ≡ Some (Ok case) =
    decided_then _ files (refusing Loading (named_game case.text)) rules
    (reaches_decided (refusing Loading (named_game case.text)) files (Ok rules) (reaches_refusing Loading (named_game case.text) (Some files) (Ok rules) h.of_game.named)) ∙ of_tree_decided in
    decided_then _ files (decide GameString (reading game)) case.text (decided_given GameString (reading game) files case.text h.of_game.reads) ∙ of_rules

report_decided : (brief : Bool) (files : Files) (case : Case) → numbers_fit case.judged ≡ true → decided (case_report brief case) files ≡ Some (Ok (report_text brief case))
report_decided brief files case fits =
    subst (λ (b : Bool). decided (if b then Give (report_text brief case) else Refuse (Judging Overflow)) files ≡ Some (Ok (report_text brief case))) (sym fits) refl

-- ---- the report comes
known_first : {A B E : Type 0} (plan : Plan A E) (next : A → Plan B E) (told : Option Files) (files : Files) → Knows told (plan >>= next) files → Knows told plan files
known_first plan next told files (inl h) = inl h
known_first plan next told files (inr h) = inr (quiet_first next plan h.0, h.1)

module _ (game policy : List ℕ) (brief : Bool) (told : Option Files) (files : Files) (case : Case) (out out' err err' : SinkState) where
  -- what was judged is the case of the words
  pub judged_case : Knows told (judge_plan game policy brief) files → AreOfCase game policy files case → HasJudged game policy brief told out out' err err' → Judges brief case out out' err err'
  judged_case known given h =
      let one : decided (case_plan game policy) files ≡ Some (Ok h.case) = known_decided (case_plan game policy) told files (Ok h.case) (known_first (case_plan game policy) (case_report brief) told files known) h.comes in
      let other : decided (case_plan game policy) files ≡ Some (Ok case) = case_decided game policy files case given in
      let same : h.case ≡ case = cc in
      subst (λ (c : Case). Judges brief c out out' err err') same h.judges

  pub judged_status : AreOfCase game policy files case → numbers_fit case.judged ≡ true → (outcome_of (decided (judge_plan game policy brief) files)).status ≡ 0
  judged_status given fits =
      let all : decided (judge_plan game policy brief) files ≡ Some (Ok (report_text brief case)) =
      decided_then (case_report brief) files (case_plan game policy) case (case_decided game policy files case given) ∙ report_decided brief files case fits in
      ap (λ d. (outcome_of d).status) all

-- status 0 after `judge` comes with a report
pub judged_told : (words : List (List ℕ)) (game policy : List ℕ) (brief : Bool) (told : Option Files) (answer : Result (List ℕ) Refusal) → command_of words ≡ Some (Judge game policy brief)
    → IfSome (command_of words) (λ command. IfOk answer (IsReportBy command told)) → IfOk answer (IsReport game policy brief told)
judged_told words game policy brief told answer is h = subst (λ (o : Option Command). IfSome o (λ command. IfOk answer (IsReportBy command told))) is h

module _ (words : List (List ℕ)) (game policy : List ℕ) (brief : Bool) (told : Option Files) (files : Files) (case : Case) (status : ℕ) (out out' err err' : SinkState) where
  -- the report comes, or memory ran out
  pub report_comes : command_of words ≡ Some (Judge game policy brief) → Knows told (plan_of words) files → AreOfCase game policy files case → numbers_fit case.judged ≡ true
      → (status ≡ 8) ⊎ Completes (outcome_of (decided (plan_of words) files)) status out out' err err' → (status ≡ 0 → HasJudged game policy brief told out out' err err')
      → (status ≡ 8) ⊎ ((status ≡ 0) × Judges brief case out out' err err')
  report_comes is known given fits (inl full) judged = inl full
  report_comes is known given fits (inr all) judged =
      let zero : status ≡ 0 =
      all.status_is ∙ ap (λ (o : Option Command). (outcome_of (decided (plan_by o) files)).status) is ∙ judged_status game policy brief told files case out out' err err' given fits in
      let mine : Knows told (judge_plan game policy brief) files = subst (λ (o : Option Command). Knows told (plan_by o) files) is known in
      inr (zero, judged_case game policy brief told files case out out' err err' mine given (judged zero))
