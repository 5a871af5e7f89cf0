-- What is kept goes with the state.
use Rattle.std.proofs.Common.{◌≡◌, ℕ, zero, suc, Bool, true, false, List, [], ◌∷◌, ◌++◌, refl, sym, ◌∙◌, ap, Option, Some, None}
use Rattle.std.specs.Prelude.{IfSome, option_map}
use Rattle.spiel_string.specs.Alphabet.{is_name}
use Rattle.spiel_string.specs.Game.{Game, Value, game}
use Rattle.spiel_string.specs.Grammar.{Head, Node, leaf, call, Brackets, empty, filled, Entries, one, and}
use Rattle.spiel_string.specs.Kept.{Open, Read, last_of, keyed, value_read, ended, closed_up, closed_with, kept_after, finished_params, name_in, open_of, opens_below, read_in, value_in, kept_of, game_in}
use Rattle.spiel_string.specs.Modes.{mode_of, word_mode}
use Rattle.spiel_string.specs.Partial.{Finished, no_entry, with_entry, wrap, Context, outermost, within, State, start, outer, open_at, key_at, value_due, value_at, done, closed, step_class, step}
use Rattle.spiel_string.specs.Scan.{class}
use Rattle.spiel_string.specs.Insertion.{insert_pair}
use Rattle.spiel_string.specs.Sorted.{sorted}
use Rattle.spiel_string.specs.Values.{game_of, brackets_params, entries_params}
use Rattle.spiel_string.specs.View.{params_of}
use Rattle.spiel_string.specs.declared.scan.Class.{Class}
use Rattle.spiel_string.specs.declared.scan.Class.TheVariants as class
use Rattle.spiel_string.proofs.OpenBrackets.{on_last-push, without_last-push, last_of-push}
use Rattle.spiel_string.proofs.Shown.{only_where, of_step}
use Rattle.spiel_string.proofs.Sorting.{sorted_onto, sorted_onto-none}

sorted-wrap : (ds : Finished) (es : Entries) → sorted (entries_params (wrap ds es)) ≡ sorted_onto (finished_params ds) (entries_params es)
sorted-wrap no_entry es = sym (sorted_onto-none (entries_params es))
sorted-wrap (with_entry ds head v) es = sorted-wrap ds (and head v es)

-- ---- keys, values, closed brackets

keyed-in : (c : Context) (ds : Finished) (part : List ℕ) → keyed (read_in c ds [] part None) ≡ read_in c ds part [] None
keyed-in c ds part =
    ap (λ (o : List Open). record { opens = o; part = []; last = None }) (on_last-push (λ o. record o { key = part }) (opens_below c) (open_of c ds []))

-- a value goes to its key
ended-in : (c : Context) (ds : Finished) (key part : List ℕ) (last : Option Game)
    → ended (read_in c ds key part last)
    ≡ record { opens = opens_below c ++ record { name = name_in c; params = insert_pair (key, value_read last part) (finished_params ds); key = [] } ∷ []; part = []; last = None }
ended-in c ds key part last =
    ap (λ (o : List Open). record { opens = o; part = []; last = None })
    (on_last-push (λ o. record o { params = insert_pair (o.key, value_read last part) o.params; key = [] }) (opens_below c) (open_of c ds key))

ended-value : (c : Context) (ds : Finished) (head : Head) (v : Node) → ended (value_in c ds head.key v) ≡ read_in c (with_entry ds head v) [] [] None
ended-value c ds head (leaf w n) = ended-in c ds head.key w None
ended-value c ds head (call w n ps m) = ended-in c ds head.key [] (Some (game_of (call w n ps m)))

closed_up-in : (c : Context) (ds : Finished)
    → closed_up (read_in c ds [] [] None) ≡ record { opens = opens_below c; part = []; last = Some (game (name_in c) (params_of (finished_params ds))) }
closed_up-in c ds =
    ap (λ (o : List Open). record { opens = o; part = []; last = option_map game_in (last_of (opens_below c ++ open_of c ds [] ∷ [])) }) (without_last-push (opens_below c) (open_of c ds []))
    ∙ ap (λ (o : Option Open). record { opens = opens_below c; part = []; last = option_map game_in o }) (last_of-push (opens_below c) (open_of c ds []))

kept-closed : (c : Context) (ps : Brackets)
    → record { opens = opens_below c; part = []; last = Some (game (name_in c) (params_of (sorted (brackets_params ps)))) } ≡ kept_of (closed c ps)
kept-closed (outermost l w n) ps = refl
kept-closed (within c ds head w n) ps = refl

closed-value : (c : Context) (ds : Finished) (head : Head) (v : Node) → closed_up (ended (value_in c ds head.key v)) ≡ kept_of (closed c (filled (wrap ds (one head v))))
closed-value c ds head v =
    ap closed_up (ended-value c ds head v) ∙ closed_up-in c (with_entry ds head v)
    ∙ ap (λ (ps : List (List ℕ × Value)). record { opens = opens_below c; part = []; last = Some (game (name_in c) (params_of ps)) }) (sym (sorted-wrap ds (one head v)))
    ∙ kept-closed c (filled (wrap ds (one head v)))

closed_with-word : (q : Bool) (n : ℕ) (r : Read) → closed_with (word_mode q n) r ≡ closed_up (ended r)
closed_with-word true zero r = refl
closed_with-word true (suc n) r = refl
closed_with-word false zero r = refl
closed_with-word false (suc n) r = refl

-- ---- the step of each state

abbrev Keeps : State → ℕ → Class → State → Type 0
Keeps s x k t = kept_after (mode_of s) k x (kept_of s) ≡ kept_of t

kept-step_class : (s : State) (x : ℕ) (k : Class) → IfSome (step_class s x k) (Keeps s x k)
kept-step_class (start n) x class.Space = refl
kept-step_class (start n) x class.Lower = refl
kept-step_class (outer l w n) x class.Space = refl
kept-step_class (outer l w zero) x class.Lower = refl
kept-step_class (outer l w zero) x class.NameRest = refl
kept-step_class (outer l w n) x class.Open = refl
kept-step_class (open_at c ds l) x class.Space = refl
kept-step_class (open_at c ds l) x class.Lower = refl
kept-step_class (open_at c no_entry l) x class.Close = closed_up-in c no_entry ∙ kept-closed c (empty l)
kept-step_class (key_at c ds l q n) x class.Space = refl
kept-step_class (key_at c ds l q zero) x class.Lower = refl
kept-step_class (key_at c ds l q zero) x class.NameRest = refl
kept-step_class (key_at c ds l q n) x class.Equals = keyed-in c ds q
kept-step_class (value_due c ds head) x class.Space = refl
kept-step_class (value_due c ds head) x class.Lower = refl
kept-step_class (value_due c ds head) x class.NameRest = refl
kept-step_class (value_due c ds head) x class.WordRest = refl
kept-step_class (value_at c ds head (leaf w n)) x class.Space = refl
kept-step_class (value_at c ds head (leaf w n)) x class.Open =
    only_where (is_name w) (open_at (within c ds head w n) no_entry zero) (Keeps (value_at c ds head (leaf w n)) x class.Open) (λ _. refl)
kept-step_class (value_at c ds head (leaf w n)) x class.Close = closed_with-word (is_name w) n (read_in c ds head.key w None) ∙ closed-value c ds head (leaf w n)
kept-step_class (value_at c ds head (leaf w n)) x class.Comma = ended-value c ds head (leaf w n)
kept-step_class (value_at c ds head (leaf w zero)) x class.Lower = refl
kept-step_class (value_at c ds head (leaf w zero)) x class.NameRest = refl
kept-step_class (value_at c ds head (leaf w zero)) x class.WordRest = refl
kept-step_class (value_at c ds head (call w n ps m)) x class.Space = refl
kept-step_class (value_at c ds head (call w n ps m)) x class.Close = closed-value c ds head (call w n ps m)
kept-step_class (value_at c ds head (call w n ps m)) x class.Comma = ended-value c ds head (call w n ps m)
kept-step_class (done l w n ps m) x class.Space = refl
kept-step_class s x k = tt

-- what is kept after a byte is what is kept at the state after it
pub kept-step : (s t : State) (x : ℕ) → step s x ≡ Some t → kept_after (mode_of s) (class x) x (kept_of s) ≡ kept_of t
kept-step s t x h = of_step (step s x) (Keeps s x (class x)) t (kept-step_class s x (class x)) h
