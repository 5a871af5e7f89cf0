-- One byte more of a text, and a reader still stands in it.
use Rattle.std.proofs.Common.{◌≡◌, ◌<◌, ◌≤◌, ◌+◌, ℕ, zero, suc, max, Bool, true, false, List, [], ◌∷◌, ◌++◌, length, take, drop, get_or, refl, sym, ◌∙◌, ap, append_assoc, Option, Some, None, arith, subst, add-one, drop-cons, length-drop}
use Rattle.std.specs.Prelude.{◌||◌, IfSome, option_map, if◌then◌else◌}
use Rattle.std.specs.List.{list_any}
use Rattle.std.specs.Str.{bytes_eq}
use Rattle.spiel_string.specs.Alphabet.{spaces, is_name}
use Rattle.spiel_string.specs.Game.{Value}
use Rattle.spiel_string.specs.Grammar.{leaf, Brackets, empty, filled, one, IsSyntaxPlace}
use Rattle.spiel_string.specs.Kept.{kept_view, kept_of, kept_after, nothing, finished_params, opens_below, open_of}
use Rattle.spiel_string.specs.Modes.{mode_of, depth_of, next_of}
use Rattle.spiel_string.specs.Partial.{Context, outermost, within, Finished, no_entry, with_entry, State, start, outer, open_at, key_at, value_due, value_at, done, closed, wrap, step_class, step, run}
use Rattle.spiel_string.specs.Progress.{deepest_of, seconds_of, keys_of}
use Rattle.spiel_string.specs.Repeats.{again}
use Rattle.spiel_string.specs.Scan.{class}
use Rattle.spiel_string.specs.Stands.{Stands, IsFrom, IsFirst}
use Rattle.spiel_string.specs.Tracking.{from_after, first_after, is_again, is_key_of}
use Rattle.spiel_string.specs.Values.{value_of}
use Rattle.spiel_string.specs.declared.kept.Kept.{Kept}
use Rattle.spiel_string.specs.declared.read.Reader.{Reader}
use Rattle.spiel_string.specs.declared.scan.Class.{Class}
use Rattle.spiel_string.specs.declared.scan.Class.TheVariants as class
use Rattle.spiel_string.specs.declared.scan.Mode.{Mode}
use Rattle.spiel_string.specs.declared.scan.Mode.TheVariants as mode
use Rattle.spiel_string.proofs.Alphabet.{IsOf, IsOf-class}
use Rattle.spiel_string.proofs.Depths.{deepest-step}
use Rattle.spiel_string.proofs.KeptSteps.{kept-step}
use Rattle.spiel_string.proofs.KeyOrder.{insert_any}
use Rattle.spiel_string.proofs.ModeSteps.{brief, brief-step}
use Rattle.spiel_string.proofs.OpenBrackets.{last_of-push}
use Rattle.spiel_string.proofs.Proper.{proper-run}
use Rattle.spiel_string.proofs.Seconds.{key_again, Gains, seconds-step}
use Rattle.spiel_string.proofs.Shown.{only_where, of_step}
use Rattle.spiel_string.proofs.SyntaxPlaces.{run-take, syntax_stuck}

-- ---- where the key begins

from_closed : (c : Context) (ps : Brackets) (from : ℕ) (rest : List ℕ) (total : ℕ) → IsFrom (closed c ps) from rest total
from_closed (outermost l w n) ps from rest total = tt
from_closed (within c ds head w n) ps from rest total = tt

abbrev Moves : State → Class → ℕ → ℕ → List ℕ → ℕ → State → Type 0
Moves s k from at rest total t = IsFrom t (from_after (mode_of s) k from at) rest total

from-step_class : (s : State) (x : ℕ) (k : Class) → IsOf k x → (from at : ℕ) (rest : List ℕ) (total : ℕ)
    → IsFrom s from (x ∷ rest) total → at + length (x ∷ rest) ≡ total → IfSome (step_class s x k) (Moves s k from at rest total)
from-step_class (start n) x class.Space e from at rest total f h = tt
from-step_class (outer l w zero) x class.Space e from at rest total f h = tt
from-step_class (outer l w (suc n)) x class.Space e from at rest total f h = tt
from-step_class (open_at c no_entry l) x class.Lower e from at rest total f h = h
from-step_class (open_at c no_entry l) x class.Close e from at rest total f h = from_closed c (empty l) from rest total
from-step_class (open_at c (with_entry ds head v) l) x class.Lower e from at rest total f h = h
from-step_class (key_at c ds l q zero) x class.Space e from at rest total f h = sym (ap (λ y. from + length (q ++ y ∷ rest)) e) ∙ f
from-step_class (key_at c ds l q (suc n)) x class.Space e from at rest total f h = sym (ap (λ y. from + length (q ++ spaces (suc n) (y ∷ rest))) e) ∙ f
from-step_class (key_at c ds l q zero) x class.Lower e from at rest total f h = ap (λ u. from + length u) (append_assoc q (x ∷ []) rest) ∙ f
from-step_class (key_at c ds l q zero) x class.NameRest e from at rest total f h = ap (λ u. from + length u) (append_assoc q (x ∷ []) rest) ∙ f
from-step_class (value_due c ds head) x class.Space e from at rest total f h = tt
from-step_class (value_at c ds head (leaf w zero)) x class.Open e from at rest total f h =
    only_where (is_name w) (open_at (within c ds head w zero) no_entry zero) (Moves (value_at c ds head (leaf w zero)) class.Open from at rest total) (λ _. tt)
from-step_class (value_at c ds head (leaf w (suc n))) x class.Open e from at rest total f h =
    only_where (is_name w) (open_at (within c ds head w (suc n)) no_entry zero) (Moves (value_at c ds head (leaf w (suc n))) class.Open from at rest total) (λ _. tt)
from-step_class (value_at c ds head v) x class.Close e from at rest total f h = from_closed c (filled (wrap ds (one head v))) _ rest total
from-step_class (done l w n ps m) x class.Space e from at rest total f h = tt
from-step_class s x k e from at rest total f h = tt

-- ---- where the first second key begins

keys_any : (k : List ℕ) (ds : Finished) → list_any (λ (p : List ℕ × Value). bytes_eq k p.0) (finished_params ds) ≡ list_any (bytes_eq k) (keys_of ds)
keys_any k no_entry = refl
keys_any k (with_entry ds head v) = insert_any k (head.key, value_of v) (finished_params ds) ∙ ap (λ u. bytes_eq k head.key || u) (keys_any k ds)

again_at : (c : Context) (ds : Finished) (l : ℕ) (k : List ℕ) (n : ℕ) → is_again (kept_of (key_at c ds l k n)) ≡ list_any (bytes_eq k) (keys_of ds)
again_at c ds l k n = ap (is_key_of k) (last_of-push (opens_below c) (open_of c ds [])) ∙ keys_any k ds

picks : (b : Bool) (from : ℕ) (suffix : List ℕ) (total : ℕ) → from + length suffix ≡ total
    → IsFirst (if b then Some from else None) (if b then suffix ∷ [] else []) total
picks true from suffix total h = (suffix, [], refl, h)
picks false from suffix total h = refl

-- where no second key was before
first_key : (s : State) (x : ℕ) (t : State) (from : ℕ) (rest : List ℕ) (total : ℕ) → step_class s x class.Equals ≡ Some t → IsFrom s from (x ∷ rest) total
    → IsFirst (first_after class.Equals None from (kept_of s)) (key_again s (x ∷ rest)) total
first_key (key_at c ds l q n) x t from rest total h f =
    subst (λ b. IsFirst (if b then Some from else None) (again (keys_of ds) q (spaces n (x ∷ rest))) total) (sym (again_at c ds l q n))
    (picks (list_any (bytes_eq q) (keys_of ds)) from (q ++ spaces n (x ∷ rest)) total f)
first_key s x t from rest total h f = absurd (let none : None ≡ Some t = h in cc)

first_step : (s : State) (x : ℕ) (k : Class) (t : State) (first : Option ℕ) (from : ℕ) (rest : List ℕ) (total : ℕ) → step_class s x k ≡ Some t
    → Gains s x k rest t → IsFrom s from (x ∷ rest) total → IsFirst first (seconds_of s (x ∷ rest)) total
    → IsFirst (first_after k first from (kept_of s)) (seconds_of t rest) total
first_step s x class.Equals t None from rest total h g f i =
    subst (λ u. IsFirst (first_after class.Equals None from (kept_of s)) u total) (sym (g ∙ ap (λ u. u ++ key_again s (x ∷ rest)) i)) (first_key s x t from rest total h f)
first_step s x class.Equals t (Some p) from rest total h g f i =
    (i.0, i.1 ++ key_again s (x ∷ rest), g ∙ ap (λ u. u ++ key_again s (x ∷ rest)) i.2, i.3)
first_step s x k t first from rest total h g f i = subst (λ u. IsFirst first u total) (sym g) i

-- ---- a step

pub stands_none : (text : List ℕ) (kept : Kept) → kept_view kept ≡ nothing
    → Stands text 0 (record { mode = mode.Start; depth = 0; deepest = 0; from = 0; first = None; kept = kept })
unfolding run
stands_none text kept e = record {
  state = start zero;
  read = refl;
  mode_is = refl;
  depth_is = refl;
  shallow = omega arith;
  kept_is = e;
  deepest_is = refl;
  from_is = tt;
  first_is = refl;
}

-- the step of the code and that of the state
same_step : {text : List ℕ} {at : ℕ} {r : Reader} (h : Stands text at r) (x : ℕ) → next_of r.mode r.depth (class x) ≡ option_map brief (step h.state x)
same_step {text} {at} {r} h x =
    ap (λ u. next_of u r.depth (class x)) h.mode_is ∙ ap (λ u. next_of (mode_of h.state) u (class x)) h.depth_is
    ∙ brief-step h.state x (proper-run (take at text) (start zero) h.state tt h.read)

pub stands_stuck : {text : List ℕ} {at : ℕ} {r : Reader} → Stands text at r → at < length text → next_of r.mode r.depth (class (get_or text at 0)) ≡ None → IsSyntaxPlace text at
stands_stuck {text} {at} {r} h lt q = go (step h.state (get_or text at 0)) refl (sym q ∙ same_step h (get_or text at 0))
  where
    go : (o : Option State) → step h.state (get_or text at 0) ≡ o → None ≡ option_map brief o → IsSyntaxPlace text at
    go None e p = syntax_stuck text at h.state lt h.read e
    go (Some t) e p = absurd (let none : None ≡ Some (brief t) = p in cc)

went : {text : List ℕ} {at : ℕ} {r : Reader} (h : Stands text at r) (x : ℕ) (m : Mode) (d : ℕ) → next_of r.mode r.depth (class x) ≡ Some (m, d)
    → (t : State) × (step h.state x ≡ Some t) × (m ≡ mode_of t) × (d ≡ depth_of t)
went h x m d q = go (step h.state x) refl (sym q ∙ same_step h x)
  where
    go : (o : Option State) → step h.state x ≡ o → Some (m, d) ≡ option_map brief o → (t : State) × (step h.state x ≡ Some t) × (m ≡ mode_of t) × (d ≡ depth_of t)
    go None e p = absurd (let none : Some (m, d) ≡ None = p in cc)
    go (Some t) e p = let same : (m, d) ≡ brief t = cc in (t, e, ap (λ (u : Mode × ℕ). u.0) same, ap (λ (u : Mode × ℕ). u.1) same)

drop_here : (text : List ℕ) (at : ℕ) → at < length text → drop at text ≡ get_or text at 0 ∷ drop (at + 1) text
drop_here text at lt = drop-cons text at 0 lt ∙ ap (λ k. get_or text at 0 ∷ drop k text) (sym (add-one at))

pub stands_more : (text : List ℕ) (at : ℕ) (r : Reader) (h : Stands text at r) (m : Mode) (d deepest from : ℕ) (first : Option ℕ) (kept : Kept) → at < length text
    → next_of r.mode r.depth (class (get_or text at 0)) ≡ Some (m, d)
    → d ≤ r.depth + 1
    → kept_view kept ≡ kept_after r.mode (class (get_or text at 0)) (get_or text at 0) (kept_view r.kept)
    → deepest ≡ max r.deepest d
    → from ≡ from_after r.mode (class (get_or text at 0)) r.from at
    → first ≡ first_after (class (get_or text at 0)) r.first r.from (kept_view r.kept)
    → Stands text (at + 1) (record { mode = m; depth = d; deepest = deepest; from = from; first = first; kept = kept })
stands_more text at r h m d deepest from first kept lt q up kq dq fq iq =
    let x = get_or text at 0 in
    let rest = drop (at + 1) text in
    let w = went h x m d q in
    let t = w.0 in
    let here : drop at text ≡ x ∷ rest = drop_here text at lt in
    let total : at + length (x ∷ rest) ≡ length text = ap (λ u. at + length u) (sym here) ∙ (let e = length-drop at text in omega (arith, e)) in
    let from_here : IsFrom h.state r.from (x ∷ rest) (length text) = subst (λ u. IsFrom h.state r.from u (length text)) here h.from_is in
    let first_here : IsFirst r.first (seconds_of h.state (x ∷ rest)) (length text) = subst (λ u. IsFirst r.first (seconds_of h.state u) (length text)) here h.first_is in
    record {
      state = t;
      read = run-take text at h.state lt h.read ∙ w.1;
      mode_is = w.2;
      depth_is = w.3;
      shallow = (let low = h.shallow in omega (arith, up, low));
      kept_is = kq ∙ ap (λ u. kept_after u (class x) x (kept_view r.kept)) h.mode_is ∙ ap (kept_after (mode_of h.state) (class x) x) h.kept_is ∙ kept-step h.state t x w.1;
      deepest_is = dq ∙ ap (λ u. max u d) h.deepest_is ∙ ap (max (deepest_of h.state)) w.3 ∙ sym (deepest-step h.state t x w.1);
      from_is = subst (λ u. IsFrom t u rest (length text)) (sym (fq ∙ ap (λ u. from_after u (class x) r.from at) h.mode_is))
          (of_step (step h.state x) (Moves h.state (class x) r.from at rest (length text)) t
          (from-step_class h.state x (class x) (IsOf-class x) r.from at rest (length text) from_here total) w.1);
      first_is = subst (λ u. IsFirst u (seconds_of t rest) (length text)) (sym (iq ∙ ap (first_after (class x) r.first r.from) h.kept_is))
          (first_step h.state x (class x) t r.first r.from rest (length text) w.1 (seconds-step h.state t x rest w.1) from_here first_here);
    }
