-- A text leads to the end of a tree exactly where it is in the grammar, and to its syntax place where
-- it isn't.
use Rattle.std.proofs.Common.{◌≡◌, ◌<◌, ◌≤◌, ◌+◌, ℕ, zero, List, [], ◌∷◌, ◌++◌, length, take, drop, get_or, refl, sym, ◌∙◌, ap, append_assoc, append-nil, Option, Some, None, subst, arith, take-append-drop}
use Rattle.std.specs.Prelude.{option_and_then}
use Rattle.std.proofs.lemmas.List.{take_more, take-take}
use Rattle.std.proofs.Math.Seq.{take-length}
use Rattle.spiel_string.specs.Alphabet.{spaces}
use Rattle.spiel_string.specs.Grammar.{Node, leaf, call, spell, IsProperTop, Whole, Spells, InGrammar, IsViable, IsSyntaxPlace}
use Rattle.spiel_string.specs.Partial.{State, start, outer, done, shown, IsStateProper, step, run, final, end_at}
use Rattle.spiel_string.proofs.Completion.{viable-run}
use Rattle.spiel_string.proofs.Proper.{proper-run}
use Rattle.spiel_string.proofs.Running.{run-leaf, run-call}
use Rattle.spiel_string.proofs.Shown.{shown-run}

run-append : (xs ys : List ℕ) (s : State) → run s (xs ++ ys) ≡ option_and_then (λ t. run t ys) (run s xs)
unfolding run
run-append [] ys s = refl
run-append (x ∷ xs) ys s = go (step s x) (λ u. run-append xs ys u)
  where
    go : (o : Option State) → ((u : State) → run u (xs ++ ys) ≡ option_and_then (λ t. run t ys) (run u xs))
        → option_and_then (λ t. run t (xs ++ ys)) o ≡ option_and_then (λ t. run t ys) (option_and_then (λ t. run t xs) o)
    go None next = refl
    go (Some u) next = next u

-- the state after one byte more of a text
pub run-take : (text : List ℕ) (i : ℕ) (s : State) → i < length text → run (start zero) (take i text) ≡ Some s
    → run (start zero) (take (i + 1) text) ≡ step s (get_or text i 0)
unfolding run
run-take text i s lt h =
    ap (run (start zero)) (take_more text i 0 lt) ∙ run-append (take i text) (get_or text i 0 ∷ []) (start zero)
    ∙ ap (option_and_then (λ u. run u (get_or text i 0 ∷ []))) h ∙ only (step s (get_or text i 0))
  where
    only : (o : Option State) → option_and_then (λ u. run u []) o ≡ o
    only None = refl
    only (Some u) = refl

-- ---- texts of the grammar

run-end : (l : ℕ) (v : Node) → IsProperTop v → run (start zero) (spaces l (spell v [])) ≡ Some (end_at l v)
unfolding run
run-end l (leaf w n) h = run-leaf l w n [] h
run-end l (call w n ps m) h = run-call l w n ps m [] h.0 h.1

-- a text of the grammar leads to the end of its tree
run-spelled : (t : Whole) (text : List ℕ) → Spells t text → run (start zero) text ≡ Some (end_at t.lead t.top)
run-spelled t text h = ap (run (start zero)) h.same ∙ run-end t.lead t.top h.proper

final-end_at : (l : ℕ) (v : Node) → final (end_at l v) ≡ Some (record { lead = l; top = v })
final-end_at l (leaf w n) = refl
final-end_at l (call w n ps m) = refl

-- where a text may end, it spells the tree
pub spelled-run : (text : List ℕ) (s : State) (t : Whole) → run (start zero) text ≡ Some s → final s ≡ Some t → Spells t text
spelled-run text s t h f =
    go s (proper-run text (start zero) s tt h) f (sym (append-nil text) ∙ shown-run text (start zero) s [] h)
  where
    go : (u : State) → IsStateProper u → final u ≡ Some t → text ≡ shown u [] → Spells t text
    go (outer l w n) p e q =
        let same : record { lead = l; top = leaf w n } ≡ t = cc in subst (λ (t : Whole). Spells t text) same (record { proper = p; same = q })
    go (done l w n ps m) p e q =
        let same : record { lead = l; top = call w n ps m } ≡ t = cc in subst (λ (t : Whole). Spells t text) same (record { proper = p; same = q })
    go u p e q = absurd (let none : None ≡ Some t = e in cc)

-- the one tree of a text
pub one_tree : (t u : Whole) (text : List ℕ) → Spells t text → Spells u text → t ≡ u
one_tree t u text h q =
    let e : Some (end_at t.lead t.top) ≡ Some (end_at u.lead u.top) = sym (run-spelled t text h) ∙ run-spelled u text q in
    let f : end_at t.lead t.top ≡ end_at u.lead u.top = cc in
    let g : Some t ≡ Some u = sym (final-end_at t.lead t.top) ∙ ap final f ∙ final-end_at u.lead u.top in
    cc

-- ---- other texts

-- where no state is reached, no text of the grammar begins so
not_viable : (xs : List ℕ) → run (start zero) xs ≡ None → IsViable xs → ⊥
not_viable xs h v =
    let whole : run (start zero) (xs ++ v.0) ≡ Some (end_at v.1.0.lead v.1.0.top) = run-spelled v.1.0 (xs ++ v.0) v.1.1 in
    let gone : run (start zero) (xs ++ v.0) ≡ None = run-append xs v.0 (start zero) ∙ ap (option_and_then (λ u. run u v.0)) h in
    let bad : None ≡ Some (end_at v.1.0.lead v.1.0.top) = sym gone ∙ whole in cc

viable-front : (xs ys : List ℕ) → IsViable (xs ++ ys) → IsViable xs
viable-front xs ys v = (ys ++ v.0, subst InGrammar (append_assoc xs ys v.0) v.1)

front_of : (text : List ℕ) (k j : ℕ) → j ≤ k → take k text ≡ take j text ++ drop j (take k text)
front_of text k j le = sym (take-append-drop j (take k text)) ∙ ap (λ u. u ++ drop j (take k text)) (take-take j k text le)

-- a text that leads to a state at which none may end
pub syntax_end : (text : List ℕ) (s : State) → run (start zero) text ≡ Some s → final s ≡ None → IsSyntaxPlace text (length text)
syntax_end text s h f = record {
  refused = λ g.
      let e : Some (end_at g.0.lead g.0.top) ≡ Some s = sym (run-spelled g.0 text g.1) ∙ h in
      let e' : end_at g.0.lead g.0.top ≡ s = cc in
      let bad : Some g.0 ≡ None = sym (final-end_at g.0.lead g.0.top) ∙ ap final e' ∙ f in cc;
  within = omega arith;
  front = subst IsViable (sym (take-length text)) (viable-run text s h);
  longest = λ k lt le v. absurd (omega arith);
}

-- a text with a byte that can't stand where it does
pub syntax_stuck : (text : List ℕ) (i : ℕ) (s : State) → i < length text → run (start zero) (take i text) ≡ Some s → step s (get_or text i 0) ≡ None
    → IsSyntaxPlace text i
syntax_stuck text i s lt h stuck =
    let none : (k : ℕ) → i < k → k ≤ length text → IsViable (take k text) → ⊥ = λ k lk le v.
    not_viable (take (i + 1) text) (run-take text i s lt h ∙ stuck)
    (viable-front (take (i + 1) text) (drop (i + 1) (take k text)) (subst IsViable (front_of text k (i + 1) (omega arith)) v)) in
    record {
      refused = λ g. none (length text) lt (omega arith) (subst IsViable (sym (take-length text)) ([], subst InGrammar (sym (append-nil text)) g));
      within = omega arith;
      front = viable-run (take i text) s h;
      longest = none;
    }
