-- How deep brackets nest goes with the state.
use Rattle.std.proofs.Common.{◌≡◌, ◌≤◌, ◌+◌, ℕ, zero, suc, max, List, [], ◌∷◌, ◌++◌, refl, sym, ◌∙◌, ap, Some, arith}
use Rattle.std.specs.Prelude.{IfSome}
use Rattle.spiel_string.specs.Alphabet.{is_name}
use Rattle.spiel_string.specs.Grammar.{Head, Node, leaf, call, Brackets, empty, filled, Entries, one, and}
use Rattle.spiel_string.specs.Modes.{depth_in, depth_of}
use Rattle.spiel_string.specs.Nesting.{nesting, brackets_nesting, entries_nesting}
use Rattle.spiel_string.specs.Partial.{Finished, no_entry, with_entry, wrap, Context, outermost, within, State, start, outer, open_at, key_at, value_due, value_at, done, with_gap, spaced, closed, key_word, close_empty, value_word, value_open, step_class, step}
use Rattle.spiel_string.specs.Progress.{finished_nesting, deep_in, deepest_of}
use Rattle.spiel_string.specs.Scan.{class}
use Rattle.spiel_string.specs.declared.scan.Class.{Class}
use Rattle.spiel_string.specs.declared.scan.Class.TheVariants as class
use Rattle.spiel_string.proofs.Shown.{only_where, of_step}

deep_in-max : (c : Context) (m j : ℕ) → deep_in c (max m j) ≡ max (deep_in c m) (depth_in c + j)
deep_in-max (outermost l w n) m j = omega arith
deep_in-max (within c ds head w n) m j =
    ap (deep_in c) (regroup (finished_nesting ds) m j) ∙ deep_in-max c (max (finished_nesting ds) (suc m)) (suc j)
    ∙ last (deep_in c (max (finished_nesting ds) (suc m))) (depth_in c)
  where
    regroup : (d m j : ℕ) → max d (suc (max m j)) ≡ max (max d (suc m)) (suc j)
    regroup d m j = omega arith

    last : (x y : ℕ) → max x (y + suc j) ≡ max x (y + 1 + j)
    last x y = omega arith

max_zero : (m : ℕ) → max m 0 ≡ m
max_zero m = omega arith

depth_le : (c : Context) (m : ℕ) → depth_in c ≤ deep_in c m
depth_le c m = let e : deep_in c m ≡ max (deep_in c m) (depth_in c + 0) = ap (deep_in c) (sym (max_zero m)) ∙ deep_in-max c m 0 in omega (arith, e)

entries_nesting-wrap : (ds : Finished) (es : Entries) → entries_nesting (wrap ds es) ≡ max (finished_nesting ds) (entries_nesting es)
entries_nesting-wrap no_entry es = omega arith
entries_nesting-wrap (with_entry ds head v) es = entries_nesting-wrap ds (and head v es) ∙ regroup (finished_nesting ds) (nesting v) (entries_nesting es)
  where
    regroup : (x y z : ℕ) → max x (max y z) ≡ max (max x y) z
    regroup x y z = omega arith

nesting-spaced : (v : Node) → nesting (spaced v) ≡ nesting v
nesting-spaced (leaf w n) = refl
nesting-spaced (call w n ps m) = refl

-- the deepest after a byte is the deepest before it or the depth after it
abbrev Deepens : State → State → Type 0
Deepens s t = deepest_of t ≡ max (deepest_of s) (depth_of t)

-- where the deepest stays
stays : (c : Context) (m : ℕ) (s t : State) → deepest_of s ≡ deep_in c m → deepest_of t ≡ deep_in c m → depth_of t ≤ depth_in c → Deepens s t
stays c m s t p q le = let deep = depth_le c m in omega (arith, p, q, le, deep)

deepest-closed : (c : Context) (ps : Brackets) (m : ℕ) → brackets_nesting ps ≡ m → deepest_of (closed c ps) ≡ deep_in c m
deepest-closed (outermost l w n) ps m e = ap (λ k. suc k) e
deepest-closed (within c ds head w n) ps m e = ap (λ k. deep_in c (max (finished_nesting ds) (suc k))) e

depth-closed : (c : Context) (ps : Brackets) → depth_of (closed c ps) ≤ depth_in c
depth-closed (outermost l w n) ps = omega arith
depth-closed (within c ds head w n) ps = omega arith

-- ---- the step of each state

key_word_deepens : (c : Context) (ds : Finished) (l : ℕ) (k : List ℕ) (n x : ℕ) → IfSome (key_word c ds l k n x) (Deepens (key_at c ds l k n))
key_word_deepens c ds l k zero x = stays c (finished_nesting ds) (key_at c ds l k zero) (key_at c ds l (k ++ x ∷ []) zero) refl refl (omega arith)
key_word_deepens c ds l k (suc n) x = tt

close_empty_deepens : (c : Context) (ds : Finished) (l : ℕ) → IfSome (close_empty c ds l) (Deepens (open_at c ds l))
close_empty_deepens c no_entry l = stays c 0 (open_at c no_entry l) (closed c (empty l)) refl (deepest-closed c (empty l) 0 refl) (depth-closed c (empty l))
close_empty_deepens c (with_entry ds head v) l = tt

module _ (c : Context) (ds : Finished) (head : Head) where
  -- a value for another that nests as deep
  value_deepens : (v u : Node) → nesting u ≡ nesting v → Deepens (value_at c ds head v) (value_at c ds head u)
  value_deepens v u e =
      stays c (max (finished_nesting ds) (nesting v)) (value_at c ds head v) (value_at c ds head u) refl (ap (λ m. deep_in c (max (finished_nesting ds) m)) e) (omega arith)

  due_deepens : (x : ℕ) → Deepens (value_due c ds head) (value_at c ds head (leaf (x ∷ []) zero))
  due_deepens x = stays c (finished_nesting ds) (value_due c ds head) (value_at c ds head (leaf (x ∷ []) zero)) refl (ap (deep_in c) (max_zero (finished_nesting ds))) (omega arith)

  value_word_deepens : (v : Node) (x : ℕ) → IfSome (value_word c ds head v x) (Deepens (value_at c ds head v))
  value_word_deepens (leaf w zero) x = value_deepens (leaf w zero) (leaf (w ++ x ∷ []) zero) refl
  value_word_deepens v x = tt

  value_open_deepens : (v : Node) → IfSome (value_open c ds head v) (Deepens (value_at c ds head v))
  value_open_deepens (leaf w n) =
      only_where (is_name w) (open_at (within c ds head w n) no_entry zero) (Deepens (value_at c ds head (leaf w n)))
      (λ _. deep_in-max c (finished_nesting ds) 1 ∙ ap (λ m. max (deep_in c m) (depth_in c + 1)) (sym (max_zero (finished_nesting ds))))
  value_open_deepens (call w n ps m) = tt

  close_deepens : (v : Node) → Deepens (value_at c ds head v) (closed c (filled (wrap ds (one head v))))
  close_deepens v =
      stays c (max (finished_nesting ds) (nesting v)) (value_at c ds head v) (closed c (filled (wrap ds (one head v)))) refl
      (deepest-closed c (filled (wrap ds (one head v))) (max (finished_nesting ds) (nesting v)) (entries_nesting-wrap ds (one head v)))
      (depth-closed c (filled (wrap ds (one head v))))

deepest-step_class : (s : State) (x : ℕ) (k : Class) → IfSome (step_class s x k) (Deepens s)
deepest-step_class (start n) x class.Space = refl
deepest-step_class (start n) x class.Lower = refl
deepest-step_class (outer l w n) x class.Space = refl
deepest-step_class (outer l w zero) x class.Lower = refl
deepest-step_class (outer l w zero) x class.NameRest = refl
deepest-step_class (outer l w n) x class.Open = refl
deepest-step_class (open_at c ds l) x class.Space = stays c (finished_nesting ds) (open_at c ds l) (open_at c ds (suc l)) refl refl (omega arith)
deepest-step_class (open_at c ds l) x class.Lower = stays c (finished_nesting ds) (open_at c ds l) (key_at c ds l (x ∷ []) zero) refl refl (omega arith)
deepest-step_class (open_at c ds l) x class.Close = close_empty_deepens c ds l
deepest-step_class (key_at c ds l q n) x class.Space = stays c (finished_nesting ds) (key_at c ds l q n) (key_at c ds l q (suc n)) refl refl (omega arith)
deepest-step_class (key_at c ds l q n) x class.Lower = key_word_deepens c ds l q n x
deepest-step_class (key_at c ds l q n) x class.NameRest = key_word_deepens c ds l q n x
deepest-step_class (key_at c ds l q n) x class.Equals =
    stays c (finished_nesting ds) (key_at c ds l q n) (value_due c ds (record { before_key = l; key = q; after_key = n; after_equals = zero })) refl refl (omega arith)
deepest-step_class (value_due c ds head) x class.Space = stays c (finished_nesting ds) (value_due c ds head) (value_due c ds (with_gap head (suc head.after_equals))) refl refl (omega arith)
deepest-step_class (value_due c ds head) x class.Lower = due_deepens c ds head x
deepest-step_class (value_due c ds head) x class.NameRest = due_deepens c ds head x
deepest-step_class (value_due c ds head) x class.WordRest = due_deepens c ds head x
deepest-step_class (value_at c ds head v) x class.Space = value_deepens c ds head v (spaced v) (nesting-spaced v)
deepest-step_class (value_at c ds head v) x class.Lower = value_word_deepens c ds head v x
deepest-step_class (value_at c ds head v) x class.NameRest = value_word_deepens c ds head v x
deepest-step_class (value_at c ds head v) x class.WordRest = value_word_deepens c ds head v x
deepest-step_class (value_at c ds head v) x class.Open = value_open_deepens c ds head v
deepest-step_class (value_at c ds head v) x class.Comma =
    stays c (max (finished_nesting ds) (nesting v)) (value_at c ds head v) (open_at c (with_entry ds head v) zero) refl refl (omega arith)
deepest-step_class (value_at c ds head v) x class.Close = close_deepens c ds head v
deepest-step_class (done l w n ps m) x class.Space = sym (max_zero (suc (brackets_nesting ps)))
deepest-step_class s x k = tt

pub deepest-step : (s t : State) (x : ℕ) → step s x ≡ Some t → deepest_of t ≡ max (deepest_of s) (depth_of t)
deepest-step s t x h = of_step (step s x) (Deepens s) t (deepest-step_class s x (class x)) h
