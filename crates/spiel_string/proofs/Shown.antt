-- What was read is what the state shows.
use Rattle.std.proofs.Common.{◌≡◌, ℕ, zero, suc, Bool, true, false, List, [], ◌∷◌, ◌++◌, refl, sym, ◌∙◌, ap, subst, append_assoc, Option, Some, None}
use Rattle.std.specs.Prelude.{IfSome, if◌then◌else◌, option_and_then}
use Rattle.spiel_string.specs.Alphabet.{is_name, spaces}
use Rattle.spiel_string.specs.Grammar.{Head, Node, leaf, call, Brackets, empty, filled, Entries, one, and, spell, spell_head, spell_brackets, spell_entries}
use Rattle.spiel_string.specs.Partial.{Finished, no_entry, with_entry, shown_finished, wrap, Context, outermost, within, front, State, start, outer, open_at, key_at, value_due, value_at, done, shown, spaced, closed, outer_word, key_word, close_empty, value_word, value_open, step_class, step, run}
use Rattle.spiel_string.specs.Scan.{class}
use Rattle.spiel_string.specs.declared.scan.Class.{Class}
use Rattle.spiel_string.specs.declared.scan.Class.TheVariants.{Space, Open, Close, Comma, Equals, Lower, NameRest, WordRest}
use Rattle.spiel_string.proofs.Alphabet.{IsOf, IsOf-class}

-- ---- steps that may be none

-- a step that is made only where a test passes
pub only_where : (b : Bool) (t : State) (P : State → Type 0) → (b ≡ true → P t) → IfSome (if b then Some t else None) P
only_where true t P h = h refl
only_where false t P h = tt

-- what holds of each step holds of the step that was made
pub of_step : (o : Option State) (P : State → Type 0) (t : State) → IfSome o P → o ≡ Some t → P t
of_step None P t p q = absurd (let none : None ≡ Some t = q in cc)
of_step (Some u) P t p q = let same : u ≡ t = cc in subst P same p

-- ---- the text

pub spell-spaced : (v : Node) (rest : List ℕ) → spell v (32 ∷ rest) ≡ spell (spaced v) rest
spell-spaced (leaf w n) rest = refl
spell-spaced (call w n ps m) rest = refl

pub spell-wrap : (ds : Finished) (es : Entries) (rest : List ℕ) → spell_entries (wrap ds es) rest ≡ shown_finished ds (spell_entries es rest)
spell-wrap no_entry es rest = refl
spell-wrap (with_entry ds head v) es rest = spell-wrap ds (and head v es) rest

shown-closed : (c : Context) (ps : Brackets) (rest : List ℕ) → shown (closed c ps) rest ≡ front c (spell_brackets ps (41 ∷ rest))
shown-closed (outermost l w n) ps rest = refl
shown-closed (within c ds head w n) ps rest = refl

-- one byte more of a word
grow : (f : List ℕ → List ℕ) (w : List ℕ) (x : ℕ) (rest : List ℕ) → f (w ++ x ∷ rest) ≡ f ((w ++ x ∷ []) ++ rest)
grow f w x rest = ap f (sym (append_assoc w (x ∷ []) rest))

-- the text up to a value, and then the rest
abbrev before_value : Context → Finished → Head → List ℕ → List ℕ
before_value c ds head rest = front c (shown_finished ds (spell_head head rest))

-- a byte carries on what a state shows
abbrev Carries : State → ℕ → List ℕ → State → Type 0
Carries s x rest t = shown s (x ∷ rest) ≡ shown t rest

outer_word_shown : (l : ℕ) (w : List ℕ) (n x : ℕ) (rest : List ℕ) → IfSome (outer_word l w n x) (Carries (outer l w n) x rest)
outer_word_shown l w zero x rest = grow (spaces l) w x rest
outer_word_shown l w (suc n) x rest = tt

key_word_shown : (c : Context) (ds : Finished) (l : ℕ) (k : List ℕ) (n x : ℕ) (rest : List ℕ) → IfSome (key_word c ds l k n x) (Carries (key_at c ds l k n) x rest)
key_word_shown c ds l k zero x rest = grow (λ r. front c (shown_finished ds (spaces l r))) k x rest
key_word_shown c ds l k (suc n) x rest = tt

close_empty_shown : (c : Context) (ds : Finished) (l x : ℕ) (rest : List ℕ) → x ≡ 41 → IfSome (close_empty c ds l) (Carries (open_at c ds l) x rest)
close_empty_shown c no_entry l x rest e = ap (λ y. front c (spaces l (y ∷ rest))) e ∙ sym (shown-closed c (empty l) rest)
close_empty_shown c (with_entry ds head v) l x rest e = tt

value_word_shown : (c : Context) (ds : Finished) (head : Head) (v : Node) (x : ℕ) (rest : List ℕ) → IfSome (value_word c ds head v x) (Carries (value_at c ds head v) x rest)
value_word_shown c ds head (leaf w zero) x rest = grow (before_value c ds head) w x rest
value_word_shown c ds head v x rest = tt

value_open_shown : (c : Context) (ds : Finished) (head : Head) (v : Node) (x : ℕ) (rest : List ℕ) → x ≡ 40 → IfSome (value_open c ds head v) (Carries (value_at c ds head v) x rest)
value_open_shown c ds head (leaf w n) x rest e =
    only_where (is_name w) (open_at (within c ds head w n) no_entry zero) (Carries (value_at c ds head (leaf w n)) x rest)
    (λ _. ap (λ y. before_value c ds head (w ++ spaces n (y ∷ rest))) e)
value_open_shown c ds head (call w n ps m) x rest e = tt

shown-step_class : (s : State) (x : ℕ) (k : Class) → IsOf k x → (rest : List ℕ) → IfSome (step_class s x k) (Carries s x rest)
shown-step_class (start n) x Space e rest = ap (λ y. spaces n (y ∷ rest)) e
shown-step_class (start n) x Lower e rest = refl
shown-step_class (outer l w n) x Space e rest = ap (λ y. spaces l (w ++ spaces n (y ∷ rest))) e
shown-step_class (outer l w n) x Lower e rest = outer_word_shown l w n x rest
shown-step_class (outer l w n) x NameRest e rest = outer_word_shown l w n x rest
shown-step_class (outer l w n) x Open e rest = ap (λ y. spaces l (w ++ spaces n (y ∷ rest))) e
shown-step_class (open_at c ds l) x Space e rest = ap (λ y. front c (shown_finished ds (spaces l (y ∷ rest)))) e
shown-step_class (open_at c ds l) x Lower e rest = refl
shown-step_class (open_at c ds l) x Close e rest = close_empty_shown c ds l x rest e
shown-step_class (key_at c ds l k n) x Space e rest = ap (λ y. front c (shown_finished ds (spaces l (k ++ spaces n (y ∷ rest))))) e
shown-step_class (key_at c ds l k n) x Lower e rest = key_word_shown c ds l k n x rest
shown-step_class (key_at c ds l k n) x NameRest e rest = key_word_shown c ds l k n x rest
shown-step_class (key_at c ds l k n) x Equals e rest = ap (λ y. front c (shown_finished ds (spaces l (k ++ spaces n (y ∷ rest))))) e
shown-step_class (value_due c ds head) x Space e rest = ap (λ y. before_value c ds head (y ∷ rest)) e
shown-step_class (value_due c ds head) x Lower e rest = refl
shown-step_class (value_due c ds head) x NameRest e rest = refl
shown-step_class (value_due c ds head) x WordRest e rest = refl
shown-step_class (value_at c ds head v) x Space e rest =
    ap (λ y. before_value c ds head (spell v (y ∷ rest))) e ∙ ap (before_value c ds head) (spell-spaced v rest)
shown-step_class (value_at c ds head v) x Lower e rest = value_word_shown c ds head v x rest
shown-step_class (value_at c ds head v) x NameRest e rest = value_word_shown c ds head v x rest
shown-step_class (value_at c ds head v) x WordRest e rest = value_word_shown c ds head v x rest
shown-step_class (value_at c ds head v) x Open e rest = value_open_shown c ds head v x rest e
shown-step_class (value_at c ds head v) x Comma e rest = ap (λ y. before_value c ds head (spell v (y ∷ rest))) e
shown-step_class (value_at c ds head v) x Close e rest =
    ap (λ y. before_value c ds head (spell v (y ∷ rest))) e
    ∙ ap (front c) (sym (spell-wrap ds (one head v) (41 ∷ rest)))
    ∙ sym (shown-closed c (filled (wrap ds (one head v))) rest)
shown-step_class (done l w n ps m) x Space e rest = ap (λ y. spaces l (spell (call w n ps m) (y ∷ rest))) e
shown-step_class s x k e rest = tt

-- the text that was read is what the state shows
pub shown-run : (xs : List ℕ) (s t : State) (rest : List ℕ) → run s xs ≡ Some t → shown s (xs ++ rest) ≡ shown t rest
unfolding run
shown-run [] s t rest h = let e : s ≡ t = cc in ap (λ u. shown u rest) e
shown-run (x ∷ xs) s t rest h = go (step s x) (shown-step_class s x (class x) (IsOf-class x) (xs ++ rest)) h (λ u. shown-run xs u t rest)
  where
    go : (o : Option State) → IfSome o (Carries s x (xs ++ rest)) → option_and_then (λ u. run u xs) o ≡ Some t
        → ((u : State) → run u xs ≡ Some t → shown u (xs ++ rest) ≡ shown t rest) → shown s (x ∷ (xs ++ rest)) ≡ shown t rest
    go None p q next = absurd (let none : None ≡ Some t = q in cc)
    go (Some u) p q next = p ∙ next u q
