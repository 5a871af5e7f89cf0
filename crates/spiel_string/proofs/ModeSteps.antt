-- The mode and the depth go with the state.
use Rattle.std.proofs.Common.{◌≡◌, ◌≤◌, ◌+◌, ◌-◌, ℕ, zero, suc, Bool, true, false, eqb, List, [], ◌∷◌, ◌++◌, refl, sym, ◌∙◌, ap, Option, Some, None, arith, ◌⊎◌, inl, inr, subst}
use Rattle.std.specs.Prelude.{◌&&◌, if◌then◌else◌, option_map, is_some}
use Rattle.std.specs.List.{list_all}
use Rattle.std.proofs.lemmas.Bool.{or_left, or_right, true≢false}
use Rattle.std.proofs.lemmas.Bool.Decides.{nat_tests}
use Rattle.std.proofs.lemmas.List.Folds.{list_all-append}
use Rattle.spiel_string.specs.Alphabet.{is_name, is_word, is_lower, is_name_byte}
use Rattle.spiel_string.specs.Grammar.{Head, leaf, call, Brackets, empty, filled, one}
use Rattle.spiel_string.specs.Modes.{after_close, next_of, depth_in, depth_of, mode_of, word_mode, may_end}
use Rattle.spiel_string.specs.Partial.{Finished, no_entry, with_entry, wrap, Context, outermost, within, State, start, outer, open_at, key_at, value_due, value_at, done, IsStateProper, closed, step_class, step, final}
use Rattle.spiel_string.specs.Scan.{class}
use Rattle.spiel_string.specs.declared.scan.Class.{Class}
use Rattle.spiel_string.specs.declared.scan.Class.TheVariants.{Space, Open, Close, Lower, NameRest, WordRest}
use Rattle.spiel_string.specs.declared.scan.Mode.{Mode}
use Rattle.spiel_string.specs.declared.scan.Mode.TheVariants as mode
use Rattle.spiel_string.proofs.Alphabet.{class-lower, class-name, IsOf, IsOf-class, is_one}

-- what the code keeps of a state
abbrev pub brief : State → Mode × ℕ
brief s = (mode_of s, depth_of s)

depth_in-positive : (c : Context) → 1 ≤ depth_in c
depth_in-positive (outermost l w n) = omega arith
depth_in-positive (within c ds head w n) = omega arith

brief-closed : (c : Context) (ps : Brackets) → after_close (depth_in c) ≡ Some (brief (closed c ps))
brief-closed (outermost l w n) ps = refl
brief-closed (within c ds head w n) ps = go (eqb (depth_in c + 1) 1) (not_one (depth_in c) (depth_in-positive c))
  where
    not_one : (n : ℕ) → 1 ≤ n → eqb (n + 1) 1 ≡ false
    not_one n le = grind (arith, nat_tests)

    go : (b : Bool) → b ≡ false → if◌then◌else◌ {A = Option (Mode × ℕ)} b (Some (mode.Done, 0)) (Some (mode.After, depth_in c + 1 - 1)) ≡ Some (mode.After, depth_in c)
    go true e = absurd (true≢false e)
    go false e = ap (λ (d : ℕ). Some (mode.After, d)) (omega arith)

-- ---- bytes and words

lower_byte : (x : ℕ) → class x ≡ Lower → is_lower x ≡ true
lower_byte x e = subst (λ (k : Class). IsOf k x) e (IsOf-class x)

name_lower : (x : ℕ) → class x ≡ Lower → is_name_byte x ≡ true
name_lower x e = or_left (is_lower x) _ (lower_byte x e)

name_rest : (x : ℕ) → class x ≡ NameRest → is_name_byte x ≡ true
name_rest x e = or_right (is_lower x) _ (subst (λ (k : Class). IsOf k x) e (IsOf-class x))

not_lower : (x : ℕ) → (class x ≡ Lower → ⊥) → is_lower x ≡ false
not_lower x never = go (is_lower x) refl
  where
    go : (b : Bool) → is_lower x ≡ b → b ≡ false
    go true h = absurd (never (class-lower x h))
    go false h = refl

not_name : (x : ℕ) → ((class x ≡ Lower) ⊎ (class x ≡ NameRest) → ⊥) → is_name_byte x ≡ false
not_name x never = go (is_name_byte x) refl
  where
    go : (b : Bool) → is_name_byte x ≡ b → b ≡ false
    go true h = absurd (never (class-name x h))
    go false h = refl

neither : (x : ℕ) → class x ≡ WordRest → (class x ≡ Lower) ⊎ (class x ≡ NameRest) → ⊥
neither x e (inl h) = let bad : WordRest ≡ Lower = sym e ∙ h in cc
neither x e (inr h) = let bad : WordRest ≡ NameRest = sym e ∙ h in cc

and_assoc : (a b c : Bool) → (a && (b && c)) ≡ ((a && b) && c)
and_assoc true b c = refl
and_assoc false b c = refl

and_true : (a : Bool) → (a && true) ≡ a
and_true true = refl
and_true false = refl

-- a word with one byte more is a name where the word is one and the byte is of names
is_name-snoc : (w : List ℕ) (x : ℕ) (q b : Bool) → is_word w ≡ true → is_name w ≡ q → is_name_byte x ≡ b → is_name (w ++ x ∷ []) ≡ (q && b)
is_name-snoc [] x q b h e f = absurd (true≢false (sym h))
is_name-snoc (y ∷ w) x q b h e f =
    ap (λ u. is_lower y && u) (list_all-append is_name_byte w (x ∷ []) ∙ ap (λ u. list_all is_name_byte w && u) (and_true (is_name_byte x)))
    ∙ and_assoc (is_lower y) (list_all is_name_byte w) (is_name_byte x) ∙ ap (λ u. u && is_name_byte x) e ∙ ap (λ u. q && u) f

-- ---- the step of each state

module _ (c : Context) (ds : Finished) (head : Head) where
  -- the mode in a word that is a name or none
  word_is : (w : List ℕ) (q : Bool) → is_name w ≡ q → Some (word_mode q zero, depth_in c) ≡ Some (brief (value_at c ds head (leaf w zero)))
  word_is w q e = ap (λ u. Some (word_mode u zero, depth_in c)) (sym e)

  brief_leaf : (q : Bool) (w : List ℕ) (n : ℕ) (k : Class) (x : ℕ) → is_name w ≡ q → is_word w ≡ true → class x ≡ k
      → next_of (word_mode q n) (depth_in c) k ≡ option_map brief (step_class (value_at c ds head (leaf w n)) x k)
  brief_leaf true w zero Lower x e h f = word_is (w ++ x ∷ []) true (is_name-snoc w x true true h e (name_lower x f))
  brief_leaf true w zero NameRest x e h f = word_is (w ++ x ∷ []) true (is_name-snoc w x true true h e (name_rest x f))
  brief_leaf true w zero WordRest x e h f = word_is (w ++ x ∷ []) false (is_name-snoc w x true false h e (not_name x (neither x f)))
  brief_leaf false w zero Lower x e h f = word_is (w ++ x ∷ []) false (is_name-snoc w x false _ h e refl)
  brief_leaf false w zero NameRest x e h f = word_is (w ++ x ∷ []) false (is_name-snoc w x false _ h e refl)
  brief_leaf false w zero WordRest x e h f = word_is (w ++ x ∷ []) false (is_name-snoc w x false _ h e refl)
  brief_leaf q w n Space x e h f = ap (λ u. Some (word_mode u (suc n), depth_in c)) (sym e)
  brief_leaf q w n Open x e h f = ap (λ u. option_map brief (if u then Some (open_at (within c ds head w n) no_entry zero) else None)) (sym e)
  brief_leaf q w n Close x e h f = brief-closed c (filled (wrap ds (one head (leaf w n))))
  brief_leaf q w n k x e h f = refl

brief-step_class : (s : State) (x : ℕ) (k : Class) → IsStateProper s → class x ≡ k → next_of (mode_of s) (depth_of s) k ≡ option_map brief (step_class s x k)
brief-step_class (start n) x Space h e = refl
brief-step_class (outer l w zero) x Space h e = refl
brief-step_class (outer l w (suc n)) x Space h e = refl
brief-step_class (open_at c no_entry l) x Close h e = brief-closed c (empty l)
brief-step_class (open_at c (with_entry ds head v) l) x Space h e = refl
brief-step_class (key_at c ds l k zero) x Space h e = refl
brief-step_class (key_at c ds l k (suc n)) x Space h e = refl
brief-step_class (value_due c ds head) x Lower h e = word_is c ds head (x ∷ []) true (is_one is_lower x (lower_byte x e))
brief-step_class (value_due c ds head) x NameRest h e = word_is c ds head (x ∷ []) false (and_true (is_lower x) ∙ not_lower x (λ f. let bad : NameRest ≡ Lower = sym e ∙ f in cc))
brief-step_class (value_due c ds head) x WordRest h e = word_is c ds head (x ∷ []) false (and_true (is_lower x) ∙ not_lower x (λ f. neither x e (inl f)))
brief-step_class (value_at c ds head (leaf w n)) x k h e = brief_leaf c ds head (is_name w) w n k x refl h.3 e
brief-step_class (value_at c ds head (call w n ps m)) x Close h e = brief-closed c (filled (wrap ds (one head (call w n ps m))))
brief-step_class (done l w n ps m) x Space h e = refl
brief-step_class s x k h e = refl

pub brief-step : (s : State) (x : ℕ) → IsStateProper s → next_of (mode_of s) (depth_of s) (class x) ≡ option_map brief (step s x)
brief-step s x h = brief-step_class s x (class x) h refl

-- ---- the end of a text

may_end-value : (b : Bool) (n : ℕ) → may_end (word_mode b n) ≡ false
may_end-value true zero = refl
may_end-value true (suc n) = refl
may_end-value false zero = refl
may_end-value false (suc n) = refl

pub may_end-mode_of : (s : State) → may_end (mode_of s) ≡ is_some (final s)
may_end-mode_of (outer l w zero) = refl
may_end-mode_of (open_at c no_entry l) = refl
may_end-mode_of (key_at c ds l k zero) = refl
may_end-mode_of (value_at c ds head (leaf w n)) = may_end-value (is_name w) n
may_end-mode_of s = refl
