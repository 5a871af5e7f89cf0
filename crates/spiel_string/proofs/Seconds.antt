-- The second keys go with the state.
use Rattle.std.proofs.Common.{◌≡◌, ℕ, zero, suc, List, [], ◌∷◌, ◌++◌, refl, sym, ◌∙◌, ap, append_assoc, append-nil, Some}
use Rattle.std.specs.Prelude.{IfSome}
use Rattle.spiel_string.specs.Alphabet.{is_name, spaces}
use Rattle.spiel_string.specs.Grammar.{Head, Node, leaf, call, Brackets, empty, filled, Entries, one, and, past_key, spell_head, spell, spell_brackets, spell_entries}
use Rattle.spiel_string.specs.Partial.{Finished, no_entry, with_entry, wrap, shown_finished, Context, outermost, within, State, start, outer, open_at, key_at, value_due, value_at, done, spaced, closed, key_word, close_empty, value_word, value_open, step_class, step}
use Rattle.spiel_string.specs.Progress.{keys_of, seconds_finished, seconds_in, seconds_before, seconds_with, seconds_of}
use Rattle.spiel_string.specs.Repeats.{again, second_keys, second_brackets, second_entries}
use Rattle.spiel_string.specs.Scan.{class}
use Rattle.spiel_string.specs.declared.scan.Class.{Class}
use Rattle.spiel_string.specs.declared.scan.Class.TheVariants as class
use Rattle.spiel_string.proofs.Alphabet.{IsOf, IsOf-class}
use Rattle.spiel_string.proofs.Shown.{spell-spaced, spell-wrap, only_where, of_step}

-- the second key that ends at the `=` which follows
abbrev pub key_again : State → List ℕ → List (List ℕ)
key_again (key_at c ds l k n) rest = again (keys_of ds) k (spaces n rest)
key_again s rest = []

-- an `=` may end a second key, and no other byte does
abbrev pub Gains : State → ℕ → Class → List ℕ → State → Type 0
Gains s x class.Equals rest t = seconds_of t rest ≡ seconds_of s (x ∷ rest) ++ key_again s (x ∷ rest)
Gains s x k rest t = seconds_of t rest ≡ seconds_of s (x ∷ rest)

second_entries-wrap : (ds : Finished) (es : Entries) (rest : List ℕ)
    → second_entries [] (wrap ds es) rest ≡ seconds_finished ds (spell_entries es rest) ++ second_entries (keys_of ds) es rest
second_entries-wrap no_entry es rest = refl
second_entries-wrap (with_entry ds head v) es rest = second_entries-wrap ds (and head v es) rest ∙ simp append_assoc

seconds-closed : (c : Context) (ps : Brackets) (rest : List ℕ)
    → seconds_of (closed c ps) rest ≡ seconds_in c (spell_brackets ps (41 ∷ rest)) ++ second_brackets ps (41 ∷ rest)
seconds-closed (outermost l w n) ps rest = refl
seconds-closed (within c ds head w n) ps rest = refl

second_keys-spaced : (v : Node) (rest : List ℕ) → second_keys (spaced v) rest ≡ second_keys v (32 ∷ rest)
second_keys-spaced (leaf w n) rest = refl
second_keys-spaced (call w n ps m) rest = refl

close_empty_gains : (c : Context) (ds : Finished) (l x : ℕ) (rest : List ℕ) → x ≡ 41 → IfSome (close_empty c ds l) (Gains (open_at c ds l) x class.Close rest)
close_empty_gains c no_entry l x rest e = seconds-closed c (empty l) rest ∙ ap (λ y. seconds_in c (spaces l (y ∷ rest)) ++ []) (sym e)
close_empty_gains c (with_entry ds head v) l x rest e = tt

key_word_gains : (c : Context) (ds : Finished) (l : ℕ) (k : List ℕ) (n x : ℕ) (rest : List ℕ) → IfSome (key_word c ds l k n x) (Gains (key_at c ds l k n) x class.Lower rest)
key_word_gains c ds l k zero x rest = ap (λ u. seconds_before c ds (spaces l u)) (append_assoc k (x ∷ []) rest)
key_word_gains c ds l k (suc n) x rest = tt

module _ (c : Context) (ds : Finished) (head : Head) where
  value_word_gains : (v : Node) (x : ℕ) (rest : List ℕ) → IfSome (value_word c ds head v x) (Gains (value_at c ds head v) x class.Lower rest)
  value_word_gains (leaf w zero) x rest = ap (λ u. seconds_with c ds head u ++ []) (append_assoc w (x ∷ []) rest)
  value_word_gains v x rest = tt

  value_open_gains : (v : Node) (x : ℕ) (rest : List ℕ) → x ≡ 40 → IfSome (value_open c ds head v) (Gains (value_at c ds head v) x class.Open rest)
  value_open_gains (leaf w n) x rest e =
      only_where (is_name w) (open_at (within c ds head w n) no_entry zero) (Gains (value_at c ds head (leaf w n)) x class.Open rest)
      (λ _. ap (λ y. seconds_with c ds head (w ++ spaces n (y ∷ rest)) ++ []) (sym e))
  value_open_gains (call w n ps m) x rest e = tt

  space_gains : (v : Node) (x : ℕ) (rest : List ℕ) → x ≡ 32 → Gains (value_at c ds head v) x class.Space rest (value_at c ds head (spaced v))
  space_gains v x rest e =
      ap (λ u. seconds_with c ds head u ++ second_keys (spaced v) rest) (sym (spell-spaced v rest))
      ∙ ap (λ u. seconds_with c ds head (spell v (32 ∷ rest)) ++ u) (second_keys-spaced v rest)
      ∙ ap (λ y. seconds_with c ds head (spell v (y ∷ rest)) ++ second_keys v (y ∷ rest)) (sym e)

  comma_gains : (v : Node) (x : ℕ) (rest : List ℕ) → x ≡ 44 → Gains (value_at c ds head v) x class.Comma rest (open_at c (with_entry ds head v) zero)
  comma_gains v x rest e =
      regroup (seconds_in c (shown_finished ds (spell_head head (spell v (44 ∷ rest))))) (seconds_finished ds (spell_head head (spell v (44 ∷ rest))))
      (again (keys_of ds) head.key (past_key head (spell v (44 ∷ rest)))) (second_keys v (44 ∷ rest))
      ∙ ap (λ y. seconds_with c ds head (spell v (y ∷ rest)) ++ second_keys v (y ∷ rest)) (sym e)
    where
      regroup : (p q r s : List (List ℕ)) → p ++ ((q ++ r) ++ s) ≡ ((p ++ q) ++ r) ++ s
      regroup p q r s = simp append_assoc

  close_gains : (v : Node) (x : ℕ) (rest : List ℕ) → x ≡ 41 → Gains (value_at c ds head v) x class.Close rest (closed c (filled (wrap ds (one head v))))
  close_gains v x rest e =
      seconds-closed c (filled (wrap ds (one head v))) rest
      ∙ ap (λ u. seconds_in c u ++ second_entries [] (wrap ds (one head v)) (41 ∷ rest)) (spell-wrap ds (one head v) (41 ∷ rest))
      ∙ ap (λ u. seconds_in c (shown_finished ds (spell_entries (one head v) (41 ∷ rest))) ++ u) (second_entries-wrap ds (one head v) (41 ∷ rest))
      ∙ regroup (seconds_in c (shown_finished ds (spell_head head (spell v (41 ∷ rest))))) (seconds_finished ds (spell_head head (spell v (41 ∷ rest))))
      (again (keys_of ds) head.key (past_key head (spell v (41 ∷ rest)))) (second_keys v (41 ∷ rest))
      ∙ ap (λ y. seconds_with c ds head (spell v (y ∷ rest)) ++ second_keys v (y ∷ rest)) (sym e)
    where
      regroup : (p q r s : List (List ℕ)) → p ++ (q ++ (r ++ s)) ≡ ((p ++ q) ++ r) ++ s
      regroup p q r s = simp append_assoc

seconds-step_class : (s : State) (x : ℕ) (k : Class) → IsOf k x → (rest : List ℕ) → IfSome (step_class s x k) (Gains s x k rest)
seconds-step_class (start n) x class.Space e rest = refl
seconds-step_class (start n) x class.Lower e rest = refl
seconds-step_class (outer l w n) x class.Space e rest = refl
seconds-step_class (outer l w zero) x class.Lower e rest = refl
seconds-step_class (outer l w zero) x class.NameRest e rest = refl
seconds-step_class (outer l w n) x class.Open e rest = refl
seconds-step_class (open_at c ds l) x class.Space e rest = ap (λ y. seconds_before c ds (spaces l (y ∷ rest))) (sym e)
seconds-step_class (open_at c ds l) x class.Lower e rest = refl
seconds-step_class (open_at c ds l) x class.Close e rest = close_empty_gains c ds l x rest e
seconds-step_class (key_at c ds l q n) x class.Space e rest = ap (λ y. seconds_before c ds (spaces l (q ++ spaces n (y ∷ rest)))) (sym e)
seconds-step_class (key_at c ds l q n) x class.Equals e rest =
    ap (λ y. seconds_before c ds (spaces l (q ++ spaces n (y ∷ rest))) ++ again (keys_of ds) q (spaces n (y ∷ rest))) (sym e)
seconds-step_class (key_at c ds l q n) x class.Lower e rest = key_word_gains c ds l q n x rest
seconds-step_class (key_at c ds l q n) x class.NameRest e rest = key_word_gains c ds l q n x rest
seconds-step_class (value_due c ds head) x class.Space e rest = ap (λ y. seconds_with c ds head (y ∷ rest)) (sym e)
seconds-step_class (value_due c ds head) x class.Lower e rest = append-nil (seconds_with c ds head (x ∷ rest))
seconds-step_class (value_due c ds head) x class.NameRest e rest = append-nil (seconds_with c ds head (x ∷ rest))
seconds-step_class (value_due c ds head) x class.WordRest e rest = append-nil (seconds_with c ds head (x ∷ rest))
seconds-step_class (value_at c ds head v) x class.Space e rest = space_gains c ds head v x rest e
seconds-step_class (value_at c ds head v) x class.Open e rest = value_open_gains c ds head v x rest e
seconds-step_class (value_at c ds head v) x class.Close e rest = close_gains c ds head v x rest e
seconds-step_class (value_at c ds head v) x class.Comma e rest = comma_gains c ds head v x rest e
seconds-step_class (value_at c ds head v) x class.Lower e rest = value_word_gains c ds head v x rest
seconds-step_class (value_at c ds head v) x class.NameRest e rest = value_word_gains c ds head v x rest
seconds-step_class (value_at c ds head v) x class.WordRest e rest = value_word_gains c ds head v x rest
seconds-step_class (done l w n ps m) x class.Space e rest = ap (λ y. second_keys (call w n ps m) (y ∷ rest)) (sym e)
seconds-step_class s x k e rest = tt

pub seconds-step : (s t : State) (x : ℕ) (rest : List ℕ) → step s x ≡ Some t → Gains s x (class x) rest t
seconds-step s t x rest h = of_step (step s x) (Gains s x (class x) rest) t (seconds-step_class s x (class x) (IsOf-class x) rest) h
