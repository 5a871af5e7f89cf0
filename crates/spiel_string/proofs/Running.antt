-- What a tree spells leads to the end of that tree.
use Rattle.std.proofs.Common.{◌≡◌, ℕ, zero, suc, Bool, true, List, [], ◌∷◌, ◌++◌, refl, sym, ◌∙◌, ap, append_assoc, append-nil, Some, None, ◌⊎◌, inl, inr}
use Rattle.std.specs.Prelude.{if◌then◌else◌, option_and_then}
use Rattle.std.specs.List.{list_all}
use Rattle.std.proofs.lemmas.Bool.{and_parts, true≢false}
use Rattle.spiel_string.specs.Alphabet.{is_name, is_word, spaces, is_lower, is_name_byte, is_word_byte}
use Rattle.spiel_string.specs.Grammar.{Head, Node, leaf, call, Brackets, empty, filled, Entries, one, and, past_key, spell_head, spell, spell_brackets, spell_entries, IsProper, AreBracketsProper, AreEntriesProper}
use Rattle.spiel_string.specs.Partial.{Finished, no_entry, with_entry, wrap, Context, outermost, within, State, start, outer, open_at, key_at, value_due, value_at, done, with_gap, closed, step_class, step, run}
use Rattle.spiel_string.specs.Scan.{class}
use Rattle.spiel_string.specs.declared.scan.Class.TheVariants.{Lower, NameRest, WordRest}
use Rattle.spiel_string.proofs.Alphabet.{class-lower, class-name, class-word, is_word-from_name}

-- ---- a byte, spaces, and a word

run-byte : (s t : State) (x : ℕ) (rest : List ℕ) → step s x ≡ Some t → run s (x ∷ rest) ≡ run t rest
unfolding run
run-byte s t x rest e = ap (λ o. option_and_then (λ u. run u rest) o) e

run-spaces : (f : ℕ → State) → ((n : ℕ) → step (f n) 32 ≡ Some (f (suc n))) → (n : ℕ) (rest : List ℕ) → run (f zero) (spaces n rest) ≡ run (f n) rest
run-spaces f e zero rest = refl
run-spaces f e (suc n) rest = run-spaces f e n (32 ∷ rest) ∙ run-byte (f n) (f (suc n)) 32 rest (e n)

run-grow : (f : List ℕ → State) (p : ℕ → Bool) → ((w : List ℕ) (x : ℕ) → p x ≡ true → step (f w) x ≡ Some (f (w ++ x ∷ [])))
    → (xs w rest : List ℕ) → list_all p xs ≡ true → run (f w) (xs ++ rest) ≡ run (f (w ++ xs)) rest
run-grow f p e [] w rest h = ap (λ u. run (f u) rest) (sym (append-nil w))
run-grow f p e (x ∷ xs) w rest h =
    let parts = and_parts (p x) _ h in
    run-byte (f w) (f (w ++ x ∷ [])) x (xs ++ rest) (e w x parts.0) ∙ run-grow f p e xs (w ++ x ∷ []) rest parts.1
    ∙ ap (λ u. run (f u) rest) (append_assoc w (x ∷ []) xs)

by_name : (s t : State) (x : ℕ) → is_name_byte x ≡ true → step_class s x Lower ≡ Some t → step_class s x NameRest ≡ Some t → step s x ≡ Some t
by_name s t x h p q = go (class-name x h)
  where
    go : (class x ≡ Lower) ⊎ (class x ≡ NameRest) → step s x ≡ Some t
    go (inl e) = ap (step_class s x) e ∙ p
    go (inr e) = ap (step_class s x) e ∙ q

by_word : (s t : State) (x : ℕ) → is_word_byte x ≡ true → step_class s x Lower ≡ Some t → step_class s x NameRest ≡ Some t → step_class s x WordRest ≡ Some t → step s x ≡ Some t
by_word s t x h p q r = go (class-word x h)
  where
    go : (class x ≡ Lower) ⊎ ((class x ≡ NameRest) ⊎ (class x ≡ WordRest)) → step s x ≡ Some t
    go (inl e) = ap (step_class s x) e ∙ p
    go (inr (inl e)) = ap (step_class s x) e ∙ q
    go (inr (inr e)) = ap (step_class s x) e ∙ r

-- a name, from the state at which it may begin
run-name : (s : State) (f : List ℕ → State) → ((x : ℕ) → step_class s x Lower ≡ Some (f (x ∷ [])))
    → ((w : List ℕ) (x : ℕ) → is_name_byte x ≡ true → step (f w) x ≡ Some (f (w ++ x ∷ [])))
    → (w rest : List ℕ) → is_name w ≡ true → run s (w ++ rest) ≡ run (f w) rest
run-name s f first more [] rest h = absurd (true≢false (sym h))
run-name s f first more (x ∷ xs) rest h =
    let parts = and_parts (is_lower x) _ h in
    run-byte s (f (x ∷ [])) x (xs ++ rest) (ap (step_class s x) (class-lower x parts.0) ∙ first x) ∙ run-grow f is_name_byte more xs (x ∷ []) rest parts.1

run-outer : (l : ℕ) (w rest : List ℕ) → is_name w ≡ true → run (start l) (w ++ rest) ≡ run (outer l w zero) rest
run-outer l w rest h =
    run-name (start l) (λ u. outer l u zero) (λ x. refl) (λ u x q. by_name (outer l u zero) (outer l (u ++ x ∷ []) zero) x q refl refl) w rest h

run-key : (c : Context) (ds : Finished) (l : ℕ) (k rest : List ℕ) → is_name k ≡ true → run (open_at c ds l) (k ++ rest) ≡ run (key_at c ds l k zero) rest
run-key c ds l k rest h =
    run-name (open_at c ds l) (λ u. key_at c ds l u zero) (λ x. refl) (λ u x q. by_name (key_at c ds l u zero) (key_at c ds l (u ++ x ∷ []) zero) x q refl refl) k rest h

run-word : (c : Context) (ds : Finished) (head : Head) (w rest : List ℕ) → is_word w ≡ true
    → run (value_due c ds head) (w ++ rest) ≡ run (value_at c ds head (leaf w zero)) rest
run-word c ds head [] rest h = absurd (true≢false (sym h))
run-word c ds head (x ∷ xs) rest h =
    let parts = and_parts (is_word_byte x) _ h in
    run-byte (value_due c ds head) (value_at c ds head (leaf (x ∷ []) zero)) x (xs ++ rest)
    (by_word (value_due c ds head) (value_at c ds head (leaf (x ∷ []) zero)) x parts.0 refl refl refl)
    ∙ run-grow (λ u. value_at c ds head (leaf u zero)) is_word_byte
    (λ u y q. by_word (value_at c ds head (leaf u zero)) (value_at c ds head (leaf (u ++ y ∷ []) zero)) y q refl refl refl) xs (x ∷ []) rest parts.1

-- the head of a parameter, up to its value
run-head : (c : Context) (ds : Finished) (head : Head) (rest : List ℕ) → is_name head.key ≡ true
    → run (open_at c ds zero) (spell_head head rest) ≡ run (value_due c ds head) rest
run-head c ds head rest h =
    run-spaces (λ n. open_at c ds n) (λ n. refl) head.before_key (head.key ++ past_key head rest)
    ∙ run-key c ds head.before_key head.key (past_key head rest) h
    ∙ run-spaces (λ n. key_at c ds head.before_key head.key n) (λ n. refl) head.after_key (61 ∷ spaces head.after_equals rest)
    ∙ run-byte (key_at c ds head.before_key head.key head.after_key) (value_due c ds (with_gap head zero)) 61 (spaces head.after_equals rest) refl
    ∙ run-spaces (λ n. value_due c ds (with_gap head n)) (λ n. refl) head.after_equals rest

opens : (c : Context) (ds : Finished) (head : Head) (w : List ℕ) (n : ℕ) → is_name w ≡ true
    → step (value_at c ds head (leaf w n)) 40 ≡ Some (open_at (within c ds head w n) no_entry zero)
opens c ds head w n h = ap (λ b. if b then Some (open_at (within c ds head w n) no_entry zero) else None) h

-- ---- values

mutual
  run-node : (v : Node) (c : Context) (ds : Finished) (head : Head) (rest : List ℕ) → IsProper v
      → run (value_due c ds head) (spell v rest) ≡ run (value_at c ds head v) rest
  run-node (leaf w n) c ds head rest h =
      run-word c ds head w (spaces n rest) h ∙ run-spaces (λ m. value_at c ds head (leaf w m)) (λ m. refl) n rest
  run-node (call w n ps m) c ds head rest h =
      run-word c ds head w (spaces n (40 ∷ spell_brackets ps (41 ∷ spaces m rest))) (is_word-from_name w h.0)
      ∙ run-spaces (λ m. value_at c ds head (leaf w m)) (λ m. refl) n (40 ∷ spell_brackets ps (41 ∷ spaces m rest))
      ∙ run-byte (value_at c ds head (leaf w n)) (open_at (within c ds head w n) no_entry zero) 40 (spell_brackets ps (41 ∷ spaces m rest)) (opens c ds head w n h.0)
      ∙ run-brackets ps (within c ds head w n) (spaces m rest) h.1
      ∙ run-spaces (λ m. value_at c ds head (call w n ps m)) (λ m. refl) m rest

  run-brackets : (ps : Brackets) (c : Context) (rest : List ℕ) → AreBracketsProper ps
      → run (open_at c no_entry zero) (spell_brackets ps (41 ∷ rest)) ≡ run (closed c ps) rest
  run-brackets (empty n) c rest h =
      run-spaces (λ m. open_at c no_entry m) (λ m. refl) n (41 ∷ rest) ∙ run-byte (open_at c no_entry n) (closed c (empty n)) 41 rest refl
  run-brackets (filled es) c rest h = run-entries es c no_entry rest h

  run-entries : (es : Entries) (c : Context) (ds : Finished) (rest : List ℕ) → AreEntriesProper es
      → run (open_at c ds zero) (spell_entries es (41 ∷ rest)) ≡ run (closed c (filled (wrap ds es))) rest
  run-entries (one head v) c ds rest h =
      run-head c ds head (spell v (41 ∷ rest)) h.0
      ∙ run-node v c ds head (41 ∷ rest) h.1
      ∙ run-byte (value_at c ds head v) (closed c (filled (wrap ds (one head v)))) 41 rest refl
  run-entries (and head v es) c ds rest h =
      run-head c ds head (spell v (44 ∷ spell_entries es (41 ∷ rest))) h.0
      ∙ run-node v c ds head (44 ∷ spell_entries es (41 ∷ rest)) h.1
      ∙ run-byte (value_at c ds head v) (open_at c (with_entry ds head v) zero) 44 (spell_entries es (41 ∷ rest)) refl
      ∙ run-entries es c (with_entry ds head v) rest h.2

-- ---- whole texts

pub run-leaf : (l : ℕ) (w : List ℕ) (n : ℕ) (rest : List ℕ) → is_name w ≡ true → run (start zero) (spaces l (spell (leaf w n) rest)) ≡ run (outer l w n) rest
run-leaf l w n rest h =
    run-spaces start (λ m. refl) l (w ++ spaces n rest) ∙ run-outer l w (spaces n rest) h ∙ run-spaces (λ m. outer l w m) (λ m. refl) n rest

pub run-call : (l : ℕ) (w : List ℕ) (n : ℕ) (ps : Brackets) (m : ℕ) (rest : List ℕ) → is_name w ≡ true → AreBracketsProper ps
    → run (start zero) (spaces l (spell (call w n ps m) rest)) ≡ run (done l w n ps m) rest
run-call l w n ps m rest h q =
    run-leaf l w n (40 ∷ spell_brackets ps (41 ∷ spaces m rest)) h
    ∙ run-byte (outer l w n) (open_at (outermost l w n) no_entry zero) 40 (spell_brackets ps (41 ∷ spaces m rest)) refl
    ∙ run-brackets ps (outermost l w n) (spaces m rest) q
    ∙ run-spaces (λ k. done l w n ps k) (λ k. refl) m rest
