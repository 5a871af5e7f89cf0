-- What the weight of a leaf is under a policy that is w below a state and the response d from there on.
use Rattle.std.proofs.Common.{◌≡◌, ℕ, suc, ◌+◌, ◌*◌, ◌^◌, ◌<◌, ◌≤◌, Bool, true, false, cond, ◌&&◌, ◌||◌, List, [], ◌∷◌, length, eqb, ltb, arith, refl, ap, ap₂, sym, ◌∙◌, lt-ltb, le-ltb, eqb-true, ne_eqb, ⊎_elim}
use Rattle.std.proofs.lemmas.Bool.{cond-true, cond-false, false≢true, true≢false, eqb-false}
use native.Mathlib.Nat.{le_refl, pow-zero, pow-succ', mul_assoc}
use Rattle.spiel_response.specs.Responses.{OwnStep, follows, follows_from, put, realization}
use Rattle.spiel_response.specs.Remembered.{passes, past, IsRising}

-- w at the states below b, and the whole q on d from b on
abbrev pub hybrid : (ℕ → ℕ) → (ℕ → ℕ → ℕ) → ℕ → ℕ → ℕ → ℕ → ℕ
hybrid d w q b j a = cond (ltb j b) (w j a) (cond (eqb (d j) a) q 0)

-- the index taken at state i, and the steps after it
abbrev pub taken : ℕ → List OwnStep → ℕ
taken i [] = 0
taken i (s ∷ rest) = cond (eqb s.state i) s.index (taken i rest)

abbrev pub after : ℕ → List OwnStep → List OwnStep
after i [] = []
after i (s ∷ rest) = cond (eqb s.state i) rest (after i rest)

-- ---- where the steps rise, a state that they pass is in range, and its index is one of its actions
pub passed_from : (count : ℕ → ℕ) (i low high : ℕ) (steps : List OwnStep) → IsRising count low high steps → passes i steps ≡ true → low ≤ i
passed_from count i low high [] r p = elim (false≢true p) [ ]
passed_from count i low high (s ∷ rest) r p = by (passed_from count i (suc s.state) high rest r.3) (eqb s.state i) refl p
  where
    by : (passes i rest ≡ true → suc s.state ≤ i) → (t : Bool) → eqb s.state i ≡ t → (t || passes i rest) ≡ true → low ≤ i
    by ih true e p = let same = eqb-true s.state i e in let h = r.0 in omega arith
    by ih false e p = let more = ih p in let h = r.0 in omega arith

pub passed_below : (count : ℕ → ℕ) (i low high : ℕ) (steps : List OwnStep) → IsRising count low high steps → passes i steps ≡ true → i < high
passed_below count i low high [] r p = elim (false≢true p) [ ]
passed_below count i low high (s ∷ rest) r p = by (passed_below count i (suc s.state) high rest r.3) (eqb s.state i) refl p
  where
    by : (passes i rest ≡ true → i < high) → (t : Bool) → eqb s.state i ≡ t → (t || passes i rest) ≡ true → i < high
    by ih true e p = let same = eqb-true s.state i e in let h = r.1 in omega arith
    by ih false e p = ih p

pub taken_legal : (count : ℕ → ℕ) (i low high : ℕ) (steps : List OwnStep) → IsRising count low high steps → passes i steps ≡ true → taken i steps < count i
taken_legal count i low high [] r p = elim (false≢true p) [ ]
taken_legal count i low high (s ∷ rest) r p = by (taken_legal count i (suc s.state) high rest r.3) (eqb s.state i) refl p
  where
    by : (passes i rest ≡ true → taken i rest < count i) → (t : Bool) → eqb s.state i ≡ t → (t || passes i rest) ≡ true → cond t s.index (taken i rest) < count i
    by ih true e p = let same = ap count (eqb-true s.state i e) in let h = r.2 in omega arith
    by ih false e p = ih p

pub split_length : (i : ℕ) (steps : List OwnStep) → passes i steps ≡ true → length steps ≡ length (past i steps) + suc (length (after i steps))
split_length i [] p = elim (false≢true p) [ ]
split_length i (s ∷ rest) p = by (split_length i rest) (eqb s.state i) p
  where
    by : (passes i rest ≡ true → length rest ≡ length (past i rest) + suc (length (after i rest))) → (t : Bool) → (t || passes i rest) ≡ true → suc (length rest) ≡ length (cond t [] (s ∷ past i rest)) + suc (length (cond t rest (after i rest)))
    by ih true p = omega arith
    by ih false p = let more = ih p in omega arith

-- ---- the weights
tail_step : (q n : ℕ) (t f : Bool) → cond t q 0 * cond f (q ^ n) 0 ≡ cond (t && f) (q ^ suc n) 0
tail_step q n true true = sym (pow-succ' q n)
tail_step q n true false = omega arith
tail_step q n false f = omega arith

pub tail_weight : (d : ℕ → ℕ) (w : ℕ → ℕ → ℕ) (q b : ℕ) (count : ℕ → ℕ) (low high : ℕ) (steps : List OwnStep) → IsRising count low high steps → b ≤ low → realization (hybrid d w q b) steps ≡ cond (follows d steps) (q ^ length steps) 0
tail_weight d w q b count low high [] r h = sym (pow-zero q)
tail_weight d w q b count low high (s ∷ rest) r h =
    let at_least : b ≤ s.state = let k = r.0 in omega arith in
    let here : hybrid d w q b s.state s.index ≡ cond (eqb (d s.state) s.index) q 0 = cond-false (ltb s.state b) _ _ (le-ltb s.state b at_least) in
    let more = tail_weight d w q b count (suc s.state) high rest r.3 (omega arith) in
    ap₂ (λ (x y : ℕ). x * y) here more ∙ tail_step q (length rest) (eqb (d s.state) s.index) (follows d rest)

-- a leaf that passes state i, where b is i or the state after it
pub split_weight : (d : ℕ → ℕ) (w : ℕ → ℕ → ℕ) (q b i : ℕ) (count : ℕ → ℕ) (low high : ℕ) (steps : List OwnStep) → IsRising count low high steps → passes i steps ≡ true → i ≤ b → b ≤ suc i → realization (hybrid d w q b) steps ≡ realization w (past i steps) * (hybrid d w q b i (taken i steps) * cond (follows d (after i steps)) (q ^ length (after i steps)) 0)
split_weight d w q b i count low high [] r p h k = elim (false≢true p) [ ]
split_weight d w q b i count low high (s ∷ rest) r p h k = by (λ e. split_weight d w q b i count (suc s.state) high rest r.3 e h k) (eqb s.state i) refl p
  where
    by : (passes i rest ≡ true → realization (hybrid d w q b) rest ≡ realization w (past i rest) * (hybrid d w q b i (taken i rest) * cond (follows d (after i rest)) (q ^ length (after i rest)) 0)) → (t : Bool) → eqb s.state i ≡ t → (t || passes i rest) ≡ true → hybrid d w q b s.state s.index * realization (hybrid d w q b) rest ≡ realization w (cond t [] (s ∷ past i rest)) * (hybrid d w q b i (cond t s.index (taken i rest)) * cond (follows d (cond t rest (after i rest))) (q ^ length (cond t rest (after i rest))) 0)
    by ih true e p =
        let same = eqb-true s.state i e in
        let more = tail_weight d w q b count (suc s.state) high rest r.3 (omega arith) in
        let here = ap (λ (j : ℕ). hybrid d w q b j s.index) same in
        ap₂ (λ (x y : ℕ). x * y) here more ∙ sym (native.Mathlib.Nat.one-mul _)
    by ih false e p =
        let from = passed_from count i (suc s.state) high rest r.3 p in
        let below : s.state < b = omega arith in
        let here : hybrid d w q b s.state s.index ≡ w s.state s.index = cond-true (ltb s.state b) _ _ (lt-ltb s.state b below) in
        ap₂ (λ (x y : ℕ). x * y) here (ih p) ∙ sym (mul_assoc (w s.state s.index) (realization w (past i rest)) _)

-- a leaf that doesn't pass state i weighs the same on either side of it
pub other_weight : (d : ℕ → ℕ) (w : ℕ → ℕ → ℕ) (q i : ℕ) (steps : List OwnStep) → passes i steps ≡ false → realization (hybrid d w q (suc i)) steps ≡ realization (hybrid d w q i) steps
other_weight d w q i [] p = refl
other_weight d w q i (s ∷ rest) p = by (other_weight d w q i rest) (eqb s.state i) refl p
  where
    same_test : eqb s.state i ≡ false → ltb s.state (suc i) ≡ ltb s.state i
    same_test e = ⊎_elim (λ (h : s.state < i). lt-ltb s.state (suc i) (omega arith) ∙ sym (lt-ltb s.state i h)) (λ (h : i ≤ s.state). let apart = eqb-false s.state i e in let above : suc i ≤ s.state = omega arith in le-ltb s.state (suc i) above ∙ sym (le-ltb s.state i h)) (Rattle.std.proofs.lemmas.Bool.cases_lt s.state i)

    by : (passes i rest ≡ false → realization (hybrid d w q (suc i)) rest ≡ realization (hybrid d w q i) rest) → (t : Bool) → eqb s.state i ≡ t → (t || passes i rest) ≡ false → hybrid d w q (suc i) s.state s.index * realization (hybrid d w q (suc i)) rest ≡ hybrid d w q i s.state s.index * realization (hybrid d w q i) rest
    by ih true e p = elim (true≢false p) [ ]
    by ih false e p = ap₂ (λ (t : Bool) (y : ℕ). cond t (w s.state s.index) (cond (eqb (d s.state) s.index) q 0) * y) (same_test e) (ih p)

-- ---- following d
pub put_follows : (d : ℕ → ℕ) (i a : ℕ) (count : ℕ → ℕ) (low high : ℕ) (steps : List OwnStep) → IsRising count low high steps → i < low → follows (put d i a) steps ≡ follows d steps
put_follows d i a count low high [] r h = refl
put_follows d i a count low high (s ∷ rest) r h =
    let apart : eqb s.state i ≡ false = ne_eqb s.state i (λ e. let k = r.0 in omega arith) in
    let here : put d i a s.state ≡ d s.state = cond-false (eqb s.state i) a (d s.state) apart in
    ap₂ (λ (x : ℕ) (f : Bool). eqb x s.index && f) here (put_follows d i a count (suc s.state) high rest r.3 (omega arith))

pub put_follows_from : (d : ℕ → ℕ) (i a : ℕ) (count : ℕ → ℕ) (low high : ℕ) (steps : List OwnStep) → IsRising count low high steps → passes i steps ≡ true → follows_from (put d i a) i steps ≡ (eqb a (taken i steps) && follows d (after i steps))
put_follows_from d i a count low high [] r p = elim (false≢true p) [ ]
put_follows_from d i a count low high (s ∷ rest) r p = by (put_follows_from d i a count (suc s.state) high rest r.3) (eqb s.state i) refl p
  where
    by : (passes i rest ≡ true → follows_from (put d i a) i rest ≡ (eqb a (taken i rest) && follows d (after i rest))) → (t : Bool) → eqb s.state i ≡ t → (t || passes i rest) ≡ true → cond t (follows (put d i a) (s ∷ rest)) (follows_from (put d i a) i rest) ≡ (eqb a (cond t s.index (taken i rest)) && follows d (cond t rest (after i rest)))
    by ih true e p =
        let same = eqb-true s.state i e in
        let here : put d i a s.state ≡ a = cond-true (eqb s.state i) a (d s.state) e in
        ap₂ (λ (x : ℕ) (f : Bool). eqb x s.index && f) here (put_follows d i a count (suc s.state) high rest r.3 (omega arith))
    by ih false e p = ih p

pub not_passed : (d : ℕ → ℕ) (i : ℕ) (steps : List OwnStep) → passes i steps ≡ false → follows_from d i steps ≡ false
not_passed d i [] p = refl
not_passed d i (s ∷ rest) p = by (not_passed d i rest) (eqb s.state i) p
  where
    by : (passes i rest ≡ false → follows_from d i rest ≡ false) → (t : Bool) → (t || passes i rest) ≡ false → cond t (follows d (s ∷ rest)) (follows_from d i rest) ≡ false
    by ih true p = elim (true≢false p) [ ]
    by ih false p = ih p

-- d with its own action put again is d
pub put_same : (d : ℕ → ℕ) (i : ℕ) (steps : List OwnStep) → follows (put d i (d i)) steps ≡ follows d steps
put_same d i [] = refl
put_same d i (s ∷ rest) = by (put_same d i rest) (eqb s.state i) refl
  where
    by : follows (put d i (d i)) rest ≡ follows d rest → (t : Bool) → eqb s.state i ≡ t → (eqb (cond t (d i) (d s.state)) s.index && follows (put d i (d i)) rest) ≡ (eqb (d s.state) s.index && follows d rest)
    by ih true e = ap₂ (λ (x : ℕ) (f : Bool). eqb x s.index && f) (ap d (sym (eqb-true s.state i e))) ih
    by ih false e = ap (λ (f : Bool). eqb (d s.state) s.index && f) ih

pub put_same_from : (d : ℕ → ℕ) (i : ℕ) (steps : List OwnStep) → follows_from (put d i (d i)) i steps ≡ follows_from d i steps
put_same_from d i [] = refl
put_same_from d i (s ∷ rest) = ap₂ (λ (f g : Bool). cond (eqb s.state i) f g) (put_same d i (s ∷ rest)) (put_same_from d i rest)

-- ---- two responses that agree
pub agreeing_follows : (d e : ℕ → ℕ) (steps : List OwnStep) → ((j : ℕ) → d j ≡ e j) → follows d steps ≡ follows e steps
agreeing_follows d e [] h = refl
agreeing_follows d e (s ∷ rest) h = ap₂ (λ (x : ℕ) (f : Bool). eqb x s.index && f) (h s.state) (agreeing_follows d e rest h)

pub agreeing_follows_from : (d e : ℕ → ℕ) (i : ℕ) (steps : List OwnStep) → ((j : ℕ) → d j ≡ e j) → follows_from d i steps ≡ follows_from e i steps
agreeing_follows_from d e i [] h = refl
agreeing_follows_from d e i (s ∷ rest) h = ap₂ (λ (f g : Bool). cond (eqb s.state i) f g) (agreeing_follows d e (s ∷ rest) h) (agreeing_follows_from d e i rest h)

-- from state i on
pub later_follows : (d e : ℕ → ℕ) (count : ℕ → ℕ) (low high : ℕ) (steps : List OwnStep) → IsRising count low high steps → ((j : ℕ) → low ≤ j → d j ≡ e j) → follows d steps ≡ follows e steps
later_follows d e count low high [] r h = refl
later_follows d e count low high (s ∷ rest) r h =
    ap₂ (λ (x : ℕ) (f : Bool). eqb x s.index && f) (h s.state r.0) (later_follows d e count (suc s.state) high rest r.3 (λ j k. let l = r.0 in h j (omega arith)))

pub later_follows_from : (d e : ℕ → ℕ) (i : ℕ) (count : ℕ → ℕ) (low high : ℕ) (steps : List OwnStep) → IsRising count low high steps → ((j : ℕ) → i ≤ j → d j ≡ e j) → follows_from d i steps ≡ follows_from e i steps
later_follows_from d e i count low high [] r h = refl
later_follows_from d e i count low high (s ∷ rest) r h = by (later_follows_from d e i count (suc s.state) high rest r.3 h) (eqb s.state i) refl
  where
    by : follows_from d i rest ≡ follows_from e i rest → (t : Bool) → eqb s.state i ≡ t → cond t (follows d (s ∷ rest)) (follows_from d i rest) ≡ cond t (follows e (s ∷ rest)) (follows_from e i rest)
    by ih true x =
        let same = eqb-true s.state i x in
        later_follows d e count s.state high (s ∷ rest) (le_refl s.state, r.1, r.2, r.3) (λ j k. h j (omega arith))
    by ih false x = ih
