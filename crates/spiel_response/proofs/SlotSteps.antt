-- How the slots of a leaf change from one state to the state before it.
use Rattle.std.proofs.Common.{◌≡◌, ℕ, suc, ◌+◌, ◌<◌, ◌≤◌, Bool, true, false, cond, ◌&&◌, ◌||◌, List, [], ◌∷◌, eqb, ltb, arith, refl, ap, ap₂, sym, ◌∙◌, lt-ltb, le-ltb, eqb-true, ⊎_elim}
use Rattle.std.proofs.lemmas.Bool.{cond-true, cond-false, false≢true, true≢false, eqb-false, eqb-true, cases_lt}
use Rattle.spiel_response.specs.Responses.{OwnStep, follows}
use Rattle.spiel_response.specs.Remembered.{passes, past, IsRising}
use Rattle.spiel_response.proofs.PolicySteps.{taken, after, passed_from}
use Rattle.spiel_response.specs.Slots.{key, slot_from, last_slot, beyond}

-- ---- before the first step, and after the last
pub slot_start : (start count : ℕ → ℕ) (b last low high : ℕ) (steps : List OwnStep) → IsRising count low high steps → b ≤ low → slot_from start b last steps ≡ last
slot_start start count b last low high [] r h = refl
slot_start start count b last low high (s ∷ rest) r h = let k = r.0 in cond-false (ltb s.state b) _ _ (le-ltb s.state b (omega arith))

pub beyond_start : (count : ℕ → ℕ) (b low high : ℕ) (steps : List OwnStep) → IsRising count low high steps → b ≤ low → beyond b steps ≡ steps
beyond_start count b low high [] r h = refl
beyond_start count b low high (s ∷ rest) r h = let k = r.0 in cond-false (ltb s.state b) _ _ (le-ltb s.state b (omega arith))

pub beyond_end : (count : ℕ → ℕ) (low high : ℕ) (steps : List OwnStep) → IsRising count low high steps → beyond high steps ≡ []
beyond_end count low high [] r = refl
beyond_end count low high (s ∷ rest) r = cond-true (ltb s.state high) _ _ (lt-ltb s.state high r.1) ∙ beyond_end count (suc s.state) high rest r.3

-- ---- a leaf that doesn't pass state i
same_test : (j i : ℕ) → eqb j i ≡ false → ltb j (suc i) ≡ ltb j i
same_test j i e = ⊎_elim (λ (h : j < i). lt-ltb j (suc i) (omega arith) ∙ sym (lt-ltb j i h)) (λ (h : i ≤ j). let apart = eqb-false j i e in let above : suc i ≤ j = omega arith in le-ltb j (suc i) above ∙ sym (le-ltb j i h)) (cases_lt j i)

or_parts : (a b : Bool) → (a || b) ≡ false → (a ≡ false) × (b ≡ false)
or_parts true b e = absurd (true≢false e)
or_parts false b e = (refl, e)

pub slot_other : (start : ℕ → ℕ) (i last : ℕ) (steps : List OwnStep) → passes i steps ≡ false → slot_from start (suc i) last steps ≡ slot_from start i last steps
slot_other start i last [] p = refl
slot_other start i last (s ∷ rest) p =
    let parts = or_parts (eqb s.state i) (passes i rest) p in
    ap₂ (λ (t : Bool) (n : ℕ). cond t n last) (same_test s.state i parts.0) (slot_other start i (key start s) rest parts.1)

pub beyond_other : (i : ℕ) (steps : List OwnStep) → passes i steps ≡ false → beyond (suc i) steps ≡ beyond i steps
beyond_other i [] p = refl
beyond_other i (s ∷ rest) p =
    let parts = or_parts (eqb s.state i) (passes i rest) p in
    ap₂ (λ (t : Bool) (n : List OwnStep). cond t n (s ∷ rest)) (same_test s.state i parts.0) (beyond_other i rest parts.1)

-- ---- a leaf that passes state i
pub slot_passing : (start count : ℕ → ℕ) (i last low high : ℕ) (steps : List OwnStep) → IsRising count low high steps → passes i steps ≡ true → slot_from start (suc i) last steps ≡ start i + taken i steps
slot_passing start count i last low high [] r p = absurd (false≢true p)
slot_passing start count i last low high (s ∷ rest) r p = by (slot_passing start count i (key start s) (suc s.state) high rest r.3) (eqb s.state i) refl p
  where
    by : (passes i rest ≡ true → slot_from start (suc i) (key start s) rest ≡ start i + taken i rest) → (t : Bool) → eqb s.state i ≡ t → (t || passes i rest) ≡ true → cond (ltb s.state (suc i)) (slot_from start (suc i) (key start s) rest) last ≡ start i + cond t s.index (taken i rest)
    by ih true e p =
        let same = eqb-true s.state i e in
        cond-true _ _ _ (lt-ltb s.state (suc i) (omega arith)) ∙ slot_start start count (suc i) (key start s) (suc s.state) high rest r.3 (omega arith) ∙ ap (λ (j : ℕ). start j + s.index) same
    by ih false e p =
        let from = passed_from count i (suc s.state) high rest r.3 p in
        cond-true _ _ _ (lt-ltb s.state (suc i) (omega arith)) ∙ ih p

pub beyond_after : (count : ℕ → ℕ) (i low high : ℕ) (steps : List OwnStep) → IsRising count low high steps → passes i steps ≡ true → beyond (suc i) steps ≡ after i steps
beyond_after count i low high [] r p = absurd (false≢true p)
beyond_after count i low high (s ∷ rest) r p = by (beyond_after count i (suc s.state) high rest r.3) (eqb s.state i) refl p
  where
    by : (passes i rest ≡ true → beyond (suc i) rest ≡ after i rest) → (t : Bool) → eqb s.state i ≡ t → (t || passes i rest) ≡ true → cond (ltb s.state (suc i)) (beyond (suc i) rest) (s ∷ rest) ≡ cond t rest (after i rest)
    by ih true e p =
        let same = eqb-true s.state i e in
        cond-true _ _ _ (lt-ltb s.state (suc i) (omega arith)) ∙ beyond_start count (suc i) (suc s.state) high rest r.3 (omega arith)
    by ih false e p =
        let from = passed_from count i (suc s.state) high rest r.3 p in
        cond-true _ _ _ (lt-ltb s.state (suc i) (omega arith)) ∙ ih p

pub beyond_passing : (d : ℕ → ℕ) (count : ℕ → ℕ) (i low high : ℕ) (steps : List OwnStep) → IsRising count low high steps → passes i steps ≡ true → follows d (beyond i steps) ≡ (eqb (d i) (taken i steps) && follows d (after i steps))
beyond_passing d count i low high [] r p = absurd (false≢true p)
beyond_passing d count i low high (s ∷ rest) r p = by (beyond_passing d count i (suc s.state) high rest r.3) (eqb s.state i) refl p
  where
    by : (passes i rest ≡ true → follows d (beyond i rest) ≡ (eqb (d i) (taken i rest) && follows d (after i rest))) → (t : Bool) → eqb s.state i ≡ t → (t || passes i rest) ≡ true → follows d (cond (ltb s.state i) (beyond i rest) (s ∷ rest)) ≡ (eqb (d i) (cond t s.index (taken i rest)) && follows d (cond t rest (after i rest)))
    by ih true e p =
        let same = eqb-true s.state i e in
        ap (follows d) (cond-false (ltb s.state i) _ _ (le-ltb s.state i (omega arith))) ∙ ap (λ (j : ℕ). eqb (d j) s.index && follows d rest) same
    by ih false e p =
        let from = passed_from count i (suc s.state) high rest r.3 p in
        ap (follows d) (cond-true (ltb s.state i) _ _ (lt-ltb s.state i (omega arith))) ∙ ih p

-- ---- the last of all steps
-- where all states are below `high` the last slot is that of the last step
pub last_is_slot : (start count : ℕ → ℕ) (last low high : ℕ) (steps : List OwnStep) → IsRising count low high steps → slot_from start high last steps ≡ last_slot start last steps
last_is_slot start count last low high [] r = refl
last_is_slot start count last low high (s ∷ rest) r = cond-true (ltb s.state high) _ _ (lt-ltb s.state high r.1) ∙ last_is_slot start count (key start s) (suc s.state) high rest r.3

-- the slot before state i is that of the last step before it
pub past_slot : (start count : ℕ → ℕ) (i last low high : ℕ) (steps : List OwnStep) → IsRising count low high steps → passes i steps ≡ true → slot_from start i last steps ≡ last_slot start last (past i steps)
past_slot start count i last low high [] r h = absurd (false≢true h)
past_slot start count i last low high (s ∷ rest) r h = by (past_slot start count i (key start s) (suc s.state) high rest r.3) (eqb s.state i) refl h
  where
    by : (passes i rest ≡ true → slot_from start i (key start s) rest ≡ last_slot start (key start s) (past i rest)) → (t : Bool) → eqb s.state i ≡ t → (t || passes i rest) ≡ true → cond (ltb s.state i) (slot_from start i (key start s) rest) last ≡ last_slot start last (cond t [] (s ∷ past i rest))
    by ih true e h = let same = eqb-true s.state i e in cond-false (ltb s.state i) _ _ (le-ltb s.state i (omega arith))
    by ih false e h = let from = passed_from count i (suc s.state) high rest r.3 h in cond-true (ltb s.state i) _ _ (lt-ltb s.state i (omega arith)) ∙ ih h
