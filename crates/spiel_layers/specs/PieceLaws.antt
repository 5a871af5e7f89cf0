-- Pieces of a history, as it grows by one number.
use Rattle.std.specs.Prelude.{◌≡◌, ℕ, zero, suc, ◌+◌, ◌-◌, ◌*◌, ◌<◌, ◌≤◌, ◌⊎◌, List, [], ◌∷◌, ◌++◌, length, take, drop, Some, None, if◌then◌else◌}
use Rattle.std.proofs.Common.{refl, ap, sym, subst, ◌∙◌, arith, inl, inr, length-drop}
use Rattle.std.proofs.lemmas.Bool.{lt-ltb, le-ltb}
use Rattle.std.proofs.lemmas.List.{length_push, take-append-le, drop-drop}
use Rattle.std.proofs.Math.Nat.{zero-mul, suc-mul}
use Rattle.spiel_layers.specs.Repeated.{piece_of, before_piece}

-- one of the two holds
pub decide : (a b : ℕ) → (a < b) ⊎ (b ≤ a)
decide a b = grind arith

pub drop_push : (n : ℕ) (h : List ℕ) (a : ℕ) → n ≤ length h → drop n (h ++ a ∷ []) ≡ drop n h ++ a ∷ []
drop_push zero h a l = refl
drop_push (suc n) [] a l = absurd (omega arith)
drop_push (suc n) (x ∷ h) a l = drop_push n h a (omega arith)

-- a round that is not full
piece_here : (n k : ℕ) (h : List ℕ) → length h < n → piece_of n (suc k) h ≡ Some h
piece_here n k h l = ap (λ b. if b then Some h else piece_of n k (drop n h)) (lt-ltb (length h) n l)

-- a round that is full
piece_later : (n k : ℕ) (h : List ℕ) → n ≤ length h → piece_of n (suc k) h ≡ piece_of n k (drop n h)
piece_later n k h l = ap (λ b. if b then Some h else piece_of n k (drop n h)) (le-ltb (length h) n l)

-- behind so many full rounds
pub piece_at : (n r j : ℕ) (h : List ℕ) → j < r → j * n ≤ length h → length h < j * n + n → piece_of n r h ≡ Some (drop (j * n) h)
piece_at n zero j h l m w = absurd (omega arith)
piece_at n (suc r) zero h l m w = piece_here n r h (omega (arith, zero-mul n)) ∙ ap (λ z. Some (drop z h)) (sym (zero-mul n))
piece_at n (suc r) (suc j) h l m w =
    let e = suc-mul j n in
    let whole : n + j * n ≡ suc j * n = omega (arith, e) in
    piece_later n r h (omega (arith, e))
    ∙ piece_at n r j (drop n h) (omega arith) (omega (arith, e, length-drop n h)) (omega (arith, e, length-drop n h))
    ∙ ap Some (drop-drop (j * n) n h ∙ ap (λ z. drop z h) whole)

-- behind the last round
pub piece_over : (n r : ℕ) (h : List ℕ) → r * n ≤ length h → piece_of n r h ≡ None
piece_over n zero h l = refl
piece_over n (suc r) h l =
    let e = suc-mul r n in
    piece_later n r h (omega (arith, e)) ∙ piece_over n r (drop n h) (omega (arith, e, length-drop n h))

-- one number more: the piece grows, or the round is full and another begins
abbrev pub Grows : ℕ → ℕ → List ℕ → List ℕ → ℕ → Type 0
Grows n k h piece a =
    ((length piece + 1 < n) × (piece_of n k (h ++ a ∷ []) ≡ Some (piece ++ a ∷ []))) ⊎ ((length piece + 1 ≡ n) × ((piece_of n k (h ++ a ∷ []) ≡ None) ⊎ (piece_of n k (h ++ a ∷ []) ≡ Some [])))

-- before the first number
pub fresh : (n k : ℕ) → 0 < n → (piece_of n k [] ≡ None) ⊎ (piece_of n k [] ≡ Some [])
fresh n zero l = inl refl
fresh n (suc k) l = inr (piece_here n k [] l)

pub drop_whole : (n : ℕ) (h : List ℕ) → length h ≤ n → drop n h ≡ []
drop_whole zero [] l = refl
drop_whole zero (x ∷ h) l = absurd (omega arith)
drop_whole (suc n) [] l = refl
drop_whole (suc n) (x ∷ h) l = drop_whole n h (omega arith)

grows_here : (n k : ℕ) (h : List ℕ) (a : ℕ) → 0 < n → length h < n → (length h + 1 < n) ⊎ (n ≤ length h + 1) → Grows n (suc k) h h a
grows_here n k h a pos_n l (inl m) = inl (m, piece_here n k (h ++ a ∷ []) (omega (arith, length_push h a)))
grows_here n k h a pos_n l (inr m) =
    let e : piece_of n (suc k) (h ++ a ∷ []) ≡ piece_of n k [] = piece_later n k (h ++ a ∷ []) (omega (arith, length_push h a)) ∙ ap (piece_of n k) (drop_whole n (h ++ a ∷ []) (omega (arith, length_push h a))) in
    inr (omega arith, elim (fresh n k pos_n) [ inl f ↦ inl (e ∙ f) | inr f ↦ inr (e ∙ f) ])

pub grows : (n k : ℕ) (h piece : List ℕ) (a : ℕ) → 0 < n → piece_of n k h ≡ Some piece → Grows n k h piece a
grows n zero h piece a pos_n e = cc
grows n (suc k) h piece a pos_n e = elim (decide (length h) n) [
  | inl l ↦ (let q : h ≡ piece = let f = piece_here n k h l in cc in subst (λ (z : List ℕ). Grows n (suc k) h z a) q (grows_here n k h a pos_n l (decide (length h + 1) n)))
  | inr l ↦ (let f : piece_of n (suc k) (h ++ a ∷ []) ≡ piece_of n k (drop n h ++ a ∷ []) = piece_later n k (h ++ a ∷ []) (omega (arith, length_push h a)) ∙ ap (piece_of n k) (drop_push n h a l) in
      elim (grows n k (drop n h) piece a pos_n (sym (piece_later n k h l) ∙ e)) [
        | inl g ↦ inl (g.0, f ∙ g.1)
        | inr g ↦ inr (g.0, elim g.1 [ inl x ↦ inl (f ∙ x) | inr x ↦ inr (f ∙ x) ])
      ])
]

-- how long a history is, before the last round is over and after it
pub inside_short : (n r : ℕ) (h piece : List ℕ) → piece_of n r h ≡ Some piece → length h < r * n
inside_short n zero h piece e = cc
inside_short n (suc r) h piece e = elim (decide (length h) n) [
  | inl l ↦ omega (arith, suc-mul r n)
  | inr l ↦ omega (arith, suc-mul r n, inside_short n r (drop n h) piece (sym (piece_later n r h l) ∙ e), length-drop n h)
]

pub over_long : (n r : ℕ) (h : List ℕ) → piece_of n r h ≡ None → r * n ≤ length h
over_long n zero h e = omega (arith, zero-mul n)
over_long n (suc r) h e = elim (decide (length h) n) [
  | inl l ↦ (let f = piece_here n r h l in cc)
  | inr l ↦ omega (arith, suc-mul r n, over_long n r (drop n h) (sym (piece_later n r h l) ∙ e), length-drop n h)
]

-- a number more in the unfinished piece leaves the full pieces as they are
pub before_push : (h piece : List ℕ) (a : ℕ) → before_piece (h ++ a ∷ []) (piece ++ a ∷ []) ≡ before_piece h piece
before_push h piece a =
    ap (λ n. take n (h ++ a ∷ [])) (omega (arith, length_push h a, length_push piece a)) ∙ take-append-le (length h - length piece) h (a ∷ []) (omega arith)
