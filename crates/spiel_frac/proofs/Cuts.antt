-- What stands before the first of some bytes, and what behind it; and what stands between them.
use Rattle.std.proofs.Common.{◌≡◌, ℕ, zero, suc, ◌+◌, ◌<◌, ◌≤◌, Bool, true, false, cond, eqb, List, [], ◌∷◌, ◌++◌, length, take, drop, Option, Some, None, refl, sym, ap, ◌∙◌, inl, inr, arith, add-one}
use Rattle.std.specs.Prelude.{not, position}
use Rattle.std.specs.Char.{is_ascii_digit}
use Rattle.std.specs.List.{between, list_all, onto_first, prefix_len}
use Rattle.std.proofs.lemmas.Bool.{and_parts, ltb-true, ltb-false, true≢false}
use Rattle.std.proofs.lemmas.Bool.Decides.{eqb_tells}
use Rattle.std.proofs.lemmas.Slice.{between_to_end}
use Rattle.spiel_frac.specs.Cuts.{cut, parts_of, with_front}

-- ---- by the place of the first

abbrev is_other : ℕ → ℕ → Bool
is_other mark byte = not (eqb byte mark)

cut_by : (hit : Bool) (mark byte : ℕ) (bytes : List ℕ) (n : ℕ) → cond (not hit) (1 + prefix_len (is_other mark) bytes) 0 ≡ n
    → ((m : ℕ) → prefix_len (is_other mark) bytes ≡ m → m < length bytes → cut mark bytes ≡ Some (take m bytes, drop (suc m) bytes))
    → n < suc (length bytes)
    → cond hit (Some ([], bytes)) (with_front byte (cut mark bytes)) ≡ Some (take n (byte ∷ bytes), drop (suc n) (byte ∷ bytes))
cut_by true mark byte bytes zero e more within = refl
cut_by true mark byte bytes (suc n) e more within = absurd (omega arith)
cut_by false mark byte bytes zero e more within = absurd (omega arith)
cut_by false mark byte bytes (suc n) e more within = ap (with_front byte) (more n (omega arith) (omega arith))

cut_first : (mark : ℕ) (bytes : List ℕ) (n : ℕ) → prefix_len (is_other mark) bytes ≡ n → n < length bytes → cut mark bytes ≡ Some (take n bytes, drop (suc n) bytes)
cut_first mark [] n e within = absurd (omega arith)
cut_first mark (byte ∷ bytes) n e within = cut_by (eqb byte mark) mark byte bytes n e (λ m f w. cut_first mark bytes m f w) within

uncut_by : (hit : Bool) (mark byte : ℕ) (bytes : List ℕ) → suc (length bytes) ≤ cond (not hit) (1 + prefix_len (is_other mark) bytes) 0
    → (length bytes ≤ prefix_len (is_other mark) bytes → cut mark bytes ≡ None)
    → cond hit (Some ([], bytes)) (with_front byte (cut mark bytes)) ≡ None
uncut_by true mark byte bytes none more = absurd (omega arith)
uncut_by false mark byte bytes none more = ap (with_front byte) (more (omega arith))

uncut : (mark : ℕ) (bytes : List ℕ) → length bytes ≤ prefix_len (is_other mark) bytes → cut mark bytes ≡ None
uncut mark [] none = refl
uncut mark (byte ∷ bytes) none = uncut_by (eqb byte mark) mark byte bytes none (λ n. uncut mark bytes n)

found_by : (test : Bool) (n k : ℕ) → Some n ≡ cond test (Some k) None → (test ≡ true) × (k ≡ n)
found_by true n k e = (refl, cc)
found_by false n k e = let none : ⊥ = cc in absurd none

missed_by : (test : Bool) (k : ℕ) → None ≡ cond test (Some k) None → test ≡ false
missed_by true k e = let none : ⊥ = cc in absurd none
missed_by false k e = refl

pub cut_at : (mark : ℕ) (bytes : List ℕ) (n : ℕ) → Some n ≡ position (λ byte. eqb byte mark) bytes → cut mark bytes ≡ Some (take n bytes, between (n + 1) (length bytes) bytes)
cut_at mark bytes n e =
    let found = found_by _ n _ e in
    let within = ltb-true _ _ found.0 in
    let inside : n < length bytes = omega (arith, within, found.1) in
    rw (between_to_end bytes (n + 1) (length bytes) (omega arith), add-one n) (cut_first mark bytes n found.1 inside)

pub cut_nowhere : (mark : ℕ) (bytes : List ℕ) → None ≡ position (λ byte. eqb byte mark) bytes → cut mark bytes ≡ None
cut_nowhere mark bytes e = uncut mark bytes (ltb-false _ _ (missed_by _ _ e))

-- ---- what was cut is the text

abbrev pub IsCut : ℕ → List ℕ → Option (List ℕ × List ℕ) → Type 0
IsCut mark bytes None = Unit {0}
IsCut mark bytes (Some sides) = bytes ≡ sides.0 ++ mark ∷ sides.1

joined_front : (mark byte : ℕ) (bytes : List ℕ) (r : Option (List ℕ × List ℕ)) → IsCut mark bytes r → IsCut mark (byte ∷ bytes) (with_front byte r)
joined_front mark byte bytes None h = tt
joined_front mark byte bytes (Some sides) h = ap (λ (xs : List ℕ). byte ∷ xs) h

joined_by : (hit : Bool) (mark byte : ℕ) (bytes : List ℕ) → (hit ≡ true → byte ≡ mark) → IsCut mark bytes (cut mark bytes)
    → IsCut mark (byte ∷ bytes) (cond hit (Some ([], bytes)) (with_front byte (cut mark bytes)))
joined_by true mark byte bytes same h = ap (λ (x : ℕ). x ∷ bytes) (same refl)
joined_by false mark byte bytes same h = joined_front mark byte bytes (cut mark bytes) h

pub same_by : (byte mark : ℕ) → eqb byte mark ≡ true → byte ≡ mark
same_by byte mark h = elim (eqb_tells byte mark) [ inl e ↦ e.1 | inr e ↦ absurd (true≢false (sym h ∙ e.0)) ]

pub cut-IsCut : (mark : ℕ) (bytes : List ℕ) → IsCut mark bytes (cut mark bytes)
cut-IsCut mark [] = tt
cut-IsCut mark (byte ∷ bytes) = joined_by (eqb byte mark) mark byte bytes (same_by byte mark) (cut-IsCut mark bytes)

-- ---- parts

-- the part before the first of these bytes, and those behind it
abbrev parts_by : ℕ → List ℕ → Option (List ℕ × List ℕ) → List (List ℕ)
parts_by mark bytes None = bytes ∷ []
parts_by mark bytes (Some sides) = sides.0 ∷ parts_of mark sides.1

parts_front : (mark byte : ℕ) (bytes : List ℕ) (r : Option (List ℕ × List ℕ)) → onto_first byte (parts_by mark bytes r) ≡ parts_by mark (byte ∷ bytes) (with_front byte r)
parts_front mark byte bytes None = refl
parts_front mark byte bytes (Some sides) = refl

parts_next : (hit : Bool) (mark byte : ℕ) (bytes : List ℕ) → parts_of mark bytes ≡ parts_by mark bytes (cut mark bytes)
    → cond hit ([] ∷ parts_of mark bytes) (onto_first byte (parts_of mark bytes)) ≡ parts_by mark (byte ∷ bytes) (cond hit (Some ([], bytes)) (with_front byte (cut mark bytes)))
parts_next true mark byte bytes e = refl
parts_next false mark byte bytes e = ap (onto_first byte) e ∙ parts_front mark byte bytes (cut mark bytes)

parts_are : (mark : ℕ) (bytes : List ℕ) → parts_of mark bytes ≡ parts_by mark bytes (cut mark bytes)
unfolding parts_of
parts_are mark [] = refl
parts_are mark (byte ∷ bytes) = parts_next (eqb byte mark) mark byte bytes (parts_are mark bytes)

pub parts_uncut : (mark : ℕ) (bytes : List ℕ) → cut mark bytes ≡ None → parts_of mark bytes ≡ bytes ∷ []
parts_uncut mark bytes e = parts_are mark bytes ∙ ap (parts_by mark bytes) e

pub parts_cut : (mark : ℕ) (bytes before behind : List ℕ) → cut mark bytes ≡ Some (before, behind) → parts_of mark bytes ≡ before ∷ parts_of mark behind
parts_cut mark bytes before behind e = parts_are mark bytes ∙ ap (parts_by mark bytes) e

-- ---- digits in front

-- further bytes in front
abbrev pub with_fronts : List ℕ → Option (List ℕ × List ℕ) → Option (List ℕ × List ℕ)
with_fronts front None = None
with_fronts front (Some sides) = Some (front ++ sides.0, sides.1)

with_front-fronts : (byte : ℕ) (front : List ℕ) (r : Option (List ℕ × List ℕ)) → with_front byte (with_fronts front r) ≡ with_fronts (byte ∷ front) r
with_front-fronts byte front None = refl
with_front-fronts byte front (Some sides) = refl

with_fronts-none : (r : Option (List ℕ × List ℕ)) → r ≡ with_fronts [] r
with_fronts-none None = refl
with_fronts-none (Some sides) = refl

-- no digit is a mark that is none
pub no_mark : (mark byte : ℕ) → is_ascii_digit mark ≡ false → is_ascii_digit byte ≡ true → eqb byte mark ≡ false
no_mark mark byte m d = elim (eqb_tells byte mark) [ inl e ↦ absurd (true≢false (sym d ∙ ap is_ascii_digit e.1 ∙ m)) | inr e ↦ e.0 ]

-- digits are passed over
pub cut-digits : (mark : ℕ) (digits rest : List ℕ) → is_ascii_digit mark ≡ false → list_all is_ascii_digit digits ≡ true → cut mark (digits ++ rest) ≡ with_fronts digits (cut mark rest)
cut-digits mark [] rest m d = with_fronts-none (cut mark rest)
cut-digits mark (byte ∷ digits) rest m d =
    let parts = and_parts _ _ d in
    rw (no_mark mark byte m parts.0) (ap (with_front byte) (cut-digits mark digits rest m parts.1) ∙ with_front-fronts byte digits (cut mark rest))
