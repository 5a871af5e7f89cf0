-- Names that are added byte by byte.
use Rattle.std.proofs.Common.{◌≡◌, ℕ, zero, suc, ◌≤◌, min, List, [], ◌∷◌, ◌++◌, length, map, take, drop, refl, sym, ap, ◌∙◌, arith, take-append-drop}
use Rattle.std.proofs.lemmas.List.{map-append, take_all}
use Rattle.spiel_frac.specs.Adding.{AddsPart}
use Rattle.spiel_matrix.specs.Names.{printed, printed_byte}

-- the first bytes, as many as there are
pub first_bytes : (text : List ℕ) (most n : ℕ) → n ≡ min (length text) most → take n text ≡ take most text
first_bytes [] zero zero e = refl
first_bytes [] zero (suc n) e = refl
first_bytes [] (suc most) zero e = refl
first_bytes [] (suc most) (suc n) e = refl
first_bytes (byte ∷ text) zero zero e = refl
first_bytes (byte ∷ text) zero (suc n) e = absurd (omega arith)
first_bytes (byte ∷ text) (suc most) zero e = absurd (omega arith)
first_bytes (byte ∷ text) (suc most) (suc n) e = ap (λ (rest : List ℕ). byte ∷ rest) (first_bytes text most n (omega arith))

-- some of the bytes were added
pub part_printed : (text old now new : List ℕ) (n k : ℕ) → n ≡ min (length text) 64 → now ≡ old ++ map printed_byte (take k (take n text)) → new ≡ now → AddsPart old new (printed text)
part_printed text old now new n k e before same =
    let first : List ℕ = take n text in
    record {
      part = map printed_byte (take k first);
      rest = map printed_byte (drop k first);
      whole = ap (λ (bytes : List ℕ). map printed_byte bytes) (sym (first_bytes text 64 n e) ∙ sym (take-append-drop k first)) ∙ map-append printed_byte (take k first) (drop k first);
      added = same ∙ before;
    }

-- all of them were
pub all_printed : (text old new : List ℕ) (n k : ℕ) → n ≡ min (length text) 64 → new ≡ old ++ map printed_byte (take k (take n text)) → length (take n text) ≤ k → new ≡ old ++ printed text
all_printed text old new n k e before all =
    before ∙ ap (λ (bytes : List ℕ). old ++ map printed_byte bytes) (take_all k (take n text) all ∙ first_bytes text 64 n e)
