-- The first line of a text, and what follows it.
use Rattle.std.proofs.Common.{◌≡◌, ℕ, Bool, true, false, cond, eqb, List, [], ◌∷◌, Option, Some, None, refl, ap, ◌∙◌}
use Rattle.std.specs.List.{onto_first}
use Rattle.spiel_frac.specs.Cuts.{cut, with_front}
use Rattle.spiel_save.specs.Lines.{lines_of}

-- the line before the first line feed, and those behind it
abbrev lines_by : Option (List ℕ × List ℕ) → List ℕ → List (List ℕ)
lines_by (Some sides) bytes = sides.0 ∷ lines_of sides.1
lines_by None [] = []
lines_by None (byte ∷ bytes) = (byte ∷ bytes) ∷ []

lines_front : (byte : ℕ) (r : Option (List ℕ × List ℕ)) (bytes : List ℕ) → onto_first byte (lines_by r bytes) ≡ lines_by (with_front byte r) (byte ∷ bytes)
lines_front byte (Some sides) bytes = refl
lines_front byte None [] = refl
lines_front byte None (next ∷ bytes) = refl

lines_next : (feed : Bool) (byte : ℕ) (bytes : List ℕ) → lines_of bytes ≡ lines_by (cut 10 bytes) bytes
    → cond feed ([] ∷ lines_of bytes) (onto_first byte (lines_of bytes)) ≡ lines_by (cond feed (Some ([], bytes)) (with_front byte (cut 10 bytes))) (byte ∷ bytes)
lines_next true byte bytes e = refl
lines_next false byte bytes e = ap (onto_first byte) e ∙ lines_front byte (cut 10 bytes) bytes

lines_are : (bytes : List ℕ) → lines_of bytes ≡ lines_by (cut 10 bytes) bytes
lines_are [] = refl
lines_are (byte ∷ bytes) = lines_next (eqb byte 10) byte bytes (lines_are bytes)

-- what a text is up to its first line feed, and behind it
pub cut_line : (bytes line behind : List ℕ) → cut 10 bytes ≡ Some (line, behind) → lines_of bytes ≡ line ∷ lines_of behind
cut_line bytes line behind e = lines_are bytes ∙ ap (λ (r : Option (List ℕ × List ℕ)). lines_by r bytes) e

-- without a line feed all is one line
pub whole_line : (bytes : List ℕ) → cut 10 bytes ≡ None → (bytes ≡ [] → ⊥) → lines_of bytes ≡ bytes ∷ []
whole_line [] e some = absurd (some refl)
whole_line (byte ∷ bytes) e some = lines_are (byte ∷ bytes) ∙ ap (λ (r : Option (List ℕ × List ℕ)). lines_by r (byte ∷ bytes)) e
