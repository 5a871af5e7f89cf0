-- One line more.
use Rattle.std.proofs.Common.{◌≡◌, ℕ, ◌+◌, List, [], ◌∷◌, ◌++◌, map, flat_map, sym, ap, ◌∙◌, add-one, append_assoc}
use Rattle.std.proofs.lemmas.List.{map-append}
use Rattle.std.proofs.lemmas.Grind.{flat_map-append}
use Rattle.std.proofs.lemmas.List.{append-nil}
use Rattle.std.specs.Prelude.{Result, Ok, Err, OnOk}
use Rattle.spiel_frac.specs.Adding.{Adds}
use Rattle.spiel_frac.specs.Fraction.{Fraction, frac_text}
use Rattle.spiel_frac.specs.declared.memory.NoMemory.{NoMemory}
use Rattle.spiel_play.specs.Block.{below, ended, lines_text}

-- the lines below n, and the one of n
lines_more : (line : ℕ → List ℕ) (n : ℕ) → lines_text (map line (below (n + 1))) ≡ lines_text (map line (below n)) ++ ended (line n)
lines_more line n =
    rw (add-one, map-append line (below n) (n ∷ []))
    (flat_map-append ended (map line (below n)) (line n ∷ []) ∙ ap (λ last. lines_text (map line (below n)) ++ last) (append-nil (ended (line n))))

-- a line more was added to lines that were added
pub lines_added : (line : ℕ → List ℕ) (n : ℕ) (old now new : List ℕ) → now ≡ old ++ lines_text (map line (below n)) → new ≡ now ++ ended (line n)
    → new ≡ old ++ lines_text (map line (below (n + 1)))
lines_added line n old now new before more =
    more ∙ ap (λ text. text ++ ended (line n)) before ∙ append_assoc old (lines_text (map line (below n))) (ended (line n)) ∙ ap (λ text. old ++ text) (sym (lines_more line n))

texts_more : (text : ℕ → List ℕ) (n : ℕ) → flat_map text (below (n + 1)) ≡ flat_map text (below n) ++ text n
texts_more text n = rw add-one (flat_map-append text (below n) (n ∷ []) ∙ ap (λ last. flat_map text (below n) ++ last) (append-nil (text n)))

-- a text more was added behind a head and other texts
pub text_added : (text : ℕ → List ℕ) (n : ℕ) (old head now new : List ℕ) → now ≡ old ++ (head ++ flat_map text (below n)) → new ≡ now ++ text n
    → new ≡ old ++ (head ++ flat_map text (below (n + 1)))
text_added text n old head now new before more =
    more ∙ ap (λ z. z ++ text n) before ∙ append_assoc old (head ++ flat_map text (below n)) (text n)
    ∙ ap (λ z. old ++ z) (append_assoc head (flat_map text (below n)) (text n) ∙ ap (λ z. head ++ z) (sym (texts_more text n)))

-- a fraction was added behind a space
pub fraction_added : (result : Result (Unit {0}) NoMemory) (old now new : List ℕ) (f g : Fraction) → now ≡ old ++ 32 ∷ [] → Adds result now new (frac_text f) → f ≡ g
    → OnOk result (new ≡ old ++ 32 ∷ frac_text g)
fraction_added (Ok done) old now new f g space added same =
    added ∙ ap (λ z. z ++ frac_text f) space ∙ append_assoc old (32 ∷ []) (frac_text f) ∙ ap (λ (x : Fraction). old ++ 32 ∷ frac_text x) same
fraction_added (Err error) old now new f g space added same = tt
