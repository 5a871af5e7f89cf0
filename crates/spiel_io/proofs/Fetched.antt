-- The text of a file so far, as one piece more is read.
use Rattle.std.proofs.Common.{◌≡◌, List, ℕ, ◌++◌, Option, Some, None, sym, ap, subst, ◌∙◌, append_assoc}
use Rattle.std.specs.Prelude.{IfSome}
use Rattle.spiel_io.specs.Outside.{Files, held}

step : (files : Option Files) (name text piece left rest new : List ℕ)
    → IfSome files (λ files. held files name ≡ Some (text ++ left)) → IfSome files (λ files. left ≡ piece ++ rest) → new ≡ text ++ piece
    → IfSome files (λ files. held files name ≡ Some (new ++ rest))
step None name text piece left rest new before read added = tt
step (Some files) name text piece left rest new before read added =
    before ∙ ap Some (ap (λ z. text ++ z) read ∙ sym (append_assoc text piece rest) ∙ ap (λ z. z ++ rest) (sym added))

-- the piece was read from a shelf that tells as much as before
pub bytes_step : (first now : Option Files) (name text piece left rest new : List ℕ) → now ≡ first
    → IfSome first (λ files. held files name ≡ Some (text ++ left)) → IfSome now (λ files. left ≡ piece ++ rest) → new ≡ text ++ piece
    → IfSome first (λ files. held files name ≡ Some (new ++ rest))
bytes_step first now name text piece left rest new same before read added =
    step first name text piece left rest new before (subst (λ (files : Option Files). IfSome files (λ files. left ≡ piece ++ rest)) same read) added
