-- What is read line by line, against the whole list of lines.
use Rattle.std.proofs.Common.{◌≡◌, ℕ, List, [], ◌∷◌, ◌++◌, Result, Ok, Err, refl, sym, ap, append_assoc}
use Rattle.spiel_save.specs.Numbers.{with_first}

-- these numbers before those that are read
abbrev pub after : List ℕ → Result (List ℕ) ℕ → Result (List ℕ) ℕ
after before (Ok numbers) = Ok (before ++ numbers)
after before (Err at) = Err at

pub after_none : (r : Result (List ℕ) ℕ) → r ≡ after [] r
after_none (Ok numbers) = refl
after_none (Err at) = refl

-- one number more
pub after_one : (before : List ℕ) (n : ℕ) (r : Result (List ℕ) ℕ) → after before (with_first n r) ≡ after (before ++ n ∷ []) r
after_one before n (Ok numbers) = ap (λ (xs : List ℕ). Ok xs) (sym (append_assoc before (n ∷ []) numbers))
after_one before n (Err at) = refl
