-- Files in memory.
use Rattle.std.proofs.Common.{◌≡◌, ℕ, zero, suc, ◌+◌, ◌-◌, ◌<◌, ◌≤◌, true, false, cond, eqb, ltb, List, [], ◌∷◌, ◌++◌, length, take, drop, get_or, Some, refl, sym, ap, ◌∙◌, arith}
use Rattle.std.proofs.lemmas.List.{take-append-drop, take_at, length-take, length-drop, drop-drop}
use Rattle.std.proofs.lemmas.Bool.{ne_eqb, and_parts, and_from, ltb-true, lt-ltb}
use Rattle.std.specs.List.{list_any, list_all}
use Rattle.std.specs.Str.{bytes_eq}
use Rattle.spiel_io.specs.Outside.{held}
use Rattle.spiel_io.specs.MemShelf.{bytes_at}

pub file_there : (files : List (List ℕ × List ℕ)) (i : ℕ) (d : List ℕ × List ℕ) → i < length files → bytes_at files i ≡ (get_or files i d).1
file_there [] i d h = absurd (omega arith)
file_there (file ∷ files) zero d h = refl
file_there (file ∷ files) (suc i) d h = file_there files i d (omega arith)

pub file_past : (files : List (List ℕ × List ℕ)) (i : ℕ) → length files ≤ i → bytes_at files i ≡ []
file_past [] i h = refl
file_past (file ∷ files) zero h = absurd (omega arith)
file_past (file ∷ files) (suc i) h = file_past files i (omega arith)

-- the first file of the name is found
pub held_here : (files : List (List ℕ × List ℕ)) (i : ℕ) (d : List ℕ × List ℕ) (name : List ℕ) → i < length files
    → bytes_eq (get_or files i d).0 name ≡ true → held (drop i files) name ≡ Some (bytes_at files i)
held_here [] i d name h e = absurd (omega arith)
held_here (file ∷ files) zero d name h e = ap (λ b. cond b (Some file.1) (held files name)) e
held_here (file ∷ files) (suc i) d name h e = held_here files i d name (omega arith) e

-- the next piece of what is left
pub piece_moved : (bytes buf piece : List ℕ) (from n : ℕ) → piece ≡ take n (drop from bytes) → n ≤ length bytes - from
    → drop from bytes ≡ take n (piece ++ drop n buf) ++ drop (from + n) bytes
piece_moved bytes buf piece from n e h =
    let fits : length piece ≡ n = ap length e ∙ simp (length-take, length-drop) (omega arith) in
    rw (take_at piece (drop n buf) n fits, e, ← drop-drop n from bytes) (sym (take-append-drop n (drop from bytes)))

-- where all numbers of failing calls are past, the next call is none of them
pub past_none : (numbers : List ℕ) (calls : ℕ) → list_all (λ n. ltb n calls) numbers ≡ true → list_any (λ n. eqb n calls) numbers ≡ false
past_none [] calls h = refl
past_none (n ∷ numbers) calls h =
    let parts = and_parts _ _ h in
    let below = ltb-true n calls parts.0 in
    rw (ne_eqb n calls (λ e. omega arith)) (past_none numbers calls parts.1)

-- numbers that are past stay so
pub past_more : (numbers : List ℕ) (calls more : ℕ) → calls ≤ more → list_all (λ n. ltb n calls) numbers ≡ true → list_all (λ n. ltb n more) numbers ≡ true
past_more [] calls more le h = refl
past_more (n ∷ numbers) calls more le h =
    let parts = and_parts _ _ h in
    let below = ltb-true n calls parts.0 in
    and_from _ _ (lt-ltb n more (omega arith)) (past_more numbers calls more le parts.1)
