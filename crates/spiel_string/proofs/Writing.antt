-- The canonical text, entry by entry.
use Rattle.std.proofs.Common.{◌≡◌, ◌<◌, ◌+◌, ℕ, List, [], ◌∷◌, ◌++◌, length, take, get_or, refl, sym, ◌∙◌, ap, append_assoc, arith}
use Rattle.std.proofs.lemmas.List.{take_more, length-take-le}
use Rattle.spiel_string.specs.Canonical.{Entry, joined, comma_at, params_entries, value_text}
use Rattle.spiel_string.specs.Insertion.{insert_pair}
use Rattle.spiel_string.specs.Sorted.{sorted}
use Rattle.spiel_string.specs.View.{params_view, value_view}
use Rattle.spiel_string.specs.declared.value.ParamValue.{ParamValue}
use Rattle.spiel_string.proofs.Sorting.{sorted-push}

abbrev entry_text : Entry → List ℕ
entry_text entry = entry.0 ++ 61 ∷ entry.1

joined-push : (xs : List Entry) (p : Entry) → joined (xs ++ p ∷ []) ≡ joined xs ++ (comma_at (length xs) ++ entry_text p)
joined-push [] p = refl
joined-push (x ∷ []) p = sym (append_assoc x.0 (61 ∷ x.1) (44 ∷ entry_text p))
joined-push (x ∷ y ∷ ys) p =
    ap (λ u. x.0 ++ 61 ∷ (x.1 ++ 44 ∷ u)) (joined-push (y ∷ ys) p)
    ∙ ap (λ u. x.0 ++ 61 ∷ u) (sym (append_assoc x.1 (44 ∷ joined (y ∷ ys)) (comma_at (length (y ∷ ys)) ++ entry_text p)))
    ∙ sym (append_assoc x.0 (61 ∷ (x.1 ++ 44 ∷ joined (y ∷ ys))) (comma_at (length (y ∷ ys)) ++ entry_text p))

pub joined_more : (xs : List Entry) (i : ℕ) (p : Entry) (old new : List ℕ) → i < length xs → p ≡ get_or xs i p → old ≡ joined (take i xs) → new ≡ old ++ (comma_at i ++ entry_text p)
    → new ≡ joined (take (i + 1) xs)
joined_more xs i p old new lt e h q =
    q ∙ ap (λ u. u ++ (comma_at i ++ entry_text p)) h ∙ ap (λ n. joined (take i xs) ++ (comma_at n ++ entry_text p)) (sym (length-take-le i xs (omega arith)))
    ∙ sym (joined-push (take i xs) p) ∙ ap joined (ap (λ u. take i xs ++ u ∷ []) e ∙ sym (take_more xs i p lt))

-- the entries of some parameters
abbrev entries_of : List (List ℕ × ParamValue) → List Entry
entries_of ps = params_entries (params_view ps)

entries_of-push : (ps : List (List ℕ × ParamValue)) (p : List ℕ × ParamValue) → entries_of (ps ++ p ∷ []) ≡ entries_of ps ++ (p.0, value_text (value_view p.1)) ∷ []
entries_of-push [] p = refl
entries_of-push (q ∷ ps) p = ap (λ (u : List Entry). (q.0, value_text (value_view q.1)) ∷ u) (entries_of-push ps p)

-- an entry goes in
pub sorted_more : (ps : List (List ℕ × ParamValue)) (i : ℕ) (p : List ℕ × ParamValue) (old new : List Entry) → i < length ps → p ≡ get_or ps i p
    → old ≡ sorted (params_entries (params_view (take i ps))) → new ≡ insert_pair (p.0, value_text (value_view p.1)) old
    → new ≡ sorted (params_entries (params_view (take (i + 1) ps)))
sorted_more ps i p old new lt e h q =
    let here : take (i + 1) ps ≡ take i ps ++ p ∷ [] = take_more ps i p lt ∙ ap (λ u. take i ps ++ u ∷ []) (sym e) in
    q ∙ ap (insert_pair (p.0, value_text (value_view p.1))) h ∙ sym (sorted-push (entries_of (take i ps)) (p.0, value_text (value_view p.1)))
    ∙ ap sorted (sym (entries_of-push (take i ps) p)) ∙ ap (λ u. sorted (entries_of u)) (sym here)
