-- Choices, and the place of their contingency.
use Rattle.std.proofs.Common.{◌≡◌, ℕ, zero, suc, ◌+◌, ◌-◌, ◌*◌, ◌<◌, ◌≤◌, Bool, true, List, [], ◌∷◌, length, drop, sym, ap, subst, ◌∙◌, arith, if◌then◌else◌}
use Rattle.std.specs.Prelude.{slice_index, slice_index_or, OnOk}
use Rattle.std.specs.List.{range_with_len}
use Rattle.std.specs.declared.result.Result.{Result}
use Rattle.std.specs.declared.result.Result.TheVariants.{Ok, Err}
use Rattle.std.proofs.lemmas.List.{get_or_default}
use Rattle.std.proofs.lemmas.List.FromFn.{get_or-range_with_len, length-range_with_len}
use Rattle.std.proofs.Math.Nat.{mul-le-mul_right, one-mul}
use Rattle.spiel_api.specs.Plays.{IsPlay}
use Rattle.spiel_api.specs.Rules.{Rules}
use Rattle.spiel_api.specs.States.{StandsFor}
use Rattle.spiel_matrix.specs.declared.parts.MatrixParts.{MatrixParts}
use Rattle.spiel_matrix.specs.Contingencies.{contingencies, contingency_at}
use Rattle.spiel_matrix.specs.Matrix.{is_choosing, matrix_legal, strategies_of}
use Rattle.spiel_matrix.specs.MatrixPlays.{AreChoices, contingency_within, count_small, everywhere, matrix_from}
use Rattle.spiel_matrix.specs.Parts.{is_matrix, most_pays}

-- the place among the choices from one player on stands for a contingency
place_after : (strategies : List (List (List ℕ))) (h : List ℕ) (j : ℕ) (own : List (List ℕ)) → AreChoices strategies h → length h ≡ length strategies → j < length strategies → own ≡ slice_index_or strategies j own
    → slice_index_or h j 0 + length own * contingency_at (drop (suc j) strategies) (drop (suc j) h) < contingencies strategies
place_after [] h j own c e l same = absurd (omega arith)
place_after (first ∷ others) [] j own c e l same = absurd (omega arith)
place_after (first ∷ others) (a ∷ h) zero own c e l same = rw same (contingency_within (first ∷ others) (a ∷ h) c e)
place_after (first ∷ others) (a ∷ h) (suc j) own c e l same =
    let later = place_after others h j own c.1 (omega arith) (omega arith) same in
    let some : 1 ≤ length first = let chosen = c.0 in omega arith in
    let more : 1 * contingencies others ≤ length first * contingencies others = mul-le-mul_right (contingencies others) some in
    omega (arith, later, more, one-mul (contingencies others))

pub place_within : (strategies : List (List (List ℕ))) (h : List ℕ) (k : ℕ) (own : List (List ℕ)) → AreChoices strategies h → length h ≡ length strategies → 0 < k → k ≤ length strategies → own ≡ slice_index_or strategies (k - 1) own
    → slice_index_or h (k - 1) 0 + length own * contingency_at (drop k strategies) (drop k h) < contingencies strategies
place_within strategies h k own c e low high same =
    let next : suc (k - 1) ≡ k = omega arith in
    subst (λ n. slice_index_or h (k - 1) 0 + length own * contingency_at (drop n strategies) (drop n h) < contingencies strategies) next (place_after strategies h (k - 1) own c e (omega arith) same)

-- the longer history is a play
pub stands : {T E : Type 0} (rules : Rules) (r : Result T E) (new longer : List ℕ) → IsPlay rules longer → OnOk r (new ≡ longer) → OnOk r (StandsFor (λ s. IsPlay rules s) (λ s. s) new longer)
stands rules (Ok v) new longer play e = record { sound = subst (λ z. IsPlay rules z) (sym e) play; history = e }
stands rules (Err v) new longer play e = tt

-- the number at an index is the index
pub number_at : (parts : MatrixParts) (h : List ℕ) (p i : ℕ) → i < length (matrix_legal parts h p) → i ≡ slice_index (matrix_legal parts h p) i
number_at parts h p i = everywhere parts (λ place legal. i < length (legal p) → i ≡ slice_index (legal p) i) h
    (λ l m. let count : ℕ = length (strategies_of parts p) in let within : i < count = omega (arith, m, length-range_with_len 0 count) in omega (arith, get_or-range_with_len 0 count i 0 within))
    (λ l m. absurd (omega arith))

-- whoever chooses has a number for each strategy
pub number_count : (parts : MatrixParts) (h : List ℕ) (p : ℕ) (own : List (List ℕ)) → true ≡ is_choosing parts h → own ≡ strategies_of parts p → length own ≡ length (matrix_legal parts h p)
number_count parts h p own e same =
    ap length same ∙ sym (length-range_with_len 0 (length (strategies_of parts p))) ∙ ap (λ (b : Bool). length (if b then range_with_len 0 (length (strategies_of parts p)) else [])) e

-- a player of the game has few strategies
pub few_strategies : (parts : MatrixParts) (p : ℕ) (own : List (List ℕ)) → is_matrix parts ≡ true → p < length parts.players → own ≡ slice_index_or parts.strategies p own → length own ≤ most_pays
few_strategies parts p own is l same =
    let shape = (matrix_from parts is).shape in
    let at : own ≡ strategies_of parts p = same ∙ get_or_default parts.strategies p own [] (omega (arith, l, shape.lists)) in
    omega (arith, ap (λ (xs : List (List ℕ)). length xs) at, count_small parts shape p)
