-- What was written, one pair more.
use Rattle.std.proofs.Common.{◌≡◌, ℕ, zero, suc, ◌+◌, ◌<◌, List, [], ◌∷◌, ◌++◌, length, take, refl, sym, ap, ◌∙◌, arith, add-one}
use Rattle.std.specs.Prelude.{slice_index}
use Rattle.serde_json.specs.Data.{Data}
use Rattle.spiel_policy.specs.Writing.{pair_data, pairs_data}

pairs_next : (total : ℕ) (numbers weights : List ℕ) (k : ℕ) → k < length numbers → k < length weights
    → pairs_data total (take (suc k) numbers) (take (suc k) weights) ≡ pairs_data total (take k numbers) (take k weights) ++ pair_data total (slice_index numbers k) (slice_index weights k) ∷ []
pairs_next total [] weights k l m = absurd (omega arith)
pairs_next total (n ∷ numbers) [] k l m = absurd (omega arith)
pairs_next total (n ∷ numbers) (w ∷ weights) zero l m = refl
pairs_next total (n ∷ numbers) (w ∷ weights) (suc k) l m = ap (λ (ds : List Data). pair_data total n w ∷ ds) (pairs_next total numbers weights k (omega arith) (omega arith))

pub pairs_more : (total : ℕ) (numbers weights : List ℕ) (k : ℕ) → k < length numbers → k < length weights
    → pairs_data total (take k numbers) (take k weights) ++ pair_data total (slice_index numbers k) (slice_index weights k) ∷ [] ≡ pairs_data total (take (k + 1) numbers) (take (k + 1) weights)
pairs_more total numbers weights k l m =
    sym (pairs_next total numbers weights k l m) ∙ ap (λ (j : ℕ). pairs_data total (take j numbers) (take j weights)) (sym (add-one k))
