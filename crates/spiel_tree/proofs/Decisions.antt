-- What holds of a decision where nothing is wrong.
use Rattle.std.proofs.Common.{◌≡◌, ℕ, ◌<◌, Bool, true, false, cond, List, length, Some, None, refl, ap, sym, ◌∙◌}
use Rattle.std.specs.Str.{bytes_eq}
use Rattle.std.proofs.lemmas.Slice.Eq.{bytes_eq-Decides}
use Rattle.spiel_api.specs.declared.place.Place.{Place}
use Rattle.spiel_api.specs.declared.place.Place.TheVariants.{Move}
use Rattle.spiel_tree.specs.Rows.{Row}
use Rattle.spiel_tree.specs.Flat.{row_at}
use Rattle.spiel_tree.specs.States.{first_row}
use Rattle.spiel_tree.specs.Faults.{IsFaultless, against, against_numbers, fault_by, own_past, same_past}
use Rattle.spiel_tree.specs.declared.faults.Fault.{Fault}
use Rattle.spiel_tree.specs.declared.faults.Fault.TheVariants.{Recall}
use Rattle.spiel_tree.proofs.OwnPasts.{same_past-is}

no_fault : (b : Bool) (fault : Fault) → cond b None (Some fault) ≡ None → b ≡ true
no_fault true fault e = refl
no_fault false fault e = cc

-- a row of a player is like another: the same own past, and the same numbers
pub record IsLike (p : ℕ) (first here : Row) : Type 0 where
  pub past : own_past p first.way ≡ own_past p here.way
  pub numbers : first.here.numbers ≡ here.here.numbers

like_by : (first here : Row) (p f k : ℕ) → against first here p f k ≡ None → IsLike p first here
like_by first here p f k e = by (same_past (own_past p first.way) (own_past p here.way)) refl e
  where
    by : (b : Bool) → same_past (own_past p first.way) (own_past p here.way) ≡ b → cond b (against_numbers first here p f k) (Some (Recall p f k)) ≡ None → IsLike p first here
    by true same none = record {
      past = same_past-is (own_past p first.way) (own_past p here.way) same;
      numbers = (bytes_eq-Decides first.here.numbers here.here.numbers).0 (no_fault (bytes_eq first.here.numbers here.here.numbers) _ none);
    }
    by false same none = cc

-- where nothing is wrong, each decision is like the first row of its information state
pub like_first : (rows : List Row) (k p : ℕ) → IsFaultless rows → k < length rows → (row_at rows k).here.place ≡ Move p → IsLike p (row_at rows (first_row p (row_at rows k).here.info rows)) (row_at rows k)
like_first rows k p faultless l e =
    let here = row_at rows k in
    let f = first_row p here.here.info rows in
    like_by (row_at rows f) here p f k (ap (λ (q : Place). fault_by rows k here q) (sym e) ∙ faultless k l)
