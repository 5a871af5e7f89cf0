-- The rows that a fault names.
use Rattle.std.proofs.Common.{◌≡◌, ℕ, zero, suc, ◌<◌, Bool, true, false, cond, List, length, Option, Some, None, refl, subst, arith}
use Rattle.std.specs.Prelude.{IfSome}
use Rattle.std.specs.Str.{bytes_eq}
use Rattle.spiel_api.specs.declared.place.Place.{Place}
use Rattle.spiel_api.specs.declared.place.Place.TheVariants.{End, Chance, Move, Joint}
use Rattle.spiel_tree.specs.Rows.{Row}
use Rattle.spiel_tree.specs.Flat.{row_at}
use Rattle.spiel_tree.specs.States.{first_row}
use Rattle.spiel_tree.specs.Faults.{NamesRows, fault_by, IsFirst, own_past, same_past}
use Rattle.spiel_tree.specs.declared.faults.Fault.{Fault}
use Rattle.spiel_tree.specs.declared.faults.Fault.TheVariants.{Actions, Recall}
use Rattle.spiel_tree.proofs.FirstFault.{first_within, own_decides}

named_if : (n p f k : ℕ) (b c : Bool) → f < n → k < n → IfSome (cond b (cond c None (Some (Actions p f k))) (Some (Recall p f k))) (NamesRows n)
named_if n p f k true true l m = tt
named_if n p f k true false l m = (l, m)
named_if n p f k false c l m = (l, m)

named_by : (rows : List Row) (k : ℕ) → k < length rows → (place : Place) → (row_at rows k).here.place ≡ place → IfSome (fault_by rows k (row_at rows k) place) (NamesRows (length rows))
named_by rows k l End e = tt
named_by rows k l Chance e = tt
named_by rows k l (Joint zero) e = l
named_by rows k l (Joint (suc p)) e = tt
named_by rows k l (Move p) e =
    let first = first_row p (row_at rows k).here.info rows in
    let below : first < length rows = omega (arith, l, first_within p (row_at rows k).here.info rows k l (own_decides p (row_at rows k) e)) in
    named_if (length rows) p first k (same_past (own_past p (row_at rows first).way) (own_past p (row_at rows k).way)) (bytes_eq (row_at rows first).here.numbers (row_at rows k).here.numbers) below l

pub rows_named : (rows : List Row) (fault : Fault) → IsFirst rows fault → NamesRows (length rows) fault
rows_named rows fault first =
    subst (λ (f : Option Fault). IfSome f (NamesRows (length rows))) first.here (named_by rows first.at first.within (row_at rows first.at).here.place refl)
