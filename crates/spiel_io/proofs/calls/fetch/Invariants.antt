use Rattle.std.proofs.Common.{◌≡◌, ◌-◌, ◌≤◌, ◌++◌, true, length}
use Rattle.std.specs.Prelude.{IfSome, IsTrue, Some}
use Rattle.spiel_io.specs.Outside.{counted, held, other}
use Rattle.spiel_io.proofs.calls.fetch.Given as goal

abbrev pub invariant-pieces : goal.invariant-pieces
invariant-pieces g l =
    let now = g.F.Shelf.state l.shelf in let first = g.F.Shelf.state l.fn.shelf in
    record {
      within : length l.text ≤ l.limit;
      same_files : now.files ≡ first.files;
      bytes : IfSome first.files (λ files. held files l.name ≡ Some (l.text ++ (now.reading l.slot).left));
      begun : (now.reading l.slot).begun ≡ true;
      begins : (now.reading l.slot).begins ≡ counted (first.reading l.slot).begins;
      other_slot : now.reading (other l.slot) ≡ first.reading (other l.slot);
      quiet : now.faults ≡ first.faults;
      stays_steady : IsTrue first.steady → IsTrue now.steady;
    }

abbrev pub decreases-pieces : goal.decreases-pieces
decreases-pieces g l = l.limit - length l.text
