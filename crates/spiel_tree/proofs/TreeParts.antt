-- The parts of a tree.
use Rattle.std.proofs.Common.{◌≡◌, ℕ, ◌≤◌, List, length, ap, sym, subst, ◌∙◌, arith, refl}
use Rattle.std.specs.Prelude.{ℤ, pos}
use Rattle.spiel_api.specs.Rules.{Rules}
use Rattle.spiel_api.specs.Laws.{IsLawful}
use Rattle.spiel_tree.specs.declared.flat.Rows.{Rows}
use Rattle.spiel_tree.specs.Rows.{Row, rows}
use Rattle.spiel_tree.specs.Flat.{IsBuilt, StepsWithin, rows_of}
use Rattle.spiel_tree.specs.States.{AreFirsts, AreStarts}
use Rattle.spiel_tree.specs.Faults.{IsFaultless}
use Rattle.spiel_tree.specs.Trees.{IsTree, tree_of}
use Rattle.spiel_tree.proofs.OfGame.{steps_within}

pub game_steps : (r : Rules) (t : Rows) → rows_of t ≡ rows r → StepsWithin (rows_of t)
game_steps r t e = subst StepsWithin (sym e) (steps_within r)

pub whole_is : (r : Rules) (t : Rows) (unit : ℤ) (players : ℕ) → rows_of t ≡ rows r → unit ≡ pos r.unit → players ≡ r.players → record { unit = unit; players = players; rows = rows_of t } ≡ tree_of r
whole_is r t unit players e f g =
    ap (λ (u : ℤ). record { unit = u; players = players; rows = rows_of t }) f
    ∙ ap (λ (n : ℕ). record { unit = pos r.unit; players = n; rows = rows_of t }) g
    ∙ ap (λ (all : List Row). record { unit = pos r.unit; players = r.players; rows = all }) e

pub parts_fit : (r : Rules) (t : Rows) (starts firsts : List ℕ) (unit : ℤ) (players : ℕ) → IsLawful r → rows_of t ≡ rows r → unit ≡ pos r.unit → players ≡ r.players
    → IsBuilt t → length (rows r) ≤ 1048576 → length t.texts.items ≡ r.players
    → AreStarts (length t.texts.items) (rows_of t) starts → AreFirsts (length t.texts.items) (rows_of t) firsts → IsFaultless (rows_of t)
    → IsTree (record { unit = unit; players = players; rows = rows_of t }) t starts firsts
parts_fit r t starts firsts unit players lawful e f g built few texts starts_are firsts_are faultless =
    let same : length t.texts.items ≡ players = texts ∙ sym g in
    record {
      built = built;
      players = same;
      rows = refl;
      game = record { rules = r; lawful = lawful; is = whole_is r t unit players e f g; few = omega (arith, few, ap length e); faultless = faultless };
      starts_are = subst (λ (n : ℕ). AreStarts n (rows_of t) starts) same starts_are;
      firsts_are = subst (λ (n : ℕ). AreFirsts n (rows_of t) firsts) same firsts_are;
    }
