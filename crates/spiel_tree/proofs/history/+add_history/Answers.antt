use Rattle.std.proofs.Common.{◌≡◌, ◌++◌, ◌∷◌, [], List, ℕ, length, arith, ap, sym, ◌∙◌, append_assoc}
use Rattle.std.specs.Prelude.{slice_index}
use Rattle.std.proofs.lemmas.List.{append-nil}
use Rattle.spiel_tree.specs.Rows.{history_of}
use Rattle.spiel_tree.specs.Flat.{row_at, rows_of}
use Rattle.spiel_tree.proofs.WayHistory.{IsBehind, behind, root}
use Rattle.spiel_tree.proofs.history.+add_history.Goals.{In-Some}
use Rattle.spiel_tree.proofs.history.+add_history.Goals as goal

above : (t : ℕ) (c : In-Some t) → IsBehind c.args.rows.now c.args.row c.in-Some.parent c.flat_at-flat.result.step
above t c = behind c.args.rows.now c.args.row c.in-Some.parent c.flat_at-flat.result c.requires.built c.requires.steps c.requires.row c.flat_at-flat.ensures c.in-Some.is

pub add_history-requires : goal.add_history-requires
add_history-requires t c =
    let before = (above t (goal.at.add_history-requires t c).In-Some).before in
    (omega (arith, before, c.decreases), (c.requires.built, (c.requires.steps, omega (arith, before, c.requires.row))))

pub numbers_at-requires-clause-row : goal.numbers_at-requires-clause-row
numbers_at-requires-clause-row t c = omega (arith, (above t (goal.at.numbers_at-requires-clause-row t c).In-Some).before, c.requires.row)

pub bounds-numbers_at-flat : goal.bounds-numbers_at-flat
bounds-numbers_at-flat t c =
    let same : length c.numbers_at.result.now ≡ length (row_at (rows_of c.args.rows.now) c.in-Some.parent).here.numbers = ap length c.numbers_at.ensures in
    omega (arith, same, (above t (goal.at.bounds-numbers_at-flat t c).In-Some).within)

pub returns-in_ok-push : goal.returns-in_ok-push
returns-in_ok-push t c =
    let out = c.args.out.now in
    let parent = row_at (rows_of c.args.rows.now) c.in-Some.parent in
    let step = c.flat_at-flat.result.step in
    c.in_ok-push.ensures.ok
    ∙ ap (λ (xs : List ℕ). xs ++ slice_index c.numbers_at.result.now step ∷ []) c.in_ok-add_history.ensures
    ∙ ap (λ (xs : List ℕ). (out ++ history_of parent) ++ slice_index xs step ∷ []) c.numbers_at.ensures
    ∙ append_assoc out (history_of parent) (slice_index parent.here.numbers step ∷ [])
    ∙ ap (λ (xs : List ℕ). out ++ xs) (sym (above t (goal.at.returns-in_ok-push t c).In-Some).history)

pub returns-in_default : goal.returns-in_default
returns-in_default t c =
    let out = c.args.out.now in
    let none = root c.args.rows.now c.args.row c.flat_at-flat.result c.requires.built c.requires.row c.flat_at-flat.ensures c.in_default.is in
    sym (append-nil out) ∙ ap (λ (xs : List ℕ). out ++ xs) (sym none)
