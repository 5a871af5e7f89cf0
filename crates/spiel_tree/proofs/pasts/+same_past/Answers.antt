use Rattle.std.proofs.Common.{◌∙◌, ap, subst, sym, ℕ}
use Rattle.spiel_tree.specs.Flat.{row_at, rows_of}
use Rattle.spiel_tree.specs.Faults.{own_past, same_past}
use Rattle.spiel_tree.specs.Pasts.{IsLastOwn}
use Rattle.spiel_tree.proofs.OwnPasts.{first_alone, one_choice, other_choice, same_past-self, second_alone}
use Rattle.spiel_tree.proofs.pasts.+same_past.Goals as goal

pub returns-then-first-second : goal.returns-then-first-second
returns-then-first-second t c =
    let rows = rows_of c.args.rows.now in
    sym (same_past-self (own_past c.args.player (row_at rows c.args.first).way)) ∙ ap (λ (k : ℕ). same_past (own_past c.args.player (row_at rows c.args.first).way) (own_past c.args.player (row_at rows k).way)) c.if-first-second.true

pub returns-then-a-b : goal.returns-then-a-b
returns-then-a-b t c =
    sym (other_choice c.args.rows.now c.args.player c.args.first c.args.second c.in-Some-Some.a c.in-Some-Some.b c.in-Some-Some.ensures c.in-Some-Some.ensures' (λ e f. c.if-a-b.true e))

pub returns-then-a-b-2 : goal.returns-then-a-b-2
returns-then-a-b-2 t c =
    sym (other_choice c.args.rows.now c.args.player c.args.first c.args.second c.in-Some-Some.a c.in-Some-Some.b c.in-Some-Some.ensures c.in-Some-Some.ensures' (λ e f. c.if-a-b-2.true f))

pub returns-else-a-b-2 : goal.returns-else-a-b-2
returns-else-a-b-2 t c =
    c.same_past.ensures
    ∙ sym (one_choice c.args.rows.now c.args.player c.args.first c.args.second c.in-Some-Some.a c.in-Some-Some.b c.in-Some-Some.ensures c.in-Some-Some.ensures' c.if-a-b.false c.if-a-b-2.false)

pub returns-in-None-Some : goal.returns-in-None-Some
returns-in-None-Some t c =
    sym (second_alone c.args.rows.now c.args.player c.args.first c.args.second c.in-None-Some.field-0-1 (subst (IsLastOwn c.args.player c.args.rows.now c.args.first) c.in-None-Some.is-0 c.last_own.ensures) c.in-None-Some.ensures)

pub returns-in-Some-None : goal.returns-in-Some-None
returns-in-Some-None t c =
    sym (first_alone c.args.rows.now c.args.player c.args.first c.args.second c.in-Some-None.field-0-0 c.in-Some-None.ensures c.in-Some-None.ensures')
