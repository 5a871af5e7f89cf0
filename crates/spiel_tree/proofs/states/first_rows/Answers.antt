use Rattle.std.proofs.Common.{rules, arith, ◌≡◌, ◌-◌, ◌++◌, ◌+◌, length, take, drop, suc, ap, subst, ◌∙◌, List, ℕ, Option}
use Rattle.std.specs.Prelude.{slice_index}
use Rattle.spiel_tree.specs.Flat.{row_at, rows_of}
use Rattle.spiel_tree.specs.States.{first_row, noted, state_at, state_of, states_below}
use Rattle.spiel_tree.proofs.StateReading.{first_noted, length-noted, number_if, written}
use Rattle.spiel_tree.proofs.states.first_rows.Goals as goal

pub note_row-requires : goal.note_row-requires
note_row-requires c =
    let below = number_if c.args.rows.now (c.loop-row.row - 1) c.requires.built (omega arith) in
    let count : length c.deref_mut.result.now ≡ length (states_below (length c.args.rows.now.texts.items) (rows_of c.args.rows.now)) = ap length c.deref_mut.ensures.value ∙ c.loop-row.invariant.long in
    rw (c.state_of.ensures, count) below

pub loop-row-preserved : goal.loop-row-preserved
loop-row-preserved c =
    let t = c.args.rows.now in
    let row = c.loop-row.row - 1 in
    let items = c.loop-row.firsts.items in
    let new = c.note_row.new.firsts in
    let here = state_of (rows_of t) (row_at (rows_of t) row) in
    let is : new ≡ noted items here row = c.note_row.ensures ∙ ap (λ (xs : List ℕ). noted xs c.state_of.result row) c.deref_mut.ensures.value ∙ ap (λ (s : Option ℕ). noted items s row) c.state_of.ensures in
    let same : length new ≡ length items = ap length is ∙ length-noted items here row in
    let full : length items ≡ c.loop-row.firsts.len = search rules in
    let back : take c.loop-row.firsts.len (new ++ drop (length new) items) ≡ noted items here row = written new items c.loop-row.firsts.len (same ∙ full) full ∙ is in
    let down : c.loop-row.row ≡ suc row = omega arith in
    record {
      long = ap length back ∙ length-noted items here row ∙ c.loop-row.invariant.long;
      within = omega arith;
      each = λ s l. ap (λ (xs : List ℕ). slice_index xs s) back
          ∙ first_noted t items row s c.requires.built (omega arith) l c.loop-row.invariant.long
          (subst (λ (n : ℕ). slice_index items s ≡ n + first_row (state_at (length t.texts.items) (rows_of t) s).player (state_at (length t.texts.items) (rows_of t) s).text (drop n (rows_of t))) down (c.loop-row.invariant.each s l));
    }
