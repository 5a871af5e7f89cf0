use Rattle.spiel_efg.proofs.Paying.{rows_are}
use Rattle.spiel_efg.proofs.form.node_rows.Goals as goal

pub returns-clause-rows : goal.returns-clause-rows
returns-clause-rows c = rows_are c.args.outcomes.now c.args.nodes.now c.in_ok-seen.seen c.in_ok-rows.rows c.if-not-are_numbered.ensures c.in_ok-rows.ensures
