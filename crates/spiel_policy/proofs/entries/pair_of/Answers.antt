use Rattle.std.proofs.Common.{◌≡◌, ◌∙◌, sym, ap, Some, arith}
use Rattle.std.specs.Prelude.{option_and_then}
use Rattle.serde_json.specs.Find.{as_array}
use Rattle.serde_json.specs.View.{items_view, view}
use Rattle.spiel_policy.specs.Entries.{pair_in}
use Rattle.spiel_policy.proofs.Shapes.{no_pair}
use Rattle.spiel_policy.proofs.entries.pair_of.Goals as goal

pub returns-then-len-ne2-clause-value : goal.returns-then-len-ne2-clause-value
returns-then-len-ne2-clause-value c =
    let items = c.in_ok-items.items.now.items in
    let found : Some (items_view items) ≡ as_array (view c.args.value.now) = c.in_ok-items.ensures in
    sym (ap (option_and_then pair_in) (sym found) ∙ no_pair items (λ e. c.if-len-ne2.true (omega (arith, e, c.len.ensures))))
