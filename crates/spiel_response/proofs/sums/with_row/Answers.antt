use Rattle.std.proofs.Common.{rules, ◌≡◌, ap, sym, ◌∙◌, w64, to_z, of_z}
use Rattle.std.specs.Prelude.{FitsSigned}
use Rattle.std.proofs.lemmas.Int.{to_z-of_z}
use Rattle.spiel_api.specs.declared.place.Place.TheVariants.{End}
use Rattle.spiel_tree.specs.Flat.{row_at}
use Rattle.spiel_response.specs.Values.{Judged, return_to}
use Rattle.spiel_response.proofs.LeafSums.{leaf_none, leaf_some}
use Rattle.spiel_response.proofs.sums.with_row.Goals as goal

pub returns-in-End-clause-some : goal.returns-in-End-clause-some
returns-in-End-clause-some c =
    let a = c.args in
    let fits : FitsSigned w64 c.row_pay.result = search rules in
    let same = sym c.weighed.view_is in
    let over : (row_at a.weighed.now.tree.rows a.row).here.place ≡ End = ap (λ (j : Judged). (row_at j.tree.rows a.row).here.place) same ∙ sym c.row_place.ensures ∙ c.in-End.is in
    let pay : to_z w64 (of_z w64 c.row_pay.result) ≡ return_to a.player (row_at a.weighed.now.tree.rows a.row) =
    to_z-of_z w64 c.row_pay.result fits ∙ c.row_pay.ensures ∙ ap (λ (j : Judged). return_to a.player (row_at j.tree.rows a.row)) c.weighed.view_is in
    leaf_some a.weighed.now a.player a.row a.size a.sums a.reached a.counterfactual (to_z w64 (of_z w64 c.row_pay.result)) c.with_leaf.result
    c.requires.within over c.requires.reached c.requires.counterfactual pay c.requires.sums
    c.with_leaf.ensures.value c.with_leaf.ensures.size c.with_leaf.ensures.within

pub returns-in-End-clause-none : goal.returns-in-End-clause-none
returns-in-End-clause-none c =
    let a = c.args in
    let fits : FitsSigned w64 c.row_pay.result = search rules in
    let same = sym c.weighed.view_is in
    let over : (row_at a.weighed.now.tree.rows a.row).here.place ≡ End = ap (λ (j : Judged). (row_at j.tree.rows a.row).here.place) same ∙ sym c.row_place.ensures ∙ c.in-End.is in
    let pay : to_z w64 (of_z w64 c.row_pay.result) ≡ return_to a.player (row_at a.weighed.now.tree.rows a.row) =
    to_z-of_z w64 c.row_pay.result fits ∙ c.row_pay.ensures ∙ ap (λ (j : Judged). return_to a.player (row_at j.tree.rows a.row)) c.weighed.view_is in
    leaf_none a.weighed.now a.player a.row a.size a.sums a.reached a.counterfactual (to_z w64 (of_z w64 c.row_pay.result)) c.with_leaf.result
    c.requires.within over c.requires.reached c.requires.counterfactual pay c.requires.sums c.with_leaf.ensures.none
