use Rattle.std.proofs.Common.{◌≡◌, ◌∙◌, ◌^◌, ap, nat_le, subst, sym, true}
use Rattle.std.specs.Prelude.{MatchResult}
use Rattle.spiel_efg.specs.EfgPays.{are_lists_small, efg_cap, efg_unit}
use Rattle.spiel_efg.specs.Faults.{IsRefused}
use Rattle.spiel_efg.proofs.Paying.{lists_pass, lists_refused}
use Rattle.spiel_efg.proofs.pays.paid_in.Goals as goal

pub returns-in-Ok-clause-test : goal.returns-in-Ok-clause-test
returns-in-Ok-clause-test c =
    let same : are_lists_small c.args.unit c.items.result.now ≡ are_lists_small (efg_unit c.args.parts.now) c.args.parts.now.outcomes =
    ap (λ unit. are_lists_small unit c.items.result.now) c.requires.unit ∙ ap (λ outcomes. are_lists_small (efg_unit c.args.parts.now) outcomes) c.items.ensures in
    subst (λ test. MatchResult c.paid_with.result (λ paid. test ≡ true) (IsRefused test))
    (lists_pass (efg_unit c.args.parts.now) c.args.parts.now.outcomes (nat_le (efg_cap c.args.parts.now) (2 ^ 62)) (sym same ∙ c.in-Ok.ensures.test)) c.paid_with.ensures.test

pub returns-in-Err-clause-test : goal.returns-in-Err-clause-test
returns-in-Err-clause-test c =
    let same : are_lists_small c.args.unit c.items.result.now ≡ are_lists_small (efg_unit c.args.parts.now) c.args.parts.now.outcomes =
    ap (λ unit. are_lists_small unit c.items.result.now) c.requires.unit ∙ ap (λ outcomes. are_lists_small (efg_unit c.args.parts.now) outcomes) c.items.ensures in
    lists_refused (efg_unit c.args.parts.now) c.args.parts.now.outcomes (nat_le (efg_cap c.args.parts.now) (2 ^ 62)) c.in-Err.fault
    (subst (λ test. IsRefused test c.in-Err.fault) same c.in-Err.ensures.test)
