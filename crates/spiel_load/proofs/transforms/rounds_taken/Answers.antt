use Rattle.std.proofs.Common.{None, Ok, Some, ap, refl, subst, sym, ◌∙◌}
use Rattle.std.specs.Option.{option_map}
use Rattle.spiel_load.specs.Asked.{IsComputed, asked_view}
use Rattle.spiel_load.specs.Transforms.{rounds_taken}
use Rattle.spiel_load.specs.declared.fault.LoadFault.{LoadFault}
use Rattle.spiel_load.proofs.Reading.{computed_then, faulty, then_computed, then_same}
use Rattle.spiel_load.proofs.transforms.rounds_taken.Goals as goal

pub returns-in_err-times : goal.returns-in_err-times
unfolding rounds_taken
returns-in_err-times c =
    faulty _ _ c.in_err-times.field-0.0 c.from_residual-in_err-times.result
    (then_computed _ _ _ _ c.in_ok-only_keys.ensures (computed_then _ _ _ c.in_err-times.ensures.reads)) c.from_residual-in_err-times.ensures

pub returns-in_err-stage : goal.returns-in_err-stage
unfolding rounds_taken
returns-in_err-stage c =
    faulty _ _ c.in_err-stage.field-0.0 c.from_residual-in_err-stage.result
    (then_computed _ _ _ _ c.in_ok-only_keys.ensures (then_computed _ _ _ _ c.in_ok-times.ensures.reads (computed_then _ _ _ c.in_err-stage.ensures)))
    c.from_residual-in_err-stage.ensures

pub returns-in-Some-Some : goal.returns-in-Some-Some
unfolding rounds_taken
returns-in-Some-Some c =
    then_same _ _ _ _ c.in_ok-only_keys.ensures
    (then_same _ (Some c.in-Some-Some.times) _ _ (c.in_ok-times.ensures.reads ∙ ap (λ times. Ok times) c.in-Some-Some.is-0)
    (then_same _ (Some (asked_view c.in-Some-Some.stage)) _ _ (c.in_ok-stage.ensures ∙ ap (λ stage. Ok (option_map asked_view stage)) c.in-Some-Some.is-1) refl))

pub returns-in_ok-bad_param-in-Some-None : goal.returns-in_ok-bad_param-in-Some-None
unfolding rounds_taken
returns-in_ok-bad_param-in-Some-None c =
    subst (λ (fault : LoadFault). IsComputed (rounds_taken (asked_view c.args.asked)) fault) (sym c.in_ok-bad_param-in-Some-None.ensures)
    (then_same _ _ _ _ c.in_ok-only_keys.ensures
    (then_same _ (Some c.in-Some-None.field-0-0) _ _ (c.in_ok-times.ensures.reads ∙ ap (λ times. Ok times) c.in-Some-None.is-0)
    (then_same _ None _ _ (c.in_ok-stage.ensures ∙ ap (λ stage. Ok (option_map asked_view stage)) c.in-Some-None.is-1) refl)))

pub returns-in_ok-bad_param-in-None-default : goal.returns-in_ok-bad_param-in-None-default
unfolding rounds_taken
returns-in_ok-bad_param-in-None-default c =
    subst (λ (fault : LoadFault). IsComputed (rounds_taken (asked_view c.args.asked)) fault) (sym c.in_ok-bad_param-in-None-default.ensures)
    (then_same _ _ _ _ c.in_ok-only_keys.ensures
    (then_same _ None _ _ (c.in_ok-times.ensures.reads ∙ ap (λ times. Ok times) c.in-None-default.is-0) (then_same _ _ _ _ c.in_ok-stage.ensures refl)))
