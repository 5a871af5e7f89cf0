use Rattle.std.proofs.Common.{◌≡◌, [], ◌∷◌, ◌++◌, ◌∙◌, ◌+◌, ◌-◌, length, ap, arith, get_or, set, vec_len}
use Rattle.std.proofs.lemmas.Bool.{false≢true}
use Rattle.std.proofs.lemmas.List.{get_or_push, length_push, set_at}
use Rattle.spiel_frac.proofs.list.List.swap_last.Goals as goal
use Rattle.spiel_frac.proofs.list.List.swap_last.Goals.{in-Some, in_default}

pub returns-clause-last : goal.returns-clause-last
returns-clause-last g c = λ front last e.
    let v = c.self.inside.items in
    let all : v.items ≡ front ++ last ∷ [] = c.self.view_is ∙ e in
    let long : vec_len v ≡ length front + 1 = omega (arith, v.ok.0, ap length all, length_push front last) in
    let at : length front ≡ vec_len v - 1 = omega (arith, long) in
    elim c.match-last_mut.branch [
      | in-Some w ↦ (
        ap (λ inside. inside.items.items) w.self-inside-is ∙ ap (λ xs. set xs (vec_len v - 1) w.swap.new.x) all
            ∙ set_at front last [] w.swap.new.x (vec_len v - 1) at ∙ ap (λ x. front ++ x ∷ []) w.swap.ensures.x_after,
        w.item-is ∙ w.swap.ensures.y_after ∙ w.in-Some.ensures.value ∙ ap (λ xs. get_or xs (vec_len v - 1) w.in-Some.last.now) all
            ∙ get_or_push front last w.in-Some.last.now (vec_len v - 1) at,
      )
      | in_default w ↦ absurd (false≢true (w.in_default.ensures.variant.1 (omega (arith, long))))
    ]
