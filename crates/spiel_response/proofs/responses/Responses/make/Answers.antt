use Rattle.std.proofs.Common.{◌≡◌, ◌++◌, ℕ, List, length, take, drop, refl, ap, sym, subst, subst₂, ◌∙◌, rules, arith, to_z, of_z}
use Rattle.std.specs.Prelude.{FitsSigned}
use Rattle.std.specs.Int.{w128}
use Rattle.std.proofs.lemmas.Int.{to_z-of_z}
use Rattle.spiel_response.specs.Answered.{AreAnswers, OthersStay}
use Rattle.spiel_response.proofs.Answered.{answered_more}
use Rattle.spiel_response.proofs.responses.Responses.make.Goals as goal

-- numbers that were written back
kept : {X : Type 0} (new items : List X) (n : ℕ) → length new ≡ n → length items ≡ n → take n (new ++ drop (length new) items) ≡ new
kept new items n e f = grind (arith, Rattle.std.proofs.lemmas.Grind.common_steps)

pub returns-clause-after : goal.returns-clause-after
returns-clause-after c =
    let j = c.args.table.now in
    let self = c.args.self.now in
    let answers = c.make_response-earned.new.answers in
    let sums = c.make_response-earned.new.sums in
    let full : length self.answers.items ≡ self.answers.len = search rules in
    let wide : length self.sums.items ≡ self.sums.len = search rules in
    let long : length answers ≡ length self.answers.items = c.make_response-earned.auto.answers ∙ ap length c.deref_mut-2.ensures.value in
    let room : length sums ≡ length self.sums.items = c.make_response-earned.auto.sums ∙ ap length c.deref_mut.ensures.value in
    let back : take self.answers.len (answers ++ drop (length answers) self.answers.items) ≡ answers = kept answers self.answers.items self.answers.len (long ∙ full) full in
    let sums_back : take self.sums.len (sums ++ drop (length sums) self.sums.items) ≡ sums = kept sums self.sums.items self.sums.len (room ∙ wide) wide in
    let fits : FitsSigned w128 c.make_response-earned.result = search rules in
    answered_more j c.args.player self.made.items _ self.earned.items _ self.answers.items _ self.sums.items _ (to_z w128 (of_z w128 c.make_response-earned.result)) c.requires.player c.requires.before
    refl refl (ap length back ∙ long) (ap length sums_back ∙ room)
    (subst (AreAnswers j c.args.player) (sym back) c.make_response-earned.ensures.answers)
    (subst₂ (OthersStay j c.args.player) c.deref_mut-2.ensures.value (sym back) c.make_response-earned.ensures.others)
    (to_z-of_z w128 c.make_response-earned.result fits ∙ c.make_response-earned.ensures.earned)
