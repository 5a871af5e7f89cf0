use Rattle.std.proofs.Common.{◌≡◌, ◌∙◌, ◌+◌, drop, sym, subst, Bool}
use Rattle.spiel_string.specs.Tokens.{text_from}
use Rattle.spiel_string.specs.Cutting.{inside}
use Rattle.spiel_string.proofs.TokenSteps.{inside_done, inside_more, inside_over}
use Rattle.spiel_string.proofs.cutting.text_end.Goals as goal

pub returns-then-closes-clause-some : goal.returns-then-closes-clause-some
returns-then-closes-clause-some c =
    inside_done c.args.bytes.now c.loop-at.behind c.args.opened c.loop-at.at (text_from c.args.opened (c.args.opened + 1) (drop (c.args.opened + 1) c.args.bytes.now)) c.loop-at-test.true (sym c.closes.ensures ∙ c.if-closes.true) c.loop-at.invariant

pub loop-at-preserved : goal.loop-at-preserved
loop-at-preserved c =
    let found = text_from c.args.opened (c.args.opened + 1) (drop (c.args.opened + 1) c.args.bytes.now) in
    subst (λ (b : Bool). found ≡ inside b c.args.opened (c.loop-at.at + 1) (drop (c.loop-at.at + 1) c.args.bytes.now)) (sym c.is_behind-behind.ensures)
    (inside_more c.args.bytes.now c.loop-at.behind c.args.opened c.loop-at.at found c.loop-at-test.true (sym c.closes.ensures ∙ c.if-closes.false) c.loop-at.invariant)

pub returns-clause-none : goal.returns-clause-none
returns-clause-none c =
    inside_over c.args.bytes.now c.loop-at.behind c.args.opened c.loop-at.at (text_from c.args.opened (c.args.opened + 1) (drop (c.args.opened + 1) c.args.bytes.now)) c.loop-at-test.false c.loop-at.invariant
