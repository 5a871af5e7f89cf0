use Rattle.std.proofs.Common.{◌≡◌, ◌∷◌, ◌∙◌, ap, arith}
use Rattle.json.specs.Token.{Token}
use Rattle.spiel_frac.specs.Reading.{frac_of}
use Rattle.spiel_policy.specs.Entries.{not_negative}
use Rattle.spiel_policy.proofs.Fronts.{text_if, whole_if}
use Rattle.spiel_policy.proofs.entrywise.take_weight.Goals as goal

pub returns-in-Some-Number-clause-next : goal.returns-in-Some-Number-clause-next
returns-in-Some-Number-clause-next c =
    let text = c.in-Some-Number.text.now in
    let first : c.args.reader.now ≡ Token.number text ∷ c.next.new.self = grind arith in
    whole_if c.whole_weight.result text c.args.reader.now c.next.new.self first c.whole_weight.ensures

pub returns-in-Some-String-clause-next : goal.returns-in-Some-String-clause-next
returns-in-Some-String-clause-next c =
    let text = c.in-Some-String.text.now in
    let first : c.args.reader.now ≡ Token.string text ∷ c.next.new.self = grind arith in
    text_if c.not_negative.result text c.args.reader.now c.next.new.self first (c.not_negative.ensures.value ∙ ap (λ t. not_negative (frac_of t)) c.as_bytes.ensures.value)
