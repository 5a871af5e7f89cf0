use Rattle.std.proofs.Common.{◌+◌, ◌<◌, ◌≤◌, ℕ, List, length, get_or, sym, arith}
use Rattle.spiel_string.specs.declared.token.Token.TheVariants.{Left, Right, Comma}
use Rattle.spiel_string.proofs.TokenSteps.{space_step, text_at, mark_at, added_ok, left_first, right_first, comma_first}
use Rattle.spiel_string.proofs.cutting.step.Goals as goal

pub add_text-requires-clause-text : goal.add_text-requires-clause-text
add_text-requires-clause-text c = text_at c.args.bytes.now c.args.at c.requires.place (sym c.in-QuoteMark.ensures)

pub returns-in-Space-clause-ok : goal.returns-in-Space-clause-ok
returns-in-Space-clause-ok c = space_step c.args.bytes.now c.args.at c.args.found.now c.requires.place (sym c.in-Space.ensures)

pub returns-in-LeftBrace-clause-ok : goal.returns-in-LeftBrace-clause-ok
returns-in-LeftBrace-clause-ok c =
    let bytes = c.args.bytes.now in
    let at = c.args.at in
    let later : at < at + 1 = omega arith in
    let within : at + 1 ≤ length bytes = omega (arith, c.requires.place) in
    added_ok c.add.result bytes at (at + 1) c.args.found.now c.add.new.found Left later within
    (mark_at bytes at Left c.requires.place (λ (rest : List ℕ). left_first at (get_or bytes at 0) rest (sym c.in-LeftBrace.ensures))) c.add.ensures.next c.add.ensures.ok

pub returns-in-RightBrace-clause-ok : goal.returns-in-RightBrace-clause-ok
returns-in-RightBrace-clause-ok c =
    let bytes = c.args.bytes.now in
    let at = c.args.at in
    let later : at < at + 1 = omega arith in
    let within : at + 1 ≤ length bytes = omega (arith, c.requires.place) in
    added_ok c.add-in-RightBrace.result bytes at (at + 1) c.args.found.now c.add-in-RightBrace.new.found Right later within
    (mark_at bytes at Right c.requires.place (λ (rest : List ℕ). right_first at (get_or bytes at 0) rest (sym c.in-RightBrace.ensures))) c.add-in-RightBrace.ensures.next c.add-in-RightBrace.ensures.ok

pub returns-in-CommaByte-clause-ok : goal.returns-in-CommaByte-clause-ok
returns-in-CommaByte-clause-ok c =
    let bytes = c.args.bytes.now in
    let at = c.args.at in
    let later : at < at + 1 = omega arith in
    let within : at + 1 ≤ length bytes = omega (arith, c.requires.place) in
    added_ok c.add-in-CommaByte.result bytes at (at + 1) c.args.found.now c.add-in-CommaByte.new.found Comma later within
    (mark_at bytes at Comma c.requires.place (λ (rest : List ℕ). comma_first at (get_or bytes at 0) rest (sym c.in-CommaByte.ensures))) c.add-in-CommaByte.ensures.next c.add-in-CommaByte.ensures.ok
