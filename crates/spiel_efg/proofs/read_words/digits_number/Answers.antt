use Rattle.std.proofs.Common.{subst, List, ℕ}
use Rattle.std.specs.Str.Parse.{ParsesUnsigned}
use Rattle.spiel_frac.proofs.Numerals.{digits_are_text, digits_parsed, text_is_ok, text_same}
use Rattle.spiel_efg.proofs.read_words.digits_number.Goals as goal

pub unwrap-text-requires : goal.unwrap-text-requires
unwrap-text-requires c = text_is_ok c.from_utf8.result c.args.digits.now _ _ c.from_utf8.ensures.cases (digits_are_text c.args.digits.now c.requires)

pub returns : goal.returns
returns c =
    let bytes = c.args.digits.now in
    let same = text_same (λ text. text.now) c.from_utf8.result c.unwrap-text.result bytes _ _ c.from_utf8.ensures.cases c.unwrap-text.ensures in
    rw c.ok.ensures.value (digits_parsed 32 bytes c.parse.result c.requires (subst (λ (text : List ℕ). ParsesUnsigned 32 10 text c.parse.result) same c.parse.ensures.value.0))
