use Rattle.std.proofs.Common.{◌∙◌, sym, ap, get_or}
use Rattle.spiel_string.specs.Kept.{kept_view, kept_after}
use Rattle.spiel_string.specs.Modes.{next_of}
use Rattle.spiel_string.specs.Tracking.{from_after, first_after}
use Rattle.spiel_string.proofs.Standing.{stands_stuck, stands_more}
use Rattle.spiel_string.proofs.read.step.Goals as goal

pub returns-in_default : goal.returns-in_default
returns-in_default c =
    stands_stuck c.requires.stands c.requires.within
    (ap (next_of c.args.reader.now.mode c.args.reader.now.depth) (sym c.class_of-class.ensures) ∙ sym c.next.ensures.value ∙ c.in_default.is)

pub returns : goal.returns
returns c =
    stands_more c.args.text.now c.args.at c.args.reader.now c.requires.stands c.in-Some.mode c.in-Some.depth c.max-reader.result c.from_after-from.result
    c.first_after-first.result c.keep_byte.new.kept c.requires.within
    (ap (next_of c.args.reader.now.mode c.args.reader.now.depth) (sym c.class_of-class.ensures) ∙ sym c.next.ensures.value ∙ c.in-Some.is)
    c.in-Some.ensures.deeper
    (c.in_ok-keep_byte.ensures ∙ ap (λ k. kept_after c.args.reader.now.mode k (get_or c.args.text.now c.args.at 0) (kept_view c.args.reader.now.kept)) c.class_of-class.ensures)
    c.max-reader.ensures
    (c.from_after-from.ensures ∙ ap (λ k. from_after c.args.reader.now.mode k c.args.reader.now.from c.args.at) c.class_of-class.ensures)
    (c.first_after-first.ensures ∙ ap (λ k. first_after k c.args.reader.now.first c.args.reader.now.from (kept_view c.args.reader.now.kept)) c.class_of-class.ensures)
