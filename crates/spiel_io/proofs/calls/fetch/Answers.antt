use Rattle.std.proofs.Common.{ap, arith, length, length-append, take, ◌∙◌}
use Rattle.std.proofs.lemmas.List.{length-take-le}
use Rattle.spiel_io.proofs.Fetched.{bytes_step}
use Rattle.spiel_io.proofs.calls.fetch.Goals as goal

pub pieces-preserved : goal.pieces-preserved
pieces-preserved g c =
    let first = g.F.Shelf.state c.args.shelf.now in
    let before = g.F.Shelf.state c.pieces.shelf in
    let now = g.F.Shelf.state c.next.new.self in
    let slot = c.args.slot in
    let so_far = c.pieces.invariant in
    record {
      within = omega (arith, c.if-count-limit.false, ap length c.bytes.ensures, so_far.within, ap length c.in_ok-push.ensures.ok, length-append c.pieces.text (take c.in_ok-count.count c.next.new.buf), length-take-le c.in_ok-count.count c.next.new.buf c.in_ok-count.ensures.within);
      same_files = c.next.ensures.same_files ∙ so_far.same_files;
      bytes = bytes_step first.files before.files c.args.name.now c.pieces.text (take c.in_ok-count.count c.next.new.buf) (before.reading slot).left (now.reading slot).left c.push.new.self
          so_far.same_files so_far.bytes c.in_ok-count.ensures.bytes c.in_ok-push.ensures.ok;
      begun = c.next.ensures.begun ∙ so_far.begun;
      begins = c.next.ensures.begins ∙ so_far.begins;
      other_slot = c.next.ensures.other_slot ∙ so_far.other_slot;
      quiet = c.in_ok-count.ensures.cause.kept ∙ so_far.quiet;
      stays_steady = λ steady. c.next.ensures.stays_steady (so_far.stays_steady steady);
    }
