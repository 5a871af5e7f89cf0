use Rattle.std.proofs.Common.{◌∙◌, ap, arith, length, sym}
use Rattle.spiel_efg.specs.EfgPays.{cap_for}
use Rattle.spiel_efg.proofs.Paying.{cap_beyond, cap_more, small_back}
use Rattle.spiel_efg.proofs.pays.cap_of.Goals as goal

pub returns-in_default : goal.returns-in_default
returns-in_default c = cap_beyond c.args.parts.now c.loop-player.player (omega (arith, c.loop-player-test.true, ap length c.items-player-end.ensures)) (sym c.in_default.is ∙ c.in_ok-own.ensures)

pub loop-player-preserved : goal.loop-player-preserved
loop-player-preserved c =
    let own = small_back (cap_for c.args.parts.now c.loop-player.player) c.in-Some.own (sym c.in-Some.is ∙ c.in_ok-own.ensures) in
    let more = cap_more c.args.parts.now c.loop-player.player in
    record {
      is = omega (arith, own.0, more, c.max-cap.ensures, c.loop-player.invariant.is);
      high = omega (arith, own.0, own.1, c.max-cap.ensures, c.loop-player.invariant.high);
    }
