use Rattle.std.proofs.Common.{refl, arith}
use Rattle.spiel_api.proofs.PlayLemmas.{IsPlay-nil}
use Rattle.spiel_poker.specs.Leduc.{leduc_rules, parts}
use Rattle.spiel_poker.proofs.leduc.LeducState.show_all.Goals as goal

-- no number is shown
pub loop-count-init : goal.loop-count-init
unfolding parts
loop-count-init c = record {
  same = refl;
  shown = record {
    play = IsPlay-nil leduc_rules;
    shows = record { round = refl; public = refl; public_at = refl; table = c.first_table-self.ensures };
    cards = omega arith;
  };
}
