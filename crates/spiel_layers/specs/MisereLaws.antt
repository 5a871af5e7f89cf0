-- A misère game keeps the laws where the inner game does.
use Rattle.std.specs.Prelude.{◌≡◌, ℕ, zero, suc, ◌≤◌, ℤ, pos, negsuc, neg_ℤ, nat_abs, List}
use Rattle.std.proofs.Common.{refl, subst, sym}
use Rattle.spiel_api.specs.Rules.{Rules}
use Rattle.spiel_api.specs.Plays.{IsPlay}
use Rattle.spiel_api.specs.Laws.{IsLawful}
use Rattle.spiel_layers.specs.Misere.{misere_rules}

-- the plays are those of the inner game
pub misere_play : (r : Rules) (h : List ℕ) → IsPlay r h → IsPlay (misere_rules r) h
misere_play r h play = record { steps = play.steps }

inner_play : (r : Rules) (h : List ℕ) → IsPlay (misere_rules r) h → IsPlay r h
inner_play r h play = record { steps = play.steps }

-- a number and its negative have one size
nat_abs-neg : (z : ℤ) → nat_abs (neg_ℤ z) ≡ nat_abs z
nat_abs-neg (pos zero) = refl
nat_abs-neg (pos (suc n)) = refl
nat_abs-neg (negsuc n) = refl

pub misere_lawful : (r : Rules) → IsLawful r → IsLawful (misere_rules r)
misere_lawful r laws = record {
  limits = record {
    players_low = laws.limits.players_low;
    players_high = laws.limits.players_high;
    unit_low = laws.limits.unit_low;
    unit_high = laws.limits.unit_high;
    cap_low = laws.limits.cap_low;
    cap_high = laws.limits.cap_high;
    short = λ h play. laws.limits.short h (inner_play r h play);
  };
  numbers = record {
    mover = λ h play. laws.numbers.mover h (inner_play r h play);
    rises = λ h p play l. laws.numbers.rises h p (inner_play r h play) l;
    small = λ h p play l. laws.numbers.small h p (inner_play r h play) l;
    goes_on = λ h play o. laws.numbers.goes_on h (inner_play r h play) o;
    stops = λ h p play l e. laws.numbers.stops h p (inner_play r h play) l e;
    waits = λ h p q play l e n. laws.numbers.waits h p q (inner_play r h play) l e n;
    shared = λ h p q play l m e. laws.numbers.shared h p q (inner_play r h play) l m e;
  };
  chance = record {
    weighed = λ h play e. laws.chance.weighed h (inner_play r h play) e;
    weight_low = λ h play e. laws.chance.weight_low h (inner_play r h play) e;
    weight_high = λ h play e. laws.chance.weight_high h (inner_play r h play) e;
  };
  joint = record {
    begins = laws.joint.begins;
    enters = λ h a p play e. laws.joint.enters h a p (inner_play r _ play) e;
    runs = λ h a p play e l. laws.joint.runs h a p (inner_play r _ play) e l;
    same_legal = λ h a p q play e l. laws.joint.same_legal h a p q (inner_play r _ play) e l;
    same_info = λ h a p q play e l m. laws.joint.same_info h a p q (inner_play r _ play) e l m;
  };
  texts = record {
    infos = λ h p play has l. laws.texts.infos h p (inner_play r h play) has l;
    names = λ h p a play c. laws.texts.names h p a (inner_play r h play) c;
  };
  capped = λ h p play e l. subst (λ n. n ≤ r.cap) (sym (nat_abs-neg (r.pay h p))) (laws.capped h p (inner_play r h play) e l);
  one_shot = λ o. let shot = laws.one_shot o in record {
    joint_root = shot.joint_root;
    one_step = λ h play e. shot.one_step h (inner_play r h play) e;
    short_infos = λ h p play has l. shot.short_infos h p (inner_play r h play) has l;
  };
}
