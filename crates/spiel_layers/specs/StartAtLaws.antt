-- A game behind some first numbers keeps the laws, and its plays are those of the inner game that begin with them.
use Rattle.std.specs.Prelude.{◌≡◌, ℕ, Bool, List, [], ◌∷◌, ◌++◌, length, IsTrue}
use Rattle.std.proofs.Common.{refl, subst, sym, ap, ◌∙◌, arith, append_assoc, length-append}
use Rattle.std.proofs.lemmas.Bool.{false≢true}
use Rattle.std.proofs.lemmas.List.{append-nil}
use Rattle.spiel_api.specs.declared.place.Place.TheVariants.{Joint}
use Rattle.spiel_api.specs.declared.game.Game.{Ghosts}
use Rattle.spiel_api.specs.Rules.{Rules, next_of}
use Rattle.spiel_api.specs.Plays.{Follows, IsPlay}
use Rattle.spiel_api.specs.Place.{IsOutside}
use Rattle.spiel_api.specs.Laws.{IsLawful}
use Rattle.spiel_api.specs.Walks.{IsFinished}
use Rattle.spiel_api.proofs.PlayLemmas.{Follows-append, Follows-back, Follows-from}
use Rattle.spiel_layers.specs.declared.start_at.StartAt.{StartAt}
use Rattle.spiel_layers.specs.StartAt.{start_at_rules, start_at_history, start_shot, IsStarted, IsStartedAt}

module _ (next : List ℕ → List ℕ) (prefix : List ℕ) where
  Follows-behind : (h xs : List ℕ) → Follows (λ i. next (prefix ++ i)) h xs → Follows next (prefix ++ h) xs
  Follows-behind h [] f = tt
  Follows-behind h (x ∷ xs) f = (f.0, Follows-from next (prefix ++ (h ++ x ∷ [])) (prefix ++ h ++ x ∷ []) xs (sym (append_assoc prefix h (x ∷ []))) (Follows-behind (h ++ x ∷ []) xs f.1))

  behind_Follows : (h xs : List ℕ) → Follows next (prefix ++ h) xs → Follows (λ i. next (prefix ++ i)) h xs
  behind_Follows h [] f = tt
  behind_Follows h (x ∷ xs) f = (f.0, behind_Follows (h ++ x ∷ []) xs (Follows-from next (prefix ++ h ++ x ∷ []) (prefix ++ (h ++ x ∷ [])) xs (append_assoc prefix h (x ∷ [])) f.1))

-- a play behind the prefix is, with the prefix, a play of the inner game
pub start_play : (r : Rules) (prefix h : List ℕ) → IsPlay r prefix → IsPlay (start_at_rules prefix r) h → IsPlay r (prefix ++ h)
start_play r prefix h before play = record {
  steps = Follows-append (next_of r) [] prefix h before.steps (Follows-from (next_of r) (prefix ++ []) prefix h (append-nil prefix) (Follows-behind (next_of r) prefix [] h play.steps));
}

-- what follows the prefix in a play of the inner game is a play behind the prefix
pub play_start : (r : Rules) (prefix h : List ℕ) → IsPlay r (prefix ++ h) → IsPlay (start_at_rules prefix r) h
play_start r prefix h play = record {
  steps = behind_Follows (next_of r) prefix [] h (Follows-from (next_of r) prefix (prefix ++ []) h (sym (append-nil prefix)) (Follows-back (next_of r) [] prefix h play.steps));
}

-- a game behind a prefix is one-shot only where there is no prefix, and the inner game is one-shot
shot_inner : (prefix : List ℕ) (b : Bool) → IsTrue (start_shot prefix b) → (prefix ≡ []) × IsTrue b
shot_inner [] b o = (refl, o)
shot_inner (x ∷ prefix) b o = absurd (false≢true o)

module _ (r : Rules) (prefix : List ℕ) (before : IsFinished r prefix) (laws : IsLawful r) where
  inner_play : (h : List ℕ) → IsPlay (start_at_rules prefix r) h → IsPlay r (prefix ++ h)
  inner_play h play = start_play r prefix h before.play play

  -- one number more, in the inner game
  push_assoc : (h : List ℕ) (a : ℕ) → prefix ++ h ++ a ∷ [] ≡ prefix ++ (h ++ a ∷ [])
  push_assoc h a = append_assoc prefix h (a ∷ [])

  inner_push : (h : List ℕ) (a : ℕ) → IsPlay (start_at_rules prefix r) (h ++ a ∷ []) → IsPlay r (prefix ++ h ++ a ∷ [])
  inner_push h a play = subst (λ z. IsPlay r z) (sym (push_assoc h a)) (inner_play (h ++ a ∷ []) play)

  pub start_lawful : IsLawful (start_at_rules prefix r)
  start_lawful = record {
    limits = record {
      players_low = laws.limits.players_low;
      players_high = laws.limits.players_high;
      unit_low = laws.limits.unit_low;
      unit_high = laws.limits.unit_high;
      cap_low = laws.limits.cap_low;
      cap_high = laws.limits.cap_high;
      short = λ h play. omega (arith, laws.limits.short (prefix ++ h) (inner_play h play), length-append prefix h);
    };
    numbers = record {
      mover = λ h play. laws.numbers.mover (prefix ++ h) (inner_play h play);
      rises = λ h p play l. laws.numbers.rises (prefix ++ h) p (inner_play h play) l;
      small = λ h p play l. laws.numbers.small (prefix ++ h) p (inner_play h play) l;
      goes_on = λ h play o. laws.numbers.goes_on (prefix ++ h) (inner_play h play) o;
      stops = λ h p play l e. laws.numbers.stops (prefix ++ h) p (inner_play h play) l e;
      waits = λ h p q play l e d. laws.numbers.waits (prefix ++ h) p q (inner_play h play) l e d;
      shared = λ h p q play l m e. laws.numbers.shared (prefix ++ h) p q (inner_play h play) l m e;
    };
    chance = record {
      weighed = λ h play e. laws.chance.weighed (prefix ++ h) (inner_play h play) e;
      weight_low = λ h play e. laws.chance.weight_low (prefix ++ h) (inner_play h play) e;
      weight_high = λ h play e. laws.chance.weight_high (prefix ++ h) (inner_play h play) e;
    };
    joint = record {
      begins = subst (λ z. IsOutside (r.place z)) (sym (append-nil prefix)) before.outside;
      enters = λ h a p play e. laws.joint.enters (prefix ++ h) a p (inner_push h a play) (ap r.place (push_assoc h a) ∙ e);
      runs = λ h a p play e l. ap r.place (sym (push_assoc h a)) ∙ laws.joint.runs (prefix ++ h) a p (inner_push h a play) e l;
      same_legal = λ h a p q play e l. ap (λ (z : List ℕ). r.legal z q) (sym (push_assoc h a)) ∙ laws.joint.same_legal (prefix ++ h) a p q (inner_push h a play) e l;
      same_info = λ h a p q play e l m. ap (λ (z : List ℕ). r.info z q) (sym (push_assoc h a)) ∙ laws.joint.same_info (prefix ++ h) a p q (inner_push h a play) e l m;
    };
    texts = record {
      infos = λ h p play has l. laws.texts.infos (prefix ++ h) p (inner_play h play) has l;
      names = λ h p a play c. laws.texts.names (prefix ++ h) p a (inner_play h play) c;
    };
    capped = λ h p play e l. laws.capped (prefix ++ h) p (inner_play h play) e l;
    one_shot = λ o. let shot = shot_inner prefix r.one_shot o in let inner = laws.one_shot shot.1 in record {
      joint_root = subst (λ z. r.place z ≡ Joint 0) (sym (append-nil prefix ∙ shot.0)) inner.joint_root;
      one_step = λ h play e. inner.one_step (prefix ++ h) (inner_play h play) (ap (λ (z : List ℕ). length (z ++ h)) shot.0 ∙ e);
      short_infos = λ h p play has l. inner.short_infos (prefix ++ h) p (inner_play h play) has l;
    };
  }

module _ {G S : Type 0} (inner : Ghosts G S) (game : StartAt G) where
  pub started_play : (state : S) → IsStartedAt inner game state → IsPlay (inner.rules game.inner) (inner.history_of game.inner state) → IsPlay (start_at_rules game.prefix (inner.rules game.inner)) (start_at_history inner game state)
  started_play state at play = play_start (inner.rules game.inner) game.prefix (start_at_history inner game state) (subst (λ z. IsPlay (inner.rules game.inner) z) at.begins play)

  pub started_lawful : IsStarted inner game → IsLawful (inner.rules game.inner) → IsLawful (start_at_rules game.prefix (inner.rules game.inner))
  started_lawful started laws = start_lawful (inner.rules game.inner) game.prefix started.finished laws
