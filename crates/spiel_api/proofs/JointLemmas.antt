-- What the laws give of a joint step.
use Rattle.std.specs.Prelude.{◌≡◌, ℕ, zero, suc, ◌<◌, ◌≤◌, List, [], ◌∷◌, ◌++◌, length, take, slice_index}
use Rattle.std.specs.List.{Contains}
use Rattle.std.proofs.Common.{ap, sym, subst, ◌∙◌, arith, append_assoc, add-one}
use Rattle.std.proofs.lemmas.List.{append-nil, take_more, take_all}
use Rattle.spiel_api.specs.declared.place.Place.TheVariants.{Joint}
use Rattle.spiel_api.specs.Rules.{Rules, next_of}
use Rattle.spiel_api.specs.Plays.{IsPlay}
use Rattle.spiel_api.proofs.PlayLemmas.{IsPlay-more}
use Rattle.spiel_api.specs.Laws.{IsLawful}
use Rattle.spiel_api.specs.States.{IsJointChoice}

-- so many players have chosen
record Chosen (r : Rules) (h actions : List ℕ) (k : ℕ) : Type 0 where
  play : IsPlay r (h ++ take k actions)
  place : k < r.players → r.place (h ++ take k actions) ≡ Joint k
  legal : k < r.players → (q : ℕ) → r.legal (h ++ take k actions) q ≡ r.legal h q

module _ (r : Rules) (laws : IsLawful r) (h actions : List ℕ) (play : IsPlay r h) (at : r.place h ≡ Joint 0) (choice : IsJointChoice r h actions) where
  one_more : (k : ℕ) → k < r.players → h ++ take (suc k) actions ≡ h ++ take k actions ++ slice_index actions k ∷ []
  one_more k l =
      let m : k < length actions = omega (arith, choice.count) in
      ap (λ z. h ++ z) (rw (← add-one) (take_more actions k 0 m)) ∙ sym (append_assoc h (take k actions) (slice_index actions k ∷ []))

  chosen : (k : ℕ) → k ≤ r.players → Chosen r h actions k
  chosen zero l = record {
    play = subst (λ z. IsPlay r z) (sym (append-nil h)) play;
    place = λ m. ap r.place (append-nil h) ∙ at;
    legal = λ m q. ap (λ (z : List ℕ). r.legal z q) (append-nil h);
  }
  chosen (suc k) l =
      let below : k < r.players = omega arith in
      let before = chosen k (omega arith) in
      let a = slice_index actions k in
      let e = one_more k below in
      let here = before.place below in
      let c : Contains (next_of r (h ++ take k actions)) a = rw here (subst (λ (xs : List ℕ). Contains xs a) (sym (before.legal below k)) (choice.each k below)) in
      let more = IsPlay-more r (h ++ take k actions) a before.play c in
      record {
        play = subst (λ z. IsPlay r z) (sym e) more;
        place = λ m. ap r.place e ∙ laws.joint.runs (h ++ take k actions) a k more here (omega arith) ∙ ap Joint (add-one k);
        legal = λ m q. ap (λ (z : List ℕ). r.legal z q) e ∙ laws.joint.same_legal (h ++ take k actions) a k q more here (omega arith) ∙ before.legal below q;
      }

  -- a whole joint step is a part of a play
  pub IsPlay-joint : IsPlay r (h ++ actions)
  IsPlay-joint =
      subst (λ (z : List ℕ). IsPlay r (h ++ z)) (take_all r.players actions (omega (arith, choice.count))) (chosen r.players (omega arith)).play

  -- the next player's number is legal
  pub joint_next : (k : ℕ) → k < r.players → Contains (next_of r (h ++ take k actions)) (slice_index actions k)
  joint_next k l =
      let c = chosen k (omega arith) in
      rw (c.place l) (subst (λ (xs : List ℕ). Contains xs (slice_index actions k)) (sym (c.legal l k)) (choice.each k l))
