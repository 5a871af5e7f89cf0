-- In a turn-based game nobody knows the choices of what was a joint step.
use Rattle.std.specs.Prelude.{◌≡◌, ℕ, zero, suc, ◌<◌, ◌≤◌, List, [], ◌∷◌, ◌++◌, length, take, drop, slice_index}
use Rattle.std.proofs.Common.{ap, sym, subst, ◌∙◌, arith, append_assoc, add-one, take-append-drop}
use Rattle.std.proofs.lemmas.List.{append-nil, take_more, take_all}
use Rattle.spiel_api.specs.declared.place.Place.TheVariants.{Move, Joint}
use Rattle.spiel_api.specs.Rules.{Rules}
use Rattle.spiel_api.specs.Plays.{IsPlay}
use Rattle.spiel_api.specs.Laws.{IsLawful}
use Rattle.spiel_api.proofs.PlayLemmas.{IsPlay-front}
use Rattle.spiel_layers.specs.TurnBased.{turn_place}
use Rattle.spiel_layers.specs.TurnBasedLaws.{turn_play, inner_play}
use Rattle.spiel_layers.specs.Laws.{HidesChoices}

-- behind the first k choices of a joint step
record Hidden (r : Rules) (h step : List ℕ) (k : ℕ) : Type 0 where
  place : r.place (h ++ take k step) ≡ Joint k
  info : (q : ℕ) → k ≤ q → q < r.players → r.info (h ++ take k step) q ≡ r.info h q

module _ (r : Rules) (laws : IsLawful r) (h step : List ℕ) (play : IsPlay r (h ++ step)) (at : r.place h ≡ Joint 0) (fits : length step < r.players) where
  front : (k : ℕ) → IsPlay r (h ++ take k step)
  front k =
      let parts : h ++ step ≡ h ++ take k step ++ drop k step = ap (λ z. h ++ z) (sym (take-append-drop k step)) ∙ sym (append_assoc h (take k step) (drop k step)) in
      IsPlay-front r (h ++ take k step) (drop k step) (subst (λ (z : List ℕ). IsPlay r z) parts play)

  one_more : (k : ℕ) → k < length step → h ++ take (suc k) step ≡ h ++ take k step ++ slice_index step k ∷ []
  one_more k l = ap (λ z. h ++ z) (rw (← add-one) (take_more step k 0 l)) ∙ sym (append_assoc h (take k step) (slice_index step k ∷ []))

  hidden : (k : ℕ) → k ≤ length step → Hidden r h step k
  hidden zero l = record {
    place = ap r.place (append-nil h) ∙ at;
    info = λ q m n. ap (λ (z : List ℕ). r.info z q) (append-nil h);
  }
  hidden (suc k) l =
      let before = hidden k (omega arith) in
      let a = slice_index step k in
      let e = one_more k (omega arith) in
      let more = subst (λ (z : List ℕ). IsPlay r z) e (front (suc k)) in
      record {
        place = ap r.place e ∙ laws.joint.runs (h ++ take k step) a k more before.place (omega arith) ∙ ap Joint (add-one k);
        info = λ q m n. ap (λ (z : List ℕ). r.info z q) e ∙ laws.joint.same_info (h ++ take k step) a k q more before.place (omega arith) n ∙ before.info q (omega arith) n;
      }

  whole : take (length step) step ≡ step
  whole = take_all (length step) step (omega arith)

  moves : turn_place (r.place (h ++ step)) ≡ Move (length step)
  moves = ap turn_place (subst (λ (z : List ℕ). r.place (h ++ z) ≡ Joint (length step)) whole (hidden (length step) (omega arith)).place)

  hides : r.info (h ++ step) (length step) ≡ r.info h (length step)
  hides = subst (λ (z : List ℕ). r.info (h ++ z) (length step) ≡ r.info h (length step)) whole ((hidden (length step) (omega arith)).info (length step) (omega arith) fits)

pub hides_choices : (r : Rules) → IsLawful r → HidesChoices r
hides_choices r laws = record {
  plays = λ h. (inner_play r h, turn_play r h);
  moves = λ h step play at fits. moves r laws h step play at fits;
  hides = λ h step play at fits. hides r laws h step play at fits;
}
