use Rattle.std.proofs.Common.{◌≡◌, ℕ, ◌-◌, List, [], ◌∷◌, ◌++◌, length, take, ap, sym, ◌∙◌, arith, length-append}
use Rattle.std.proofs.lemmas.List.{take_at}
use Rattle.spiel_api.proofs.PlayLemmas.{IsPlay-back}
use Rattle.spiel_poker.specs.Kuhn.{kuhn_rules}
use Rattle.spiel_poker.proofs.kuhn.KuhnGame.undo.Goals as goal

-- all but the last number
front_is : (whole h : List ℕ) (a : ℕ) → whole ≡ h ++ a ∷ [] → take (length whole - 1) whole ≡ h
front_is whole h a e =
    ap (λ (xs : List ℕ). take (length xs - 1) xs) e ∙ take_at h (a ∷ []) (length (h ++ a ∷ []) - 1) (omega (arith, length-append h (a ∷ [])))

pub returns : goal.returns
returns c h a e =
    let s = c.args.state.now in
    let at = c.requires.at in
    let left = (c.pop.ensures.last h a e).0 in
    record {
      sound = record {
        play = IsPlay-back kuhn_rules s.history _ h a at.play e left;
        agrees = left ∙ sym (c.before-state.ensures s.first s.second ∙ front_is _ h a (sym at.agrees ∙ e));
        first_card = at.first_card;
        second_card = at.second_card;
      };
      history = left;
    }
