use Rattle.std.proofs.Common.{◌≡◌, ℕ, List, [], ◌∷◌, ◌++◌, Option, None, Some, sym, subst, refl, ◌∙◌}
use Rattle.std.specs.Prelude.{MatchOption}
use Rattle.spiel_api.specs.Plays.{IsPlay}
use Rattle.spiel_api.proofs.PlayLemmas.{IsPlay-nil, IsPlay-back}
use Rattle.spiel_poker.specs.Leduc.{leduc_rules}
use Rattle.spiel_poker.proofs.leduc.LeducGame.undo.Goals as goal

-- what is left is a play
left : (before after : List ℕ) (taken : Option ℕ) → IsPlay leduc_rules before → MatchOption taken ((before ≡ []) × (after ≡ [])) (λ a. before ≡ after ++ a ∷ []) → IsPlay leduc_rules after
left before after None play was = subst (IsPlay leduc_rules) (sym was.1) (IsPlay-nil leduc_rules)
left before after (Some a) play was = IsPlay-back leduc_rules before after after a play was refl

pub show_all-requires : goal.show_all-requires
show_all-requires c = left c.args.state.now.history c.pop.new.self c.pop.result c.requires.at.play c.pop.ensures.taken

pub returns : goal.returns
returns c h a e = record { sound = c.show_all.ensures.shown; history = c.show_all.ensures.history ∙ (c.pop.ensures.last h a e).0 }
