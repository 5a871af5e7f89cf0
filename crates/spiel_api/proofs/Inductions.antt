-- What holds at the root, and after each legal number, holds of every play.
use Rattle.std.proofs.Common.{ℕ, List, [], ◌∷◌, ◌++◌, sym, subst}
use Rattle.std.specs.List.{Contains}
use Rattle.std.proofs.lemmas.List.{append-nil}
use Rattle.std.proofs.Math.Seq.{append_snoc}
use Rattle.spiel_api.specs.Rules.{Rules, next_of}
use Rattle.spiel_api.specs.Plays.{Follows, IsPlay}
use Rattle.spiel_api.proofs.PlayLemmas.{IsPlay-nil, IsPlay-more}

module _ (r : Rules) (P : List ℕ → Type 0) (more : (h : List ℕ) (a : ℕ) → IsPlay r h → P h → Contains (next_of r h) a → P (h ++ a ∷ [])) where
  along_from : (h rest : List ℕ) → IsPlay r h → P h → Follows (next_of r) h rest → P (h ++ rest)
  along_from h [] play here f = subst P (sym (append-nil h)) here
  along_from h (a ∷ rest) play here f =
      subst P (append_snoc h a rest) (along_from (h ++ a ∷ []) rest (IsPlay-more r h a play f.0) (more h a play here f.0) f.1)

  -- what stays with each number that is legal after a play
  pub along : P [] → (h : List ℕ) → IsPlay r h → P h
  along root h play = along_from [] h (IsPlay-nil r) root play.steps

-- the same where it doesn't matter that what came before is a play
pub of_plays : (r : Rules) (P : List ℕ → Type 0) → P [] → ((h : List ℕ) (a : ℕ) → P h → Contains (next_of r h) a → P (h ++ a ∷ [])) → (h : List ℕ) → IsPlay r h → P h
of_plays r P root more = along r P (λ h a play here c. more h a here c) root
