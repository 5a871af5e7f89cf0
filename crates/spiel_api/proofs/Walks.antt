-- The fault that is computed is the one that the facts tell.
use Rattle.std.proofs.Common.{◌≡◌, ℕ, zero, suc, ◌+◌, ◌<◌, List, [], ◌∷◌, ◌++◌, length, take, slice_index, Some, None, arith, refl, ap, sym, subst, ◌∙◌, length-append, add-zero}
use Rattle.std.specs.List.{Contains}
use Rattle.std.proofs.lemmas.List.{append-nil}
use Rattle.std.proofs.Math.Seq.{append_snoc}
use Rattle.spiel_api.specs.declared.place.Place.{Place}
use Rattle.spiel_api.specs.declared.place.Place.TheVariants.{End, Chance, Move, Joint}
use Rattle.spiel_api.specs.declared.walking.WalkFault.TheVariants.{Illegal, Unfinished}
use Rattle.spiel_api.specs.Rules.{Rules, next_of}
use Rattle.spiel_api.specs.Plays.{Follows, IsPlay}
use Rattle.spiel_api.specs.Place.{IsOutside}
use Rattle.spiel_api.specs.Walks.{IsFirstIllegal, first_illegal, fault_at_end, walk_fault}
use Rattle.spiel_api.proofs.Members.{is_in-Contains, is_in-none}

module _ (next : List ℕ → List ℕ) where
  first_illegal-Follows : (h xs : List ℕ) → Follows next h xs → first_illegal next h xs ≡ None
  first_illegal-Follows h [] f = refl
  first_illegal-Follows h (x ∷ xs) f = rw (is_in-Contains (next h) x f.0) (first_illegal-Follows (h ++ x ∷ []) xs f.1)

  first_illegal-at : (h xs : List ℕ) (k : ℕ) → k < length xs → Follows next h (take k xs) → (Contains (next (h ++ take k xs)) (slice_index xs k) → ⊥) → first_illegal next h xs ≡ Some (k + length h)
  first_illegal-at h [] k l f out = absurd (omega arith)
  first_illegal-at h (x ∷ xs) zero l f out =
      rw (is_in-none (next h) x (subst (λ (i : List ℕ). Contains (next i) x → ⊥) (append-nil h) out)) (ap (λ n. Some n) (omega arith))
  first_illegal-at h (x ∷ xs) (suc k) l f out =
      rw (is_in-Contains (next h) x f.0)
      (first_illegal-at (h ++ x ∷ []) xs k (omega arith) f.1 (subst (λ (i : List ℕ). Contains (next i) (slice_index xs k) → ⊥) (sym (append_snoc h x (take k xs))) out)
      ∙ ap (λ n. Some n) (omega (arith, length-append h (x ∷ []))))

-- a play that doesn't end inside a joint step has no fault
pub fault_at_end-outside : (place : Place) (n : ℕ) → IsOutside place → fault_at_end place n ≡ None
fault_at_end-outside End n o = refl
fault_at_end-outside Chance n o = refl
fault_at_end-outside (Move p) n o = refl
fault_at_end-outside (Joint zero) n o = refl
fault_at_end-outside (Joint (suc p)) n o = absurd (omega arith)

-- a play that ends inside a joint step has its length as the fault
pub fault_at_end-inside : (place : Place) (n : ℕ) → (IsOutside place → ⊥) → fault_at_end place n ≡ Some (Unfinished n)
fault_at_end-inside End n i = absurd (i tt)
fault_at_end-inside Chance n i = absurd (i tt)
fault_at_end-inside (Move p) n i = absurd (i tt)
fault_at_end-inside (Joint zero) n i = absurd (i refl)
fault_at_end-inside (Joint (suc p)) n i = refl

-- a list with a first illegal number
pub walk_fault-illegal : (r : Rules) (h : List ℕ) (at : ℕ) → IsFirstIllegal r h at → walk_fault r h ≡ Some (Illegal at)
unfolding walk_fault
walk_fault-illegal r h at f = rw (first_illegal-at (next_of r) [] h at f.within f.before.steps f.illegal) (ap (λ n. Some (Illegal n)) (add-zero at))

-- a play is judged by the place where it ends
pub walk_fault-play : (r : Rules) (h : List ℕ) → IsPlay r h → walk_fault r h ≡ fault_at_end (r.place h) (length h)
unfolding walk_fault
walk_fault-play r h play = rw (first_illegal-Follows (next_of r) [] h play.steps) refl
