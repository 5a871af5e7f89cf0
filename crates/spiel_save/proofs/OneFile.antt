-- A file has one game and history, or one first fault.
use Rattle.std.proofs.Common.{◌≡◌, ℕ, List, Option, Some, None, Result, Ok, Err, refl, ◌∙◌, ap, subst, ◌⊎◌, inl, inr}
use Rattle.std.specs.Result.{IsErrAnd}
use Rattle.spiel_string.specs.Game.{Game}
use Rattle.spiel_string.specs.Reading.{IsRead, IsFaultOf}
use Rattle.spiel_string.specs.declared.fault.StringFault.{StringFault}
use Rattle.spiel_string.specs.declared.fault.StringFault.TheVariants.{TooLong, Syntax, TooDeep, Repeated, NoMemory}
use Rattle.spiel_save.specs.Faults.{in_game}
use Rattle.spiel_save.specs.Lines.{Line, kept_from}
use Rattle.spiel_save.specs.Numbers.{numbers_of}
use Rattle.spiel_save.specs.Saved.{Body, body_of, IsSaved, IsSavedFault, Gives, Refuses}
use Rattle.spiel_save.specs.declared.fault.SavedFault.{SavedFault}
use Rattle.spiel_save.specs.declared.fault.SavedFault.TheVariants as fault
use Rattle.spiel_save.specs.declared.saved.Saved.{Saved}

one_body : (found : Option Body) (a b : Body) → found ≡ Some a → found ≡ Some b → a ≡ b
one_body found a b e f = cc

no_body : (found : Option Body) (a : Body) → found ≡ Some a → found ≡ None → ⊥
no_body found a e f = cc

-- a fault of a text is no want of memory
pub named_fault : (text : List ℕ) (cause : StringFault) → IsFaultOf text cause → in_game cause ≡ fault.Game cause
named_fault text TooLong h = refl
named_fault text (Syntax at) h = refl
named_fault text TooDeep h = refl
named_fault text (Repeated at) h = refl
named_fault text NoMemory h = absurd h

-- where the game string was refused no game was there to be read
pub game_refused : (bytes text : List ℕ) (lines : List Line) (answer : StringFault) (r : Result Saved SavedFault)
    → body_of (kept_from 0 bytes) ≡ Some (text, lines) → ((g : Game) → IsRead text g → answer ≡ NoMemory) → IsErrAnd r (λ e. e ≡ in_game answer)
    → (g : Game) (history : List ℕ) → IsSaved bytes g history → Gives g history r
game_refused bytes text lines answer (Ok saved) found read is g history s = absurd is
game_refused bytes text lines answer (Err e) found read is g history s =
    let same = one_body _ s.body (text, lines) s.found found in is ∙ ap in_game (read g (subst (λ (b : Body). IsRead b.0 g) same s.read))

-- and its fault is the one that is answered
pub game_fault : (bytes text : List ℕ) (lines : List Line) (answer : StringFault) (r : Result Saved SavedFault)
    → body_of (kept_from 0 bytes) ≡ Some (text, lines) → ((g : Game) → IsRead text g → answer ≡ NoMemory)
    → ((cause : StringFault) → IsFaultOf text cause → (answer ≡ cause) ⊎ (answer ≡ NoMemory)) → IsErrAnd r (λ e. e ≡ in_game answer)
    → (cause : SavedFault) → IsSavedFault bytes cause → Refuses cause r
game_fault bytes text lines answer (Ok saved) found read first is cause s = absurd is
game_fault bytes text lines answer (Err e) found read first is fault.Header s = absurd (no_body _ (text, lines) found s)
game_fault bytes text lines answer (Err e) found read first is (fault.Game of_game) s =
    let same = one_body _ s.body (text, lines) s.found found in
    let refused : IsFaultOf text of_game = subst (λ (b : Body). IsFaultOf b.0 of_game) same s.refused in
    go refused (first of_game refused)
  where
    go : IsFaultOf text of_game → (answer ≡ of_game) ⊎ (answer ≡ NoMemory) → (e ≡ fault.Game of_game) ⊎ (e ≡ fault.NoMemory)
    go h (inl same) = inl (is ∙ ap in_game same ∙ named_fault text of_game h)
    go h (inr memory) = inr (is ∙ ap in_game memory)
game_fault bytes text lines answer (Err e) found read first is (fault.Number line) s =
    let same = one_body _ s.body (text, lines) s.found found in
    inr (is ∙ ap in_game (read s.game (subst (λ (b : Body). IsRead b.0 s.game) same s.read)))
game_fault bytes text lines answer (Err e) found read first is fault.NoMemory s = absurd s

one_history : (r : Result (List ℕ) ℕ) (a b : List ℕ) → r ≡ Ok a → r ≡ Ok b → a ≡ b
one_history r a b e f = cc

-- what was read is what is there
pub saved_is : (bytes text : List ℕ) (lines : List Line) (given : Game) (numbers : List ℕ)
    → body_of (kept_from 0 bytes) ≡ Some (text, lines) → ((g : Game) → IsRead text g → given ≡ g) → numbers_of lines ≡ Ok numbers
    → (g : Game) (history : List ℕ) → IsSaved bytes g history → (given ≡ g) × (numbers ≡ history)
saved_is bytes text lines given numbers found read is g history s =
    let same = one_body _ s.body (text, lines) s.found found in (
      read g (subst (λ (b : Body). IsRead b.0 g) same s.read),
      one_history (numbers_of lines) numbers history is (subst (λ (b : Body). numbers_of b.1 ≡ Ok history) same s.numbers),
    )
