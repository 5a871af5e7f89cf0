-- The answer that is computed is the one that the lines of the file tell.
use Rattle.std.proofs.Common.{◌≡◌, ℕ, List, Option, Some, None, Result, Ok, Err, refl, ◌∙◌, ap, subst}
use Rattle.std.specs.Prelude.{MatchResult, IfOk, IfErr}
use Rattle.spiel_string.specs.Answer as of_string
use Rattle.spiel_string.specs.Game.{Game}
use Rattle.spiel_string.specs.View.{view}
use Rattle.spiel_string.specs.declared.fault.StringFault.{StringFault}
use Rattle.spiel_string.specs.declared.fault.StringFault.TheVariants.{TooLong, Syntax, TooDeep, Repeated, NoMemory}
use Rattle.spiel_string.proofs.Answered.{reading_of_game, reading_of_fault}
use Rattle.spiel_string.proofs.Answered as of_text
use Rattle.spiel_save.specs.Answer.{Played, with_numbers, with_game, with_body, reading_saved, IsAnswer, IsComputed}
use Rattle.spiel_save.specs.Lines.{kept_from}
use Rattle.spiel_save.specs.Numbers.{numbers_of}
use Rattle.spiel_save.specs.Saved.{Body, body_of, IsSaved, IsSavedFault, IsGameFault, MayRefuse}
use Rattle.spiel_save.specs.declared.fault.SavedFault.{SavedFault}
use Rattle.spiel_save.specs.declared.fault.SavedFault.TheVariants as fault
use Rattle.spiel_save.specs.declared.saved.Saved.{Saved}
use Rattle.spiel_save.proofs.OneFile.{named_fault}

saved_is_computed : (bytes : List ℕ) (g : Game) (history : List ℕ) → IsSaved bytes g history → reading_saved bytes ≡ Ok (g, history)
unfolding reading_saved
saved_is_computed bytes g history s = ap with_body s.found ∙ ap (with_game s.body.1) (reading_of_game s.body.0 g s.read) ∙ ap (with_numbers g) s.numbers

fault_is_computed : (bytes : List ℕ) (answer : SavedFault) → MayRefuse bytes answer → IsComputed (reading_saved bytes) answer
unfolding reading_saved
fault_is_computed bytes fault.Header m = ap with_body m
fault_is_computed bytes (fault.Game of_game) m =
    ap with_body m.found ∙ ap (with_game m.body.1) (reading_of_fault m.body.0 of_game m.refused) ∙ ap (λ e. Err e) (named_fault m.body.0 of_game m.refused)
fault_is_computed bytes (fault.Number line) m = ap with_body m.found ∙ ap (with_game m.body.1) (reading_of_game m.body.0 m.game m.read) ∙ ap (with_numbers m.game) m.numbers
fault_is_computed bytes fault.NoMemory m = tt

pub answer_is_computed : (bytes : List ℕ) (r : Result Saved SavedFault) → IfOk r (λ saved. IsSaved bytes (view saved.game) saved.history) → IfErr r (MayRefuse bytes)
    → MatchResult r (λ saved. reading_saved bytes ≡ Ok (view saved.game, saved.history)) (IsComputed (reading_saved bytes))
answer_is_computed bytes (Ok saved) ok err = saved_is_computed bytes (view saved.game) saved.history ok
answer_is_computed bytes (Err answer) ok err = fault_is_computed bytes answer err

-- ---- what is computed is what the lines tell

numbers_told : (bytes : List ℕ) (body : Body) → body_of (kept_from 0 bytes) ≡ Some body → (g : Game) → of_string.IsAnswer body.0 (Ok g)
    → (r : Result (List ℕ) ℕ) → numbers_of body.1 ≡ r → IsAnswer bytes (with_numbers g r)
numbers_told bytes body found g read (Ok history) e = record { body = body; found = found; read = read; numbers = e }
numbers_told bytes body found g read (Err line) e = record { body = body; found = found; game = g; read = read; numbers = e }

game_told : (bytes : List ℕ) (body : Body) → body_of (kept_from 0 bytes) ≡ Some body → (r : Result Game StringFault) → of_string.IsAnswer body.0 r
    → IsAnswer bytes (with_game body.1 r)
game_told bytes body found (Ok g) a = numbers_told bytes body found g a (numbers_of body.1) refl
game_told bytes body found (Err TooLong) a = record { body = body; found = found; refused = a }
game_told bytes body found (Err (Syntax at)) a = record { body = body; found = found; refused = a }
game_told bytes body found (Err TooDeep) a = record { body = body; found = found; refused = a }
game_told bytes body found (Err (Repeated at)) a = record { body = body; found = found; refused = a }
game_told bytes body found (Err NoMemory) a = absurd a

body_told : (bytes : List ℕ) (o : Option Body) → body_of (kept_from 0 bytes) ≡ o → IsAnswer bytes (with_body o)
body_told bytes None e = e
body_told bytes (Some body) e = game_told bytes body e (of_string.reading body.0) (of_text.is_answer body.0)

pub is_answer : (bytes : List ℕ) → IsAnswer bytes (reading_saved bytes)
unfolding reading_saved
is_answer bytes = body_told bytes (body_of (kept_from 0 bytes)) refl
