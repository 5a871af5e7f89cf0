-- Going on with a game that was found by its name.
use Rattle.std.proofs.Common.{◌≡◌, ℕ, List, ap, subst, sym}
use Rattle.std.specs.Prelude.{None, Result, Ok, Err}
use Rattle.std.specs.Result.{IsErr, IsErrAnd}
use Rattle.spiel_io.specs.Outside.{ShelfState}
use Rattle.spiel_io.specs.Plan.{Plan, Give, ◌>>=◌, Agrees, AsksNothing, Follows, decide, refusing, seeing}
use Rattle.spiel_io.proofs.Plan.{follows_agrees, follows_handed_on, follows_stop, follows_then}
use Rattle.spiel_io.proofs.Reached.{agrees_then, quiet_decide, quiet_unless}
use Rattle.spiel_api.specs.Rules.{Rules}
use Rattle.spiel_api.specs.Walks.{walk_fault}
use Rattle.spiel_efg.specs.declared.parts.EfgParts.{EfgParts}
use Rattle.spiel_efg.specs.Reading.{game_of_file}
use Rattle.spiel_efg.specs.Writing.{efg_text}
use Rattle.spiel_save.specs.Answer.{Played, reading_saved}
use Rattle.spiel_string.specs.Answer.{reading}
use Rattle.spiel_string.specs.Game.{Game}
use Rattle.spiel_load.specs.Named.{named_game}
use Rattle.spiel_cli.specs.Named.{NamedGame, with_game, with_rules}
use Rattle.spiel_cli.specs.Refusal.{kind_of}
use Rattle.spiel_cli.specs.Restore.{play_in_file, state_of, state_of_play}
use Rattle.spiel_cli.specs.Tidy.{tidied}
use Rattle.spiel_cli.specs.declared.refusal.Refusal.{Refusal}
use Rattle.spiel_cli.specs.declared.refusal.Refusal.TheVariants.{Efg, GameString, Loading, SavedFile, Walk}

-- something was read without a file, and then a plan was followed
read_then : {A B F : Type 0} (refusal : F → Refusal) (read : Result A F) (next : A → Plan B Refusal) (old new : ShelfState) (a : A) (r : Result B Refusal)
    → Agrees kind_of (decide refusal read) None (Ok a) → Follows kind_of (next a) old new r → Follows kind_of (decide refusal read >>= next) old new r
read_then refusal read next old new a r h k =
    follows_then kind_of (decide refusal read) next old old new a r (follows_agrees kind_of (decide refusal read) old (Ok a) h (quiet_decide refusal read)) k

module _ {A : Type 0} (word : List ℕ) (text : Game) (next : NamedGame → Plan A Refusal) (old mid : ShelfState) (reads : Agrees kind_of (decide GameString (reading word)) None (Ok text)) where
  -- the game of a word was found, and then a plan was followed
  pub game_then : (rules : Rules) (new : ShelfState) (r : Result A Refusal) → Follows kind_of (refusing Loading (named_game text)) old mid (Ok rules)
      → Follows kind_of (next (record { text = text; rules = rules })) mid new r → Follows kind_of (with_game word next) old new r
  game_then rules new r found k =
      read_then GameString (reading word) (λ text. with_rules text next) old new text r reads
      (follows_then kind_of (refusing Loading (named_game text)) (λ rules. next (record { text = text; rules = rules })) old mid new rules r found k)

  -- and nothing more was asked for
  pub game_shown : (rules : Rules) (r : Result A Refusal) → Follows kind_of (refusing Loading (named_game text)) old mid (Ok rules) → AsksNothing (next (record { text = text; rules = rules }))
      → Agrees kind_of (next (record { text = text; rules = rules })) None r → Follows kind_of (with_game word next) old mid r
  game_shown rules r found quiet k = game_then rules mid r found (follows_agrees kind_of (next (record { text = text; rules = rules })) mid r k quiet)

  -- the word names no game
  game_not_found : (e : Refusal) → Follows kind_of (refusing Loading (named_game text)) old mid (Err e) → Follows kind_of (with_game word next) old mid (Err e)
  game_not_found e found =
      read_then GameString (reading word) (λ text. with_rules text next) old mid text (Err e) reads
      (follows_stop kind_of (refusing Loading (named_game text)) (λ rules. next (record { text = text; rules = rules })) old mid e found)

  pub game_stop : (e : Refusal) (r : Result A Refusal) → Follows kind_of (refusing Loading (named_game text)) old mid (Err e) → IsErr r × IsErrAnd r (λ x. x ≡ e)
      → Follows kind_of (with_game word next) old mid r
  game_stop e (Ok a) found same = absurd same.1
  game_stop e (Err x) found same = subst (λ (y : Refusal). Follows {A = A} kind_of (with_game word next) old mid (Err y)) (sym same.1) (game_not_found e found)

  pub case_stop : {C : Type 0} (seen : C → A) (e : Refusal) (r : Result C Refusal) → Follows kind_of (refusing Loading (named_game text)) old mid (Err e) → IsErr r × IsErrAnd r (λ x. x ≡ e)
      → Follows kind_of (with_game word next) old mid (seeing seen r)
  case_stop seen e r found same = follows_handed_on kind_of seen (with_game word next) old mid e r (game_not_found e found) same

-- the game of a saved play was found, and its state was shown
pub found_then : (played : Played) (rules : Rules) (history : List ℕ) (old new : ShelfState) (r : Result (List ℕ) Refusal)
    → Follows kind_of (refusing Loading (named_game played.0)) old new (Ok rules) → history ≡ played.1
    → Agrees kind_of (state_of history (record { text = played.0; rules = rules })) None r → Follows kind_of (state_of_play played) old new r
found_then played rules history old new r found same k =
    let game : NamedGame = record { text = played.0; rules = rules } in
    follows_then kind_of (refusing Loading (named_game played.0)) (λ rules. state_of played.1 (record { text = played.0; rules = rules })) old new new rules r found
    (follows_agrees kind_of (state_of played.1 game) new r (subst (λ (h : List ℕ). Agrees kind_of (state_of h game) None r) same k)
    (quiet_unless Walk (walk_fault rules played.1) _ tt))

-- a saved play was read, and its state was shown
pub shown_then : (bytes : List ℕ) (played : Played) (old new : ShelfState) (r : Result (List ℕ) Refusal) → Agrees kind_of (decide SavedFile (reading_saved bytes)) None (Ok played)
    → Follows kind_of (state_of_play played) old new r → Follows kind_of (play_in_file bytes) old new r
shown_then bytes played old new r read k = read_then SavedFile (reading_saved bytes) state_of_play old new played r read k

-- the game of a saved play was not found
pub not_found : (played : Played) (old new : ShelfState) (e : Refusal) (r : Result (List ℕ) Refusal) → Follows kind_of (refusing Loading (named_game played.0)) old new (Err e)
    → IsErr r × IsErrAnd r (λ x. x ≡ e) → Follows kind_of (state_of_play played) old new r
not_found played old new e (Ok text) found same = absurd same.1
not_found played old new e (Err x) found same =
    follows_stop kind_of (refusing Loading (named_game played.0)) (λ rules. state_of played.1 (record { text = played.0; rules = rules })) old new x
    (subst (λ (y : Refusal). Follows {A = Rules} kind_of (refusing Loading (named_game played.0)) old new (Err y)) (sym same.1) found)

-- a file was read, and what it says was written
pub tidied_then : (bytes : List ℕ) (parts : EfgParts) (text : List ℕ) → Agrees kind_of (decide Efg (game_of_file bytes)) None (Ok parts) → text ≡ efg_text parts
    → Agrees kind_of (tidied bytes) None (Ok text)
tidied_then bytes parts text h is = agrees_then (λ parts. Give (efg_text parts)) parts kind_of (decide Efg (game_of_file bytes)) None (Ok text) h (ap (λ (t : List ℕ). Ok t) is)
