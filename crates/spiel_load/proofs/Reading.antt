-- What goes before is read first.
use Rattle.std.proofs.Common.{◌≡◌, List, map, [], ◌∷◌, ℕ, Result, Ok, Err, refl, sym, ap, subst, ◌∙◌}
use Rattle.std.specs.Result.{IsErr, IsErrAnd}
use Rattle.spiel_string.specs.Game.{game, Value}
use Rattle.spiel_string.specs.View as of_string
use Rattle.spiel_string.specs.View.{pair_view, params_view}
use Rattle.spiel_string.specs.declared.value.ParamValue.{ParamValue}
use Rattle.spiel_load.specs.Asked.{IsComputed, ReadsAs}
use Rattle.spiel_load.specs.Given.{Asked, Read, ◌>>=◌, asked_by, given_of}
use Rattle.spiel_load.specs.declared.fault.LoadFault.{LoadFault}
use Rattle.spiel_load.specs.declared.fault.LoadFault.TheVariants.{UnknownGame, TooDeep, UnknownParam, BadParam, File, Efg, Repeat, Start, NoMemory}

-- a fault of what is read first is one of the whole
pub computed_then : {A B : Type 0} (read : Read A) (next : A → Read B) (fault : LoadFault) → IsComputed read fault → IsComputed (read >>= next) fault
computed_then read next (UnknownGame name) e = ap (λ r. r >>= next) e
computed_then read next TooDeep e = ap (λ r. r >>= next) e
computed_then read next (UnknownParam name key) e = ap (λ r. r >>= next) e
computed_then read next (BadParam name key) e = ap (λ r. r >>= next) e
computed_then read next (File fault) e = e
computed_then read next (Efg fault) e = ap (λ r. r >>= next) e
computed_then read next (Repeat fault) e = ap (λ r. r >>= next) e
computed_then read next (Start fault) e = ap (λ r. r >>= next) e
computed_then read next NoMemory e = tt

pub then_computed : {A B : Type 0} (read : Read A) (x : A) (next : A → Read B) (fault : LoadFault) → read ≡ Ok x → IsComputed (next x) fault → IsComputed (read >>= next) fault
then_computed read x next fault e h = subst (λ r. IsComputed (r >>= next) fault) (sym e) h

pub then_ok : {A B : Type 0} (read : Read A) (x : A) (next : A → Read B) (y : B) → read ≡ Ok x → next x ≡ Ok y → (read >>= next) ≡ Ok y
then_ok read x next y e h = ap (λ r. r >>= next) e ∙ h

pub then_same : {A B : Type 0} (read : Read A) (x : A) (next : A → Read B) (r : Read B) → read ≡ Ok x → next x ≡ r → (read >>= next) ≡ r
then_same read x next r e h = ap (λ r. r >>= next) e ∙ h

-- a fault that was computed is handed on
pub faulty : {A B : Type 0} (meaning : B → A) (read : Read A) (fault : LoadFault) (r : Result B LoadFault) → IsComputed read fault → IsErr r × IsErrAnd r (λ x. x ≡ fault) → ReadsAs meaning read r
faulty meaning read fault (Ok x) h same = absurd same.1
faulty meaning read fault (Err x) h same = subst (IsComputed read) (sym same.1) h

pub reads_same : {A B : Type 0} (meaning : B → A) (read other : Read A) (r : Result B LoadFault) → read ≡ other → ReadsAs meaning read r → ReadsAs meaning other r
reads_same meaning read other r e h = subst (λ read. ReadsAs meaning read r) e h

pub ruleset reading_steps = (computed_then, then_computed, then_ok)

-- what is given, as parameters and back
given_again : (given : List (List ℕ × Value)) → given_of (of_string.params_of given) ≡ given
given_again [] = refl
given_again (pair ∷ given) = ap (λ rest. pair ∷ rest) (given_again given)

abbrev asked_of : List ℕ → List (List ℕ × Value) → Asked
asked_of name given = record { name = name; given = given }

-- what a game string asks for, by what the code takes of it
pub asked_again : (name of_text : List ℕ) (given params : List (List ℕ × ParamValue)) → name ≡ of_text → given ≡ params → asked_of name (map pair_view given) ≡ asked_by (game of_text (params_view params))
asked_again name of_text given params e f = ap (λ name. asked_of name (map pair_view given)) e ∙ ap (λ given. asked_of of_text (map pair_view given)) f ∙ ap (asked_of of_text) (sym (given_again (map pair_view params)))
