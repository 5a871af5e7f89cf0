-- What a reader has at the end of a text.
use Rattle.std.proofs.Common.{◌≡◌, ◌<◌, ◌≤◌, ℕ, zero, Bool, true, false, List, [], length, drop, refl, sym, ◌∙◌, ap, Option, Some, None, arith, subst}
use Rattle.std.specs.Prelude.{is_some}
use Rattle.std.proofs.Math.Seq.{take-length}
use Rattle.std.proofs.lemmas.List.{drop_all}
use Rattle.spiel_string.specs.Game.{Game}
use Rattle.spiel_string.specs.Grammar.{leaf, call, Whole, Spells, IsSyntaxPlace}
use Rattle.spiel_string.specs.Kept.{kept_view, kept_of, game_read}
use Rattle.spiel_string.specs.Modes.{may_end}
use Rattle.spiel_string.specs.Nesting.{nesting}
use Rattle.spiel_string.specs.Partial.{State, start, outer, done, run, final}
use Rattle.spiel_string.specs.Progress.{deepest_of, seconds_of}
use Rattle.spiel_string.specs.Reading.{IsRead, IsTooDeep, IsRepeated}
use Rattle.spiel_string.specs.Repeats.{second_keys}
use Rattle.spiel_string.specs.Stands.{Stands, IsFirst}
use Rattle.spiel_string.specs.Values.{game_of}
use Rattle.spiel_string.specs.declared.read.Reader.{Reader}
use Rattle.spiel_string.proofs.ModeSteps.{may_end-mode_of}
use Rattle.spiel_string.proofs.SyntaxPlaces.{spelled-run, syntax_end}

-- the tree of a state at which a text may end, and what was found in it
record Ends (s : State) : Type 0 where
  tree : Whole
  is_final : final s ≡ Some tree
  deepest : deepest_of s ≡ nesting tree.top
  seconds : seconds_of s [] ≡ second_keys tree.top []
  value : game_read (kept_of s).last (kept_of s).part ≡ game_of tree.top

ends : (s : State) → true ≡ is_some (final s) → Ends s
ends (outer l x n) h = record { tree = record { lead = l; top = leaf x n }; is_final = refl; deepest = refl; seconds = refl; value = refl }
ends (done l x n ps m) h = record { tree = record { lead = l; top = call x n ps m }; is_final = refl; deepest = refl; seconds = refl; value = refl }
ends s h = absurd (let bad : true ≡ false = h in cc)

whole_run : {text : List ℕ} {r : Reader} (h : Stands text (length text) r) → run (start zero) text ≡ Some h.state
whole_run {text} h = ap (run (start zero)) (sym (take-length text)) ∙ h.read

ending : {text : List ℕ} {r : Reader} (h : Stands text (length text) r) (b : Bool) → may_end r.mode ≡ b → b ≡ is_some (final h.state)
ending h b m = sym m ∙ ap may_end h.mode_is ∙ may_end-mode_of h.state

-- what a reader has
pub record Found (text : List ℕ) (r : Reader) : Type 0 where
  pub tree : Whole
  pub spells : Spells tree text
  pub deepest : r.deepest ≡ nesting tree.top
  pub first : IsFirst r.first (second_keys tree.top []) (length text)
  pub value : game_read (kept_view r.kept).last (kept_view r.kept).part ≡ game_of tree.top

pub found : (text : List ℕ) (r : Reader) → Stands text (length text) r → may_end r.mode ≡ true → Found text r
found text r h m =
    let e = ends h.state (ending h true m) in
    let none : drop (length text) text ≡ [] = drop_all (length text) text (omega arith) in
    record {
      tree = e.tree;
      spells = spelled-run text h.state e.tree (whole_run h) e.is_final;
      deepest = h.deepest_is ∙ e.deepest;
      first = subst (λ u. IsFirst r.first u (length text)) (ap (seconds_of h.state) none ∙ e.seconds) h.first_is;
      value = ap (λ u. game_read u.last u.part) h.kept_is ∙ e.value;
    }

pub not_ended : (text : List ℕ) (r : Reader) → Stands text (length text) r → may_end r.mode ≡ false → IsSyntaxPlace text (length text)
not_ended text r h m = go (final h.state) refl (ending h false m)
  where
    go : (o : Option Whole) → final h.state ≡ o → false ≡ is_some o → IsSyntaxPlace text (length text)
    go None e q = syntax_end text h.state (whole_run h) e
    go (Some t) e q = absurd (let bad : false ≡ true = q in cc)

pub too_deep : (text : List ℕ) (r : Reader) → length text ≤ 4096 → Found text r → 8 < r.deepest → IsTooDeep text
too_deep text r short f h = record { short = short; tree = f.tree; spells = f.spells; deep = (let e = f.deepest in omega (arith, e)) }

pub repeated : (text : List ℕ) (r : Reader) (p : ℕ) → length text ≤ 4096 → Found text r → r.deepest ≤ 8 → r.first ≡ Some p → IsRepeated text p
repeated text r p short f h e =
    let i : IsFirst (Some p) (second_keys f.tree.top []) (length text) = subst (λ u. IsFirst u (second_keys f.tree.top []) (length text)) e f.first in
    record {
      short = short;
      tree = f.tree;
      spells = f.spells;
      shallow = (let d = f.deepest in omega (arith, d));
      second = record { suffix = i.0; others = i.1; first = i.2; at_place = i.3 };
    }

pub is_read : (text : List ℕ) (r : Reader) (g : Game) → length text ≤ 4096 → Found text r → r.deepest ≤ 8 → r.first ≡ None
    → g ≡ game_read (kept_view r.kept).last (kept_view r.kept).part → IsRead text g
is_read text r g short f h e v = record {
  short = short;
  tree = f.tree;
  spells = f.spells;
  shallow = (let d = f.deepest in omega (arith, d));
  once = subst (λ u. IsFirst u (second_keys f.tree.top []) (length text)) e f.first;
  value = v ∙ f.value;
}
