use Rattle.std.proofs.Common.{◌≡◌, ◌++◌, ◌∙◌, List, ℕ, ap, subst, append_assoc}
use Rattle.std.specs.Prelude.{codes}
use Rattle.spiel_frac.specs.Adding.{Adds, AddsPart}
use Rattle.spiel_frac.specs.Listed.{listed}
use Rattle.spiel_frac.proofs.AddedTexts.{adds_behind, adds_failed, part_front}
use Rattle.spiel_dice.specs.LiarsDice.{faces_of, dice_of, calls_of, liars_dice_info}
use Rattle.spiel_dice.proofs.liars_dice.LiarsDiceGame.info.Goals as goal

pub returns-in_err-push_faces : goal.returns-in_err-push_faces
returns-in_err-push_faces c =
    let g = c.args.self.now in
    let h = c.args.state.now.history in
    let old = c.args.out.now in
    let new = c.push_faces.new.out in
    let faces : List ℕ = listed 44 (faces_of g.sides (dice_of c.args.player g.dice h)) in
    let some : AddsPart old new faces = subst (λ (own : List ℕ). AddsPart old new (listed 44 (faces_of g.sides own))) c.dice_of.ensures c.in_err-push_faces.ensures in
    adds_failed c.from_residual.result _ _ _ c.from_residual.ensures.0 (part_front old new (faces ++ codes ":") (listed 32 (calls_of g.dice h)) (part_front old new faces (codes ":") some))

pub returns : goal.returns
returns c =
    let g = c.args.self.now in
    let h = c.args.state.now.history in
    let own = c.dice_of.result.now in
    let faces : List ℕ = listed 44 (faces_of g.sides own) in
    let before : c.push.new.self ≡ c.args.out.now ++ (faces ++ codes ":") =
    c.in_ok-push.ensures.ok ∙ ap (λ (text : List ℕ). text ++ codes ":") c.in_ok-push_faces.ensures ∙ append_assoc c.args.out.now faces (codes ":") in
    let whole : faces ++ codes ":" ++ listed 32 c.calls.result.now ≡ liars_dice_info g.dice g.sides h c.args.player =
    ap (λ (xs : List ℕ). listed 44 (faces_of g.sides xs) ++ codes ":" ++ listed 32 c.calls.result.now) c.dice_of.ensures
    ∙ ap (λ (xs : List ℕ). listed 44 (faces_of g.sides (dice_of c.args.player g.dice h)) ++ codes ":" ++ listed 32 xs) c.calls.ensures in
    subst (λ (text : List ℕ). Adds c.write_numbers.result c.args.out.now c.write_numbers.new.out text) whole
    (adds_behind c.write_numbers.result c.args.out.now c.push.new.self c.write_numbers.new.out (faces ++ codes ":") (listed 32 c.calls.result.now) before c.write_numbers.ensures)
