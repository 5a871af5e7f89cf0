use Rattle.std.proofs.Common.{◌≡◌, ◌∷◌, [], ◌++◌, length, drop, ap, sym, ◌∙◌, arith, append_assoc, length-drop}
use Rattle.std.proofs.Math.Seq.{drop-append_seam}
use Rattle.spiel_layers.specs.StartAt.{start_at_history}
use Rattle.spiel_layers.proofs.start_at.StartAtGame.undo.Goals as goal

pub undo-requires-clause-some : goal.undo-requires-clause-some
undo-requires-clause-some g c =
    let game = c.args.self.now in
    omega (arith, c.requires.some, length-drop (length game.prefix) (g.G.Game.history_of game.inner c.args.state.now))

-- what is taken back isn't of the prefix
pub returns : goal.returns
returns g c = λ h a e.
    let game = c.args.self.now in
    let at = c.requires.at in
    let inside = c.undo.ensures (game.prefix ++ h) a (at.begins ∙ ap (λ z. game.prefix ++ z) e ∙ sym (append_assoc game.prefix h (a ∷ []))) in
    let own : start_at_history g.G.Game game c.undo.new.state ≡ h = ap (drop (length game.prefix)) inside.history ∙ drop-append_seam game.prefix h in
    record {
      sound = record {
        started = at.started;
        sound = inside.sound;
        begins = inside.history ∙ ap (λ z. game.prefix ++ z) (sym own);
      };
      history = own;
    }
