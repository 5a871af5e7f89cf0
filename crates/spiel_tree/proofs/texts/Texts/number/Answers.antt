use Rattle.std.proofs.Common.{ap, ◌∙◌, map, sym}
use Rattle.spiel_tree.specs.FirstSeen.{with_text, place_of_text}
use Rattle.spiel_tree.proofs.FirstSeen.{texts_after, text_known, position_is}
use Rattle.spiel_tree.proofs.texts.Texts.number.Goals as goal

pub returns-in-Some-clause-texts : goal.returns-in-Some-clause-texts
returns-in-Some-clause-texts c = sym (text_known c.args.self.now c.args.text.now c.in-Some.number c.in-Some.ensures.within c.in-Some.ensures.there)

pub returns-clause-texts : goal.returns-clause-texts
returns-clause-texts c =
    ap (λ keys. map (λ key. key.items) keys) c.in-Ok.ensures.keys
    ∙ texts_after (λ key. key.items) c.self.inside.keys.keys c.in_ok-text.text
    ∙ ap (λ texts. with_text texts c.in_ok-text.text.items) c.self.view_is
    ∙ ap (λ text. with_text c.args.self.now text) c.in_ok-text.ensures.items

pub returns-clause-number : goal.returns-clause-number
returns-clause-number c =
    c.in-Ok.ensures.index
    ∙ position_is (λ key. key.items) c.in_ok-text.text.items c.self.inside.keys.keys
    ∙ ap (λ texts. place_of_text texts c.in_ok-text.text.items) c.self.view_is
    ∙ ap (λ text. place_of_text c.args.self.now text) c.in_ok-text.ensures.items
