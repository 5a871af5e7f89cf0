use Rattle.spiel_tree.proofs.FirstSeen.{IsFound, position_found}
use Rattle.spiel_tree.proofs.texts.Texts.find.Goals as goal

found : (c : goal.After-get_index_of) → IsFound c.args.self.now c.args.text.now c.get_index_of.result
found c = position_found (λ key. key.items) c.args.text.now c.self.inside.keys.keys _ _ c.get_index_of.ensures.index c.self.view_is

pub returns-clause-there : goal.returns-clause-there
returns-clause-there c = (found c).there

pub returns-clause-number : goal.returns-clause-number
returns-clause-number c = (found c).number

pub returns-clause-none : goal.returns-clause-none
returns-clause-none c = (found c).none
