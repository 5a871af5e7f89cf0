-- What stands at a history, as the code holds it.
use Rattle.spiel_tree.specs.Rows.{Node}
use Rattle.spiel_tree.specs.declared.node.Shown.{Shown}

abbrev pub node_shown : Shown → Node
node_shown shown = record { place = shown.place; info = shown.info; numbers = shown.numbers; weights = shown.weights; pays = shown.pays }
