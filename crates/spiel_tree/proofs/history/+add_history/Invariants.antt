use Rattle.spiel_tree.proofs.history.+add_history.Given as goal

-- a parent stands before
abbrev pub decreases-add_history : goal.decreases-add_history
decreases-add_history l = l.row
