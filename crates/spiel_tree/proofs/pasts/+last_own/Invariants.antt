use Rattle.spiel_tree.proofs.pasts.+last_own.Given as goal

-- a parent stands before
abbrev pub decreases-last_own : goal.decreases-last_own
decreases-last_own l = l.row
