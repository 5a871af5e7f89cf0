use Rattle.spiel_tree.proofs.pasts.+same_past.Given as goal

-- a choice stands before
abbrev pub decreases-same_past : goal.decreases-same_past
decreases-same_past l = l.first
