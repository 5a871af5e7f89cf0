use Rattle.spiel_goof.proofs.Points.{past_last, rising, falling}
use Rattle.spiel_goof.proofs.goofspiel.Goofspiel.stage_at.Goals as goal

pub returns-then-turn-self : goal.returns-then-turn-self
returns-then-turn-self c = past_last c.args.self.now.order c.args.self.now.cards c.args.turn c.if-turn-self.true

pub returns-in-Ascending : goal.returns-in-Ascending
returns-in-Ascending c = rising c.args.self.now.order c.args.self.now.cards c.args.turn c.in-Ascending.is c.if-turn-self.false

pub returns-in-Descending : goal.returns-in-Descending
returns-in-Descending c = falling c.args.self.now.order c.args.self.now.cards c.args.turn c.in-Descending.is c.if-turn-self.false
