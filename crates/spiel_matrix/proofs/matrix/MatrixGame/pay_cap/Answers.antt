use Rattle.std.proofs.Common.{◌≤◌, ◌^◌, arith, ap, ◌∙◌}
use Rattle.std.specs.Prelude.{pos}
use Rattle.std.proofs.lemmas.Int.{ints, to_z_pos}
use mir.Syntax.{w64}
use Rattle.spiel_matrix.specs.MatrixLaws.{matrix_lawful}
use Rattle.spiel_matrix.specs.declared.matrix.Matrix.{Matrix}
use Rattle.spiel_matrix.proofs.matrix.MatrixGame.pay_cap.Goals as goal

-- the cap is small
small : (game : Matrix) → game.cap ≤ 2 ^ 62
small game = omega (arith, game.cap_is, (matrix_lawful game.parts game.sound game.unit_low).limits.cap_high)

pub overflow_cast-result : goal.overflow_cast-result
overflow_cast-result c = omega (arith, ints, small c.args.self.now)

pub returns : goal.returns
returns c = to_z_pos w64 c.args.self.now.cap (omega (arith, small c.args.self.now)) ∙ ap pos c.args.self.now.cap_is
