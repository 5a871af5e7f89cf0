-- Tic-tac-toe keeps the laws.
use Rattle.std.specs.Prelude.{◌≡◌, ℕ, zero, suc, ◌-◌, ◌*◌, ◌^◌, ◌<◌, ◌≤◌, pos, negsuc, false, ◌||◌, List, [], length, codes, nat_abs, flat_map, if◌then◌else◌, ◌==◌}
use Rattle.std.specs.List.{Contains}
use Rattle.std.proofs.Common.{refl, arith}
use Rattle.std.proofs.lemmas.Bool.{eqb-false, or_parts, cond_both}
use Rattle.std.proofs.lemmas.List.Kept.{IsStrictlyIncreasing-filter}
use Rattle.std.proofs.lemmas.List.Elements.{All-weaker, All-contains, All-from_recursion}
use Rattle.spiel_api.specs.Plays.{IsPlay}
use Rattle.spiel_api.specs.Laws.{IsLawful, IsPrinted, IsPrintable}
use Rattle.spiel_api.proofs.LawLemmas.{IsPrintable-append, IsPrintable-computed, IsPrintable-texts}
use Rattle.spiel_api.proofs.NodeLaws.{AreChoices}
use Rattle.spiel_api.proofs.TurnLaws.{in_turn, turns_lawful}
use Rattle.spiel_board.specs.TicTacToe.{cells, free_cells, has_line, is_over, mark, move_text, tic_tac_toe_turns, tic_tac_toe_rules, tic_tac_toe_info, tic_tac_toe_name, tic_tac_toe_pay}
use Rattle.spiel_board.specs.TicTacToePlays.{cells_rise, free_small, nine_cells, nine_moves, play_small}

-- a cell is free until the play is over
choices : (h : List ℕ) → IsPlay tic_tac_toe_rules h → is_over h ≡ false → AreChoices (free_cells h)
choices h play e = record {
  some =
      let not_full = eqb-false (length h) 9 (or_parts (has_line 0 h || has_line 1 h) (length h == 9) e).1 in
      omega (arith, nine_cells h play, not_full);
  rise = IsStrictlyIncreasing-filter _ cells cells_rise;
  small = All-weaker (λ a. a < 9) (λ a. a < 2 ^ 32 - 1) (λ a l. omega arith) (free_cells h) (free_small h);
}

printable_move : (a : ℕ) → a < 9 → IsPrintable 2 (move_text a)
printable_move a l = record {
  short = omega arith;
  ascii = All-from_recursion IsPrinted (move_text a) ((omega arith, omega arith), ((omega arith, omega arith), tt));
}

infos : (h : List ℕ) (p : ℕ) → IsPlay tic_tac_toe_rules h → IsPrintable 32768 (tic_tac_toe_info h p)
infos h p play =
    IsPrintable-append 5 (2 * length h) 32768 (codes "moves") (flat_map move_text h) (omega (arith, nine_moves h play)) (IsPrintable-computed 5 (codes "moves") refl refl)
    (IsPrintable-texts 2 move_text h (All-weaker (λ a. a < 9) (λ a. IsPrintable 2 (move_text a)) printable_move h (play_small h play)))

mark_printed : (p : ℕ) → IsPrinted (mark p)
mark_printed zero = (omega arith, omega arith)
mark_printed (suc p) = (omega arith, omega arith)

names : (h : List ℕ) (p a : ℕ) → Contains (free_cells h) a → IsPrintable 128 (tic_tac_toe_name h p a)
names h p a c =
    let cell : a < 9 = All-contains (λ a. a < 9) (free_cells h) a (free_small h) c in
    record {
      short = omega arith;
      ascii = All-from_recursion IsPrinted (tic_tac_toe_name h p a)
          (mark_printed p, ((omega arith, omega arith), ((omega arith, omega arith), ((omega arith, omega arith), ((omega arith, omega arith), ((omega arith, omega arith), tt))))));
    }

-- nobody gets more than 1
capped : (h : List ℕ) (p : ℕ) → nat_abs (tic_tac_toe_pay h p) ≤ 1
capped h p = cond_both (has_line p h) (pos 1) (if has_line (1 - p) h then negsuc 0 else pos 0) (λ pay. nat_abs pay ≤ 1) (λ e. omega arith)
    (λ e. cond_both (has_line (1 - p) h) (negsuc 0) (pos 0) (λ pay. nat_abs pay ≤ 1) (λ f. omega arith) (λ f. omega arith))

pub tic_tac_toe_lawful : IsLawful tic_tac_toe_rules
tic_tac_toe_lawful = turns_lawful tic_tac_toe_turns (record {
  size = refl;
  short = λ h play. omega (arith, nine_moves h play);
  turns = λ h play. in_turn 2 (is_over h) h (free_cells h) [] (omega arith) (choices h play);
  infos = λ h p play turn. infos h p play;
  names = λ h p a play c. names h p a c;
  capped = λ h p play e l. capped h p;
})
