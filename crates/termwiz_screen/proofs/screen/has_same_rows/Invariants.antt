use Rattle.std.proofs.Common.{◌≡◌, drop}
use Rattle.termwiz_screen.specs.ScreenValue.{cells_of, rows_eq}
use Rattle.termwiz_screen.proofs.screen.has_same_rows.Given as goal

-- the rows that are left decide
abbrev pub invariant-loop-i : goal.invariant-loop-i
invariant-loop-i l = rows_eq (cells_of (drop l.i l.a)) (cells_of (drop l.i l.b)) ≡ rows_eq (cells_of l.a) (cells_of l.b)
