use Rattle.std.proofs.Common.{◌≡◌, ◌++◌, map, take, drop}
use Rattle.termwiz_screen.specs.Resized.{in_width}
use Rattle.termwiz_screen.proofs.rows.resizing.cut_rows.Given as goal

abbrev pub invariant-loop-i : goal.invariant-loop-i
invariant-loop-i l = l.rows ≡ map (in_width l.width) (take l.i l.fn.rows) ++ drop l.i l.fn.rows
