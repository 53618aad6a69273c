use Rattle.std.proofs.Common.{◌≡◌, map, take}
use Rattle.termwiz_storage.specs.Halves.{resized}
use Rattle.termwiz_screen.specs.ScreenValue.{cells_of, numberless}
use Rattle.termwiz_screen.proofs.rows.resized_lines.Given as goal

abbrev pub invariant-loop-i : goal.invariant-loop-i
invariant-loop-i l = l.lines.items ≡ map (λ r. numberless (resized l.width r)) (cells_of (take l.i l.rows.items))
