use Rattle.std.proofs.Common.{◌≡◌, map, take}
use Rattle.termwiz_screen.specs.ScreenValue.{cells_of}
use Rattle.termwiz_surface.proofs.surface.lines.lent_cells.Given as goal

-- the cells of the first lines are lent
abbrev pub invariant-loop-i : goal.invariant-loop-i
invariant-loop-i l = map (λ cells. cells.now) l.lent.items ≡ cells_of (take l.i l.rows.items)
