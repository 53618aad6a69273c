use Rattle.std.proofs.Common.{◌≡◌, map, take}
use Rattle.termwiz_screen.specs.ScreenValue.{cells_of}
use Rattle.termwiz_screen.specs.Sides.{row_flags}
use Rattle.termwiz_surface.proofs.surface.lines.lent_lines.Given as goal

-- the first lines are lent
abbrev pub invariant-loop-i : goal.invariant-loop-i
invariant-loop-i l = record {
  cells : map (λ line. line.now.cells) l.lines.items ≡ cells_of (take l.i l.rows.items);
  flags : map (λ line. line.now.flags) l.lines.items ≡ row_flags (take l.i l.rows.items);
}
