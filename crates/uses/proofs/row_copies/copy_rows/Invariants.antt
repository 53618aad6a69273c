use Rattle.std.proofs.Common.{◌≡◌, take}
use Rattle.termwiz_surface.specs.{cells_of}
use Rattle.uses.proofs.row_copies.copy_rows.Given as goal

-- the rows before this one are copied
abbrev pub invariant-loop-row : goal.invariant-loop-row
invariant-loop-row g l = cells_of l.copies.items ≡ take l.row l.surface.lines
