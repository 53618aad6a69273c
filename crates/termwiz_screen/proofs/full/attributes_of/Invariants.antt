use Rattle.std.proofs.Common.{◌≡◌, map, take}
use Rattle.termwiz_screen.specs.FullScreen.{line_attribute}
use Rattle.termwiz_screen.specs.Sides.{row_flags}
use Rattle.termwiz_screen.proofs.full.attributes_of.Given as goal

-- the first rows' attributes are listed
abbrev pub invariant-loop-i : goal.invariant-loop-i
invariant-loop-i l = l.lines.items ≡ map line_attribute (row_flags (take l.i l.rows.items))
