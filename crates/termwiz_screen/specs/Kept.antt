-- What a surface keeps beside its screen.
use Rattle.std.specs.Prelude.{ℕ, true, false, Option, List}
use Rattle.termwiz_cell.specs.declared.color.ColorAttribute.{ColorAttribute}
use Rattle.termwiz_cell.specs.declared.change.CursorShape.{CursorShape}
use Rattle.termwiz_cell.specs.declared.change.LineAttribute.{LineAttribute}
use Rattle.termwiz_cell.specs.declared.change.LineAttribute.TheVariants.{DoubleHeightTopHalfLine, DoubleHeightBottomHalfLine, DoubleWidthLine, SingleWidthLine}
use Rattle.termwiz_line.specs.LineFlags.{LineFlags, with_sizes}

pub record Kept : Type 0 where
  -- how many cells are stored in each row
  pub lengths : List ℕ
  -- how each row is shown
  pub flags : List LineFlags
  pub title : List ℕ
  -- the cursor's shape, where one was set
  pub shape : Option CursorShape
  -- the cursor's colour
  pub color : ColorAttribute

-- a row's flags with this attribute
abbrev pub with_line_attribute : LineAttribute → LineFlags → LineFlags
with_line_attribute DoubleHeightTopHalfLine f = with_sizes true true false f
with_line_attribute DoubleHeightBottomHalfLine f = with_sizes true false true f
with_line_attribute DoubleWidthLine f = with_sizes true false false f
with_line_attribute SingleWidthLine f = with_sizes false false false f
