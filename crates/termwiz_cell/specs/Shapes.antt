-- The shapes of a cursor and the sizes of a line: their numbers, and which shapes blink.
use Rattle.std.specs.Prelude.{ℕ, Bool, true, false, ◌==◌, if◌then◌else◌}
use Rattle.termwiz_cell.specs.declared.change.CursorShape.{CursorShape}
use Rattle.termwiz_cell.specs.declared.change.CursorShape.TheVariants.{Default, BlinkingBlock, SteadyBlock, BlinkingUnderline, SteadyUnderline, BlinkingBar, SteadyBar}
use Rattle.termwiz_cell.specs.declared.change.LineAttribute.{LineAttribute}
use Rattle.termwiz_cell.specs.declared.change.LineAttribute.TheVariants.{DoubleHeightTopHalfLine, DoubleHeightBottomHalfLine, DoubleWidthLine, SingleWidthLine}

-- a shape that blinks
abbrev pub is_blinking_shape : CursorShape → Bool
is_blinking_shape BlinkingBlock = true
is_blinking_shape BlinkingUnderline = true
is_blinking_shape BlinkingBar = true
is_blinking_shape _ = false

abbrev pub shape_number : CursorShape → ℕ
shape_number Default = 0
shape_number BlinkingBlock = 1
shape_number SteadyBlock = 2
shape_number BlinkingUnderline = 3
shape_number SteadyUnderline = 4
shape_number BlinkingBar = 5
shape_number SteadyBar = 6

abbrev pub shape_at : ℕ → CursorShape
shape_at n =
    if n == 0 then Default
    else if n == 1 then BlinkingBlock
    else if n == 2 then SteadyBlock
    else if n == 3 then BlinkingUnderline
    else if n == 4 then SteadyUnderline
    else if n == 5 then BlinkingBar
    else SteadyBar

abbrev pub line_number : LineAttribute → ℕ
line_number DoubleHeightTopHalfLine = 0
line_number DoubleHeightBottomHalfLine = 1
line_number DoubleWidthLine = 2
line_number SingleWidthLine = 3

abbrev pub line_at : ℕ → LineAttribute
line_at n =
    if n == 0 then DoubleHeightTopHalfLine
    else if n == 1 then DoubleHeightBottomHalfLine
    else if n == 2 then DoubleWidthLine
    else SingleWidthLine
