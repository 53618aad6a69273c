-- What a hint of a line's direction says.
use Rattle.std.specs.Prelude.{Bool, true, false}
use Rattle.termwiz_line.specs.declared.line.bidi.Direction.{Direction}
use Rattle.termwiz_line.specs.declared.line.bidi.Direction.TheVariants as direction
use Rattle.termwiz_line.specs.declared.line.bidi.ParagraphDirectionHint.{ParagraphDirectionHint}
use Rattle.termwiz_line.specs.declared.line.bidi.ParagraphDirectionHint.TheVariants.{LeftToRight, RightToLeft, AutoLeftToRight, AutoRightToLeft}

abbrev pub goes_left : Direction → Bool
goes_left direction.LeftToRight = false
goes_left direction.RightToLeft = true

abbrev pub is_right_to_left : ParagraphDirectionHint → Bool
is_right_to_left LeftToRight = false
is_right_to_left RightToLeft = true
is_right_to_left AutoLeftToRight = false
is_right_to_left AutoRightToLeft = true

abbrev pub is_auto : ParagraphDirectionHint → Bool
is_auto LeftToRight = false
is_auto RightToLeft = false
is_auto AutoLeftToRight = true
is_auto AutoRightToLeft = true
