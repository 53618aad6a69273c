-- A full screen: a screen, and what is kept beside it that a viewer can see: the title, the
-- cursor's shape and colour, and how each row is shown.
use Rattle.std.specs.Prelude.{◌≡◌, ℕ, ◌&&◌, not, if◌then◌else◌, Option, Some, None, List, [], map, length, fold}
use Rattle.termwiz_cell.specs.ChangeValue.{ChangeValue}
use Rattle.termwiz_cell.specs.declared.color.ColorAttribute.{ColorAttribute}
use Rattle.termwiz_cell.specs.declared.change.CursorShape.{CursorShape}
use Rattle.termwiz_cell.specs.declared.change.CursorShape.TheVariants.{Default}
use Rattle.termwiz_cell.specs.declared.change.LineAttribute.{LineAttribute}
use Rattle.termwiz_cell.specs.declared.change.LineAttribute.TheVariants.{DoubleHeightTopHalfLine, DoubleHeightBottomHalfLine, DoubleWidthLine, SingleWidthLine}
use Rattle.termwiz_line.specs.LineFlags.{LineFlags, no_flags}
use Rattle.termwiz_screen.specs.Kept.{Kept, with_line_attribute}
use Rattle.termwiz_screen.specs.Printable.{HasSize}
use Rattle.termwiz_screen.specs.Screen.{Screen}
use Rattle.termwiz_screen.specs.Step.{step, step_kept}

pub record FullScreen : Type 0 where
  pub screen : Screen
  pub title : List ℕ
  pub shape : CursorShape
  pub color : ColorAttribute
  -- how each row is shown
  pub lines : List LineAttribute

-- how a row with these flags is shown
abbrev pub line_attribute : LineFlags → LineAttribute
line_attribute f =
    if f.double_width && f.double_height_top && not f.double_height_bottom
    then DoubleHeightTopHalfLine
    else if f.double_width &&
    not f.double_height_top &&
    f.double_height_bottom then DoubleHeightBottomHalfLine
    else if f.double_width &&
    not f.double_height_top &&
    not f.double_height_bottom then DoubleWidthLine
    else SingleWidthLine

-- a shape that was never set is the default one
abbrev pub shape_of : Option CursorShape → CursorShape
shape_of None = Default
shape_of (Some shape) = shape

-- a screen with what is kept beside it
abbrev pub full_screen : Screen → Kept → FullScreen
full_screen s k =
    record {
      screen = s;
      title = k.title;
      shape = shape_of k.shape;
      color = k.color;
      lines = map line_attribute k.flags;
    }

-- something that is kept beside the screen of f, and shows what f shows
abbrev pub kept_in : FullScreen → Kept
kept_in f =
    record {
      lengths = [];
      flags = map (λ a. with_line_attribute a no_flags) f.lines;
      title = f.title;
      shape = Some f.shape;
      color = f.color;
    }

-- the full screen after a change
abbrev pub full_step : (List ℕ → ℕ) → FullScreen → ChangeValue → FullScreen
full_step measure f c =
    full_screen (step measure f.screen c) (step_kept measure f.screen (kept_in f) c)

-- the steps in order
abbrev pub full_replay : (List ℕ → ℕ) → FullScreen → List ChangeValue → FullScreen
full_replay measure f changes = fold (full_step measure) f changes

-- a full screen of w columns and h rows, each of which has an attribute
pub record HasFullSize (w h : ℕ) (f : FullScreen) : Type 0 where
  pub screen : HasSize w h f.screen
  pub lines : length f.lines ≡ h
