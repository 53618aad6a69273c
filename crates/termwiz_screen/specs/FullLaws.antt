-- What changes make of full screens, and what full repaints do when they are replayed, by any width
-- function that gives a single space one column.
use Rattle.std.specs.Prelude.{◌≡◌, ℕ, ◌+◌, ◌-◌, ◌*◌, ◌<◌, ◌≤◌, min, List, ◌++◌, length, set, take, drop, replicate}
use Rattle.termwiz_cell.specs.CellValue.{space}
use Rattle.termwiz_cell.specs.ChangeValue as change
use Rattle.termwiz_cell.specs.ChangeValue.{ChangeValue}
use Rattle.termwiz_cell.specs.declared.color.ColorAttribute.{ColorAttribute}
use Rattle.termwiz_cell.specs.declared.change.CursorShape.{CursorShape}
use Rattle.termwiz_cell.specs.declared.change.LineAttribute.{LineAttribute}
use Rattle.termwiz_cell.specs.declared.change.LineAttribute.TheVariants.{SingleWidthLine}
use Rattle.termwiz_screen.specs.FullScreen.{FullScreen, full_screen, full_step, full_replay, HasFullSize}
use Rattle.termwiz_screen.specs.Kept.{Kept}
use Rattle.termwiz_screen.specs.Printable.{IsPrintable}
use Rattle.termwiz_screen.specs.Repaint.{full_repaint}
use Rattle.termwiz_screen.specs.Screen.{Screen, row_at}
use Rattle.termwiz_screen.specs.Step.{step, replay, replay_kept}
use Rattle.termwiz_screen.specs.ScrollRegions.{region_up, region_down}
use Rattle.termwiz_screen.specs.Resized.{resized_screen, resized_kept}
use Rattle.termwiz_screen.specs.TextScrolls.{rows_scrolled}

-- the full screen after changes depends on the full screen before them alone
abbrev pub ChangesMakeFullScreens : Type 0
ChangesMakeFullScreens =
    (measure : List ℕ → ℕ) (changes : List ChangeValue) (s : Screen) (k : Kept) →
    full_screen (replay measure s changes) (replay_kept measure s k changes) ≡
    full_replay measure (full_screen s k) changes

-- what changes make of a full screen beside its screen: a title, a shape, a colour and the
-- attribute of the cursor's row are set; scrolls move attributes with their rows, and added rows
-- have none; clears leave them; a text that scrolls n rows away takes their attributes along, those
-- of the others go up with their rows, and the new rows at the bottom have none
pub record FullStepsAre (measure : List ℕ → ℕ) (f : FullScreen) : Type 0 where
  pub title :
      (title : List ℕ) → full_step measure f (change.Title title) ≡ record f { title = title }
  pub shape :
      (shape : CursorShape) →
      full_step measure f (change.CursorShape shape) ≡ record f { shape = shape }
  pub color :
      (color : ColorAttribute) →
      full_step measure f (change.CursorColor color) ≡ record f { color = color }
  pub line :
      (attribute : LineAttribute) →
      full_step measure f (change.LineAttribute attribute) ≡
      record f { lines = set f.lines f.screen.y attribute }
  pub up :
      (first size count : ℕ) →
      let c = change.ScrollRegionUp first size count in full_step measure f c ≡
      record f {
        screen = step measure f.screen c;
        lines = region_up SingleWidthLine f.lines first size count;
      }
  pub down :
      (first size count : ℕ) →
      let c = change.ScrollRegionDown first size count in full_step measure f c ≡
      record f {
        screen = step measure f.screen c;
        lines = region_down SingleWidthLine f.lines first size count;
      }
  pub cleared :
      (color : ColorAttribute) →
      let c = change.ClearScreen color in full_step measure f c ≡
      record f { screen = step measure f.screen c }
  pub cleared_line :
      (color : ColorAttribute) →
      let c = change.ClearToEndOfLine color in full_step measure f c ≡
      record f { screen = step measure f.screen c }
  pub cleared_below :
      (color : ColorAttribute) →
      let c = change.ClearToEndOfScreen color in full_step measure f c ≡
      record f { screen = step measure f.screen c }
  pub text :
      (text : List ℕ) → 0 < length f.lines →
      let c = change.Text text in let n = rows_scrolled measure f.screen text in
      full_step measure f c ≡
      record f {
        screen = step measure f.screen c;
        lines = drop n f.lines ++ replicate (min n (length f.lines)) SingleWidthLine;
      }

abbrev pub FullStepsAreSo : Type 0
FullStepsAreSo = (measure : List ℕ → ℕ) (f : FullScreen) → FullStepsAre measure f

-- a text that scrolls n rows away leaves the other rows above the cursor's as they were, n rows
-- higher
abbrev pub TextsScrollRows : Type 0
TextsScrollRows =
    (measure : List ℕ → ℕ) (s : Screen) (text : List ℕ) (j : ℕ) → s.y < s.height →
    length s.rows ≡ s.height → let n = rows_scrolled measure s text in j + n < s.y →
    row_at (step measure s (change.Text text)).rows j ≡ row_at s.rows (j + n)

-- another size leaves the title, the shape and the colour, and the attributes of the rows that stay
abbrev pub ResizedKeepsLines : Type 0
ResizedKeepsLines =
    (s : Screen) (k : Kept) (w h : ℕ) → let f = full_screen s k in
    full_screen (resized_screen s w h) (resized_kept k w h) ≡
    record f {
      screen = resized_screen s w h;
      lines = take h f.lines ++ replicate (h - length f.lines) SingleWidthLine;
    }

-- the repaint of a full screen that text can print, replayed on any full screen of that size, gives
-- the full screen
abbrev pub FullRepaintGivesScreen : Type 0
FullRepaintGivesScreen =
    (measure : List ℕ → ℕ) → measure space ≡ 1 → (t f : FullScreen) → IsPrintable measure t.screen →
    length t.lines ≡ t.screen.height → HasFullSize t.screen.width t.screen.height f →
    full_replay measure f (full_repaint t) ≡ t

-- the full repaint has at most two entries for each cell, three more for each row, and seven more
abbrev pub FullRepaintIsShort : Type 0
FullRepaintIsShort =
    (t : FullScreen) → 0 < t.screen.height → length t.lines ≡ t.screen.height →
    length (full_repaint t) ≤ 2 * (t.screen.width * t.screen.height) + 3 * t.screen.height + 7
