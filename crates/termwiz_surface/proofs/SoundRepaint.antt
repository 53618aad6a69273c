-- The screen of a sound surface: its size, that text can print it, and so that its repaint gives it.
use Rattle.std.proofs.Common.{◌≡◌, ℕ, ◌<◌, ◌≤◌, Bool, true, false, List, [], length, arith, sym, ap, ◌∙◌, subst}
use Rattle.std.proofs.lemmas.List.{get_or-map, length-map}
use Rattle.termwiz_cell.specs.declared.change.CursorShape.TheVariants.{Default}
use Rattle.termwiz_cell.specs.declared.color.ColorAttribute.TheVariants as color
use Rattle.termwiz_cell.specs.CellValue.{CellValue, space}
use Rattle.termwiz_line.specs.Row.{row_of}
use Rattle.termwiz_screen.specs.Screen.{Screen, row_at}
use Rattle.termwiz_screen.specs.Step.{replay, regions_fit}
use Rattle.termwiz_screen.specs.Repaint.{repaint_in, full_repaint}
use Rattle.termwiz_screen.specs.FullScreen.{FullScreen, line_attribute, full_screen, full_replay, HasFullSize}
use Rattle.termwiz_surface.specs.Surface.{SurfaceValue, screen_of, kept_of, full_of, IsSound}
use Rattle.termwiz_screen.specs.Kept.{Kept}
use Rattle.termwiz_screen.specs.Stream.{most_entries}
use Rattle.termwiz_screen.specs.Measured.{IsMeasured, IsStored}
use Rattle.termwiz_screen.specs.Printable.{IsPrintableRow, IsPrintable, HasSize}
use Rattle.termwiz_line.proofs.RowOf.{row_of_row, row_shows, length-row_of}
use Rattle.termwiz_screen.proofs.Repaints.Full.{full_repaint_gives}
use Rattle.termwiz_screen.proofs.FullScreens.{screen-replayed}
use Rattle.termwiz_screen.proofs.Repaints.Length.{repaint_short, full_repaint_short}
use Rattle.termwiz_screen.proofs.Repaints.Regions.{repaint_fits, full_repaint_fits}
use Rattle.termwiz_screen.proofs.Repaints.Screen.{repaint_gives}

-- the row of a form that is stored
pub stored_is_printable : (f : List ℕ → ℕ) (w : ℕ) (cells : List CellValue) → IsStored f w cells → IsPrintableRow f w (row_of w cells)
stored_is_printable f w cells z = record { row = row_of_row w cells; measured = λ k l v. subst (IsMeasured f) (sym (row_shows w cells k l v)) (z.measured k) }

module _ {W : Type 0} (f : List ℕ → ℕ) (v : SurfaceValue W) (z : IsSound f v) where
  row_is : (j : ℕ) → j < v.height → row_at (screen_of v).rows j ≡ row_of v.width (row_at v.lines j)
  row_is j l = get_or-map (row_of v.width) v.lines j [] [] (omega (arith, z.full))

  pub sound_has_size : HasSize v.width v.height (screen_of v)
  sound_has_size = record {
    width = λ i. v.width;
    height = λ i. v.height;
    full = length-map v.lines (row_of v.width) ∙ z.full;
    row_length = λ j l. ap length (row_is j l) ∙ length-row_of v.width (row_at v.lines j);
  }

  pub sound_is_printable : IsPrintable f (screen_of v)
  sound_is_printable = record {
    some_column = z.some_column;
    full = sound_has_size.full;
    rows_so = λ j l. subst (IsPrintableRow f v.width) (sym (row_is j l)) (stored_is_printable f v.width (row_at v.lines j) (z.stored_so j l));
    column = z.column;
    row = z.row;
  }

  attributes-full : length (full_of v).lines ≡ v.height
  attributes-full = length-map v.flags line_attribute ∙ z.sides

  pub sound_has_full_size : HasFullSize v.width v.height (full_of v)
  sound_has_full_size = record { screen = sound_has_size; lines = attributes-full }

  pub sound_full_repaint : f space ≡ 1 → (g : FullScreen) → HasFullSize v.width v.height g → full_replay f g (full_repaint (full_of v)) ≡ full_of v
  sound_full_repaint one g size = full_repaint_gives f one (full_of v) g sound_is_printable attributes-full size

  -- a full repaint gives the screen too
  pub sound_repaint : f space ≡ 1 → (full : Bool) (s : Screen) → HasSize v.width v.height s → replay f s (repaint_in full (screen_of v) (kept_of v)) ≡ screen_of v
  sound_repaint one true s size =
      let g : FullScreen = record { screen = s; title = []; shape = Default; color = color.Default; lines = (full_of v).lines } in
      sym (screen-replayed f (full_repaint (full_of v)) g) ∙ ap (λ (h : FullScreen). h.screen) (sound_full_repaint one g (record { screen = size; lines = attributes-full }))
  sound_repaint one false s size = repaint_gives f one (screen_of v) s v.title v.shape sound_is_printable size

  pub sound_short : (full : Bool) → length (repaint_in full (screen_of v) (kept_of v)) ≤ most_entries full v.width v.height
  sound_short true = full_repaint_short (full_of v) z.some_row attributes-full
  sound_short false = repaint_short (screen_of v) v.title v.shape z.some_row

-- no region in a repaint goes past the last row
pub repaint_in-fits : (h : ℕ) (full : Bool) (s : Screen) (k : Kept) → regions_fit h (repaint_in full s k) ≡ true
repaint_in-fits h true s k = full_repaint_fits h (full_screen s k)
repaint_in-fits h false s k = repaint_fits h s k.title k.shape
