-- A screen in another size has it.
use Rattle.std.proofs.Common.{◌≡◌, ℕ, ◌-◌, ◌<◌, min, inl, inr, List, [], ◌++◌, length, map, take, replicate, refl, sym, ap, subst, ◌∙◌, arith, length-append}
use Rattle.std.proofs.lemmas.Bool.{cases_lt}
use Rattle.std.proofs.lemmas.List.{length-map, length-replicate, length-take, get_or-map, get_or-replicate, get_or_append_left, get_or-append_right}
use Rattle.termwiz_cell.specs.CellValue.{CellValue, blank}
use Rattle.termwiz_line.specs.Row.{row_of}
use Rattle.termwiz_screen.specs.Printable.{HasSize}
use Rattle.termwiz_line.specs.LineFlags.{no_flags}
use Rattle.termwiz_screen.specs.FullScreen.{HasFullSize, line_attribute}
use Rattle.termwiz_surface.specs.Surface.{SurfaceValue, screen_of, full_of}
use Rattle.termwiz_screen.specs.Kept.{Kept}
use Rattle.termwiz_surface.specs.Resizing.{HasResized}
use Rattle.termwiz_screen.specs.Resized.{resized_screen}
use Rattle.termwiz_screen.specs.Screen.{Screen, row_at}
use Rattle.termwiz_line.proofs.RowOf.{length-row_of}

module _ (s : Screen) (w h : ℕ) where
  abbrev above : List (List CellValue)
  above = map (row_of w) (take h s.rows)

  abbrev below : List (List CellValue)
  below = replicate (h - length s.rows) (replicate w blank)

  above_count : length above ≡ min h (length s.rows)
  above_count = length-map (take h s.rows) (row_of w) ∙ length-take h s.rows

  row_length : (j : ℕ) → j < h → length (row_at (above ++ below) j) ≡ w
  row_length j l = elim (cases_lt j (length above)) [
    | inl a ↦
        let inside : j < length (take h s.rows) = omega (arith, length-map (take h s.rows) (row_of w)) in
        ap length (get_or_append_left above below [] j a ∙ get_or-map (row_of w) (take h s.rows) j [] [] inside) ∙ length-row_of w (row_at (take h s.rows) j)
    | inr b ↦
        let left : j - length above < h - length s.rows = omega (arith, above_count) in
        ap length (get_or-append_right above below (length above) j [] refl b ∙ get_or-replicate (h - length s.rows) (j - length above) (replicate w blank) [] left) ∙ length-replicate w blank
  ]

  pub resized_size : HasSize w h (resized_screen s w h)
  resized_size = record {
    width = refl;
    height = refl;
    full = omega (arith, above_count, length-append above below, length-replicate (h - length s.rows) (replicate w blank));
    row_length = row_length;
  }

-- a surface in another size has as many sides as rows
pub full_size-resized : {W : Type 0} (old new : SurfaceValue W) (w h : ℕ) → HasResized old w h new → HasFullSize w h (full_of new)
full_size-resized old new w h r = record {
  screen = subst (HasSize w h) (sym r.screen_is) (resized_size (screen_of old) w h);
  lines = length-map new.flags line_attribute ∙ ap (λ (k : Kept). length k.flags) r.kept_is ∙ omega (arith, length-append (take h old.flags) (replicate (h - length old.flags) no_flags), length-take h old.flags, length-replicate (h - length old.flags) no_flags);
}
