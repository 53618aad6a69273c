-- What a change makes of a screen, and of what is kept beside it.
use Rattle.std.specs.Prelude.{ℕ, ◌+◌, Bool, true, nat_le, Some, List, [], ◌∷◌, fold, slice_index_or, set, replicate}
use Rattle.std.specs.List.{list_all}
use Rattle.termwiz_cell.specs.Attributes.{with_background}
use Rattle.termwiz_cell.specs.AttributeChangeValue.{with_attribute}
use Rattle.termwiz_cell.specs.CellValue.{blank}
use Rattle.termwiz_cell.specs.ChangeValue as change
use Rattle.termwiz_cell.specs.ChangeValue.{ChangeValue}
use Rattle.termwiz_line.specs.LineFlags.{no_flags}
use Rattle.termwiz_screen.specs.Screen.{Screen}
use Rattle.termwiz_screen.specs.Kept.{Kept, with_line_attribute}
use Rattle.termwiz_screen.specs.Print.{print, print_kept}
use Rattle.termwiz_screen.specs.Clear.{clear_eol, clear_eos, clear_screen, eol_lengths, eos_lengths, screen_lengths}
use Rattle.termwiz_screen.specs.Place.{placed}
use Rattle.termwiz_screen.specs.ScrollRegions.{region_up, region_down}

-- the screen after a change, by a width function
abbrev pub step : (List ℕ → ℕ) → Screen → ChangeValue → Screen
step measure s (change.Attribute value) = record s { pen = with_attribute s.pen value }
step measure s (change.AllAttributes attrs) = record s { pen = attrs }
step measure s (change.Text text) = print measure s text
step measure s (change.ClearScreen color) = clear_screen s (with_background color)
step measure s (change.ClearToEndOfLine color) = clear_eol s (with_background color)
step measure s (change.ClearToEndOfScreen color) = clear_eos s (with_background color)
step measure s (change.CursorPosition x y) = placed s x y
step measure s (change.CursorVisibility visibility) = record s { visibility = visibility }
step measure s (change.ScrollRegionUp first size count) =
    record s { rows = region_up (replicate s.width blank) s.rows first size count }
step measure s (change.ScrollRegionDown first size count) =
    record s { rows = region_down (replicate s.width blank) s.rows first size count }
-- a title, a line's attribute, and the cursor's shape and colour are no part of the screen
step measure s _ = s

-- what is kept after a change of the screen s
abbrev pub step_kept : (List ℕ → ℕ) → Screen → Kept → ChangeValue → Kept
step_kept measure s k (change.Text text) = print_kept measure s text k
step_kept measure s k (change.ClearScreen color) =
    record k { lengths = screen_lengths s (with_background color) k.lengths }
step_kept measure s k (change.ClearToEndOfLine color) =
    record k { lengths = eol_lengths s (with_background color) k.lengths }
step_kept measure s k (change.ClearToEndOfScreen color) =
    record k { lengths = eos_lengths s (with_background color) k.lengths }
step_kept measure s k (change.ScrollRegionUp first size count) =
    record k {
      lengths = region_up s.width k.lengths first size count;
      flags = region_up no_flags k.flags first size count;
    }
step_kept measure s k (change.ScrollRegionDown first size count) =
    record k {
      lengths = region_down s.width k.lengths first size count;
      flags = region_down no_flags k.flags first size count;
    }
step_kept measure s k (change.CursorColor color) = record k { color = color }
step_kept measure s k (change.CursorShape shape) = record k { shape = Some shape }
step_kept measure s k (change.Title title) = record k { title = title }
step_kept measure s k (change.LineAttribute attribute) =
    record k {
      flags = set k.flags s.y
          (with_line_attribute attribute (slice_index_or k.flags s.y no_flags));
    }
step_kept measure s k _ = k

-- the steps in order
abbrev pub replay : (List ℕ → ℕ) → Screen → List ChangeValue → Screen
replay measure s changes = fold (step measure) s changes

-- what is kept after them
abbrev pub replay_kept : (List ℕ → ℕ) → Screen → Kept → List ChangeValue → Kept
replay_kept measure s k [] = k
replay_kept measure s k (c ∷ cs) =
    replay_kept measure (step measure s c) (step_kept measure s k c) cs

-- a scroll's region lies on a screen of h rows
abbrev pub region_fits : ℕ → ChangeValue → Bool
region_fits h (change.ScrollRegionUp first size count) = nat_le (first + size) h
region_fits h (change.ScrollRegionDown first size count) = nat_le (first + size) h
region_fits h _ = true

abbrev pub regions_fit : ℕ → List ChangeValue → Bool
regions_fit h changes = list_all (region_fits h) changes
