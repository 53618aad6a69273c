pub mod Screen
pub mod Rows
pub mod Place
pub mod Print
pub mod Clear
pub mod Step
pub mod Measured
pub mod Runs
pub mod Repaint
pub mod Printable
pub mod Drawing
pub mod RepaintLaws
pub mod TextScrolls
pub mod FullLaws
pub mod Chars
pub mod ShownChars
pub mod ScreenValue
pub mod Padding
pub mod Stream
pub mod Log
pub mod Kept
pub mod FullScreen
pub mod Picture
pub mod FullScreenValue
pub mod Sides
pub mod ScrollRegions
pub mod Resized
pub mod Prints
pub mod Diff
pub mod DiffRegions
pub mod DiffLists
pub mod DiffLaws
pub mod Fewest
pub mod Ends
pub mod Walked
pub mod RegionValue
pub mod SequenceLaws
-- what the contracts of this crate use, by its name alone
pub use Rattle.std.specs.Bool.{beq}
pub use Rattle.std.specs.Cmp.{decided, on_equiv, on_per, partial_equiv_from_equiv}
pub use Rattle.std.specs.Cmp.Lexicographic.{pointwise}
pub use Rattle.std.specs.List.{list_all}
pub use Rattle.std.specs.Option.{IfSome, IsNone, option_copied}
pub use Rattle.std.specs.Prelude.{IfOk, IsOk, IsTrue, List, OnErr, OnOk, drop, false, fold, length, map, min, nat_lt, not, replicate, slice_set, string_bytes, take, true, ℕ}
pub use Rattle.std.specs.Str.{chars}
pub use Rattle.std.specs.VecDeque.{deque_capacity, deque_len}
pub use Rattle.termwiz_cell.specs.Attributes.{attributes_eq, color_eq, default_attributes, has_only_background, needs_box, with_background}
pub use Rattle.termwiz_cell.specs.CellValue.{CellValue, blank, blank_of, cell_eq, columns, is_wide, measured, plain_cell}
pub use Rattle.termwiz_cell.specs.ChangeValue.{ChangeValue, change_value, is_text, visibility_eq}
pub use Rattle.termwiz_cell.specs.Measure.{measure}
pub use Rattle.termwiz_line.specs.GrowingText.{ends_printable}
pub use Rattle.termwiz_line.specs.LastChange.{last_is}
pub use Rattle.termwiz_line.specs.LineFlags.{no_flags}
pub use Rattle.termwiz_line.specs.PennedValue.{penned_value}
pub use Rattle.termwiz_line.specs.Row.{HasHalves, is_hidden, row_of, visible_upto}
pub use Rattle.termwiz_line.specs.Writing.{behind}
pub use Rattle.termwiz_screen.specs.Chars.{row_chars, screen_chars}
pub use Rattle.termwiz_screen.specs.Diff.{PrintedOut, band, cut, diff, fitting, in_row, need, print_out, row_need, shows}
pub use Rattle.termwiz_screen.specs.DiffLaws.{CutIsInside, DiffGivesBand, DiffGivesRegion, DiffGivesRows, DrawingRestores, LinesArePrintable, NeedGivesRegion, NeedGivesRows, NeedIs, PrintsAreDiff, RegionIsDiff}
pub use Rattle.termwiz_screen.specs.Drawing.{AreApart, IsBeforeRow, IsWrittenUpto, clears}
pub use Rattle.termwiz_screen.specs.Ends.{end_value, ended_at}
pub use Rattle.termwiz_screen.specs.Fewest.{FewestNarrowPrints, FewestPrints}
pub use Rattle.termwiz_screen.specs.FullLaws.{ChangesMakeFullScreens, FullRepaintGivesScreen, FullRepaintIsShort, FullStepsAreSo, ResizedKeepsLines, TextsScrollRows}
pub use Rattle.termwiz_screen.specs.FullScreen.{line_attribute, shape_of}
pub use Rattle.termwiz_screen.specs.FullScreenValue.{full_value}
pub use Rattle.termwiz_screen.specs.Kept.{with_line_attribute}
pub use Rattle.termwiz_screen.specs.Log.{appended, delta_limit, due, flushed, is_known, next_number, passed, reaches, restarted}
pub use Rattle.termwiz_screen.specs.Measured.{IsMeasured}
pub use Rattle.termwiz_screen.specs.Padding.{ArePaddable, IsPaddable}
pub use Rattle.termwiz_screen.specs.Place.{cursor_at, moved, place_column, place_row}
pub use Rattle.termwiz_screen.specs.Print.{piece_of, printed_cell, scrolled}
pub use Rattle.termwiz_screen.specs.RegionValue.{region_value}
pub use Rattle.termwiz_screen.specs.RepaintLaws.{LineEntriesGiveRow, RepaintGivesScreen, RepaintIsShort}
pub use Rattle.termwiz_screen.specs.Resized.{HaveGrown, Undoes, can_undo, cuts_in_place, in_width, is_vector_of, resized_flags, resized_stored, undone, widened_line}
pub use Rattle.termwiz_screen.specs.Rows.{AreFilled, ArePartly, ArePartlyReset, IsPartly, painted_in}
pub use Rattle.termwiz_screen.specs.Runs.{AreNarrow, AreWide, IsMeasuredPiece, IsNarrowRun, IsWideRun}
pub use Rattle.termwiz_screen.specs.Screen.{row_at}
pub use Rattle.termwiz_screen.specs.ScreenValue.{blank_line, cells_of, numberless, rows_eq, screen_eq, screen_eq-Decides, screen_value}
pub use Rattle.termwiz_screen.specs.ScrollRegions.{region_down, region_reversed, region_turned, region_up}
pub use Rattle.termwiz_screen.specs.SequenceLaws.{MovesLeadThere, TextsMoveAlike}
pub use Rattle.termwiz_screen.specs.Sides.{AreVectors, KeepSides, KeepsSide, row_flags}
pub use Rattle.termwiz_screen.specs.Step.{region_fits, regions_fit}
pub use Rattle.termwiz_screen.specs.Walked.{AreHalved, EndsBlank, IsPrintedTo}
pub use Rattle.termwiz_storage.specs.CellRef.{ref_cell, ref_width}
pub use Rattle.termwiz_storage.specs.CellsLeft.{IsOfCell, cells_left}
pub use Rattle.termwiz_storage.specs.Halves.{resized}
pub use Rattle.termwiz_storage.specs.Letters.{set_letters}
pub use Rattle.termwiz_storage.specs.Stored.{IsPruned, fill, hides, set_run, stored, visible}
pub use Rattle.termwiz_storage.specs.VisibleCell.{at_column}
pub use Rattle.termwiz_text.specs.Letter.{AreLetters}
pub use Rattle.termwiz_text.specs.Plain.{is_plain}
pub use Rattle.unicode_segmentation.specs.Grapheme.{graphemes}
