pub mod Touching
pub mod Surface
pub mod RowNumbers
pub mod Measuring
pub mod Printing
pub mod Adding
pub mod Unlogged
pub mod ChangeLists
pub mod Scrollback
pub mod ScrolledOff
pub mod Resizing
pub mod Following
pub mod Copies
pub mod History
pub mod Preserving
pub mod Answer
pub mod Asking
pub mod Diffs
pub mod Carried
pub mod Accepting
pub mod Showing
pub mod FollowingLaws
pub mod HistoryLaws
pub mod Schedule
pub mod ScheduleLaws
pub mod ManySchedule
pub mod ManySteps
pub use Rattle.termwiz_screen.specs.Screen
pub use Rattle.termwiz_screen.specs.Place
pub use Rattle.termwiz_screen.specs.Print
pub use Rattle.termwiz_screen.specs.Clear
pub use Rattle.termwiz_screen.specs.Step
pub use Rattle.termwiz_screen.specs.Measured
pub use Rattle.termwiz_screen.specs.Repaint
pub use Rattle.termwiz_screen.specs.Printable
pub use Rattle.termwiz_screen.specs.RepaintLaws
pub use Rattle.termwiz_screen.specs.FullLaws
pub use Rattle.termwiz_screen.specs.Chars
pub use Rattle.termwiz_screen.specs.ShownChars
pub use Rattle.termwiz_screen.specs.ScreenValue
pub use Rattle.termwiz_screen.specs.Stream
pub use Rattle.termwiz_screen.specs.Log
pub use Rattle.termwiz_screen.specs.Kept
pub use Rattle.termwiz_screen.specs.FullScreen
pub use Rattle.termwiz_screen.specs.Picture
pub use Rattle.termwiz_screen.specs.FullScreenValue
pub use Rattle.termwiz_screen.specs.ScrollRegions
pub use Rattle.termwiz_screen.specs.Resized
pub use Rattle.termwiz_screen.specs.Prints
pub use Rattle.termwiz_screen.specs.Diff
pub use Rattle.termwiz_screen.specs.DiffRegions
pub use Rattle.termwiz_screen.specs.DiffLists
pub use Rattle.termwiz_screen.specs.DiffLaws
pub use Rattle.termwiz_screen.specs.Fewest
pub use Rattle.termwiz_screen.specs.SequenceLaws
pub use Rattle.termwiz_cell.specs.ChangeValue
-- what callers cite, by its name alone: surfaces, viewers and answers,
pub use Rattle.termwiz_surface.specs.Surface.{SurfaceValue, blank_surface, blank_surface_from, screen_of, kept_of, full_of, IsSound, IsSurfaceSize, SameFrame, number_at, shown_at, RowStays, MarksRows}
pub use Rattle.termwiz_surface.specs.RowNumbers.{HasStayed, NumbersRows, NumbersTouched}
pub use Rattle.termwiz_surface.specs.Touching.{touched, touches, touched_by, one_touches, piece_touches, eol_touches, scroll_touches, wrap_touches, down_touches, cursor_row, every_row, no_row}
pub use Rattle.termwiz_surface.specs.Adding.{Adds, Makes, with_log, marking}
pub use Rattle.termwiz_surface.specs.Unlogged.{AddsUnlogged, MakesUnlogged, lent_value}
pub use Rattle.termwiz_surface.specs.ChangeLists.{AddsList, MakesList, change_list, is_logged, listed_value, log_after}
pub use Rattle.termwiz_surface.specs.Measuring.{AreMeasured}
pub use Rattle.termwiz_surface.specs.Scrollback.{spare_lines}
pub use Rattle.termwiz_surface.specs.ScrolledOff.{AddsScrolledOff, BeginsRows, ScrollsOff, ShownRow, first_rows, left_by, left_one, left_piece, left_region, left_step, line_shown, row_shown, rows_scrolled_off}
pub use Rattle.termwiz_surface.specs.Resizing.{HasResized, Resizes, resize_touches}
pub use Rattle.termwiz_surface.specs.Copies.{IsDrawn, IsCopied, copied_region, cut_to, region_at, whole_at}
pub use Rattle.termwiz_surface.specs.Following.{ViewerValue, Follows, FollowsTo, KeepsViewers, Leads, FullLeads, blank_viewer, blank_viewer_from}
pub use Rattle.termwiz_surface.specs.History.{Names, IsPast, KeepsNames}
pub use Rattle.termwiz_surface.specs.Preserving.{Preserves}
pub use Rattle.termwiz_surface.specs.Asking.{knows, own_repaint, most_own_entries, Repaints, StreamsFrom, StreamsFullyFrom}
pub use Rattle.termwiz_surface.specs.Diffs.{MeasureAlike, screen_after, HasDrawn, HasCopied, PrintsRegion, GivesRegion, region_diff, rows_of, top_rows, one_row, PrintsRows, HaveTopRows, HaveRow}
pub use Rattle.termwiz_surface.specs.Answer.{delta_of, AnswerValue, IsGiven, Carries}
pub use Rattle.termwiz_surface.specs.Carried.{IsPastOf, IsGivenBy, CarriesTo}
pub use Rattle.termwiz_storage.specs.Clustered.{IsWhole}
pub use Rattle.termwiz_surface.specs.Accepting.{Takes}
pub use Rattle.termwiz_surface.specs.Showing.{HasCaughtUp, ShowsNamed, KeepsShowing, ShowsCarried, StaysNamed}
pub use Rattle.termwiz_surface.specs.Schedule.{IsSchedule, IsFullSchedule}
pub use Rattle.termwiz_surface.specs.ManySchedule.{IsManySchedule}
-- screens, steps, logs, streams and diffs,
pub use Rattle.termwiz_screen.specs.Screen.{Screen, row_at}
pub use Rattle.termwiz_screen.specs.ScreenValue.{screen_value}
pub use Rattle.termwiz_screen.specs.Kept.{Kept, with_line_attribute}
pub use Rattle.termwiz_screen.specs.FullScreen.{FullScreen, full_screen, full_replay, line_attribute, HasFullSize}
pub use Rattle.termwiz_screen.specs.FullScreenValue.{full_value}
pub use Rattle.termwiz_screen.specs.Picture.{screens, full_screens}
pub use Rattle.termwiz_screen.specs.Step.{step, step_kept, replay, replay_kept, regions_fit}
pub use Rattle.termwiz_screen.specs.TextScrolls.{rows_scrolled}
pub use Rattle.termwiz_screen.specs.Resized.{resized_screen, resized_kept}
pub use Rattle.termwiz_screen.specs.Log.{LogValue, next_number, due, delta_limit, is_known, appended, flushed, passed, restarted}
pub use Rattle.termwiz_screen.specs.Stream.{IsStream, IsFullStream, Lends, most_entries, stream_of}
pub use Rattle.termwiz_screen.specs.Repaint.{repaint_in}
pub use Rattle.termwiz_screen.specs.Printable.{HasSize, IsPrintable, ArePrintable}
pub use Rattle.termwiz_screen.specs.ShownChars.{shown_chars}
pub use Rattle.termwiz_screen.specs.Prints.{Print, print_all, printed}
pub use Rattle.termwiz_screen.specs.Diff.{diff, need, whole}
pub use Rattle.termwiz_screen.specs.DiffLists.{IsDiff}
pub use Rattle.termwiz_screen.specs.DiffRegions.{AreRows, CrossNone, HaveRegion}
pub use Rattle.termwiz_screen.specs.Fewest.{PrintsWithin}
-- lines and stored cells,
pub use Rattle.termwiz_line.specs.LineValue.{LineValue, IsEdited, IsUnchanged, Prunes}
pub use Rattle.termwiz_line.specs.LineEq.{line_contents, line_eq}
pub use Rattle.termwiz_line.specs.LineFlags.{LineFlags, no_flags, with_sizes}
pub use Rattle.termwiz_line.specs.LineEdits.{HasCells, IsEditedAt, IsMade, IsTakenFrom}
pub use Rattle.termwiz_line.specs.Filled.{IsFilled, IsPartlyFilled}
pub use Rattle.termwiz_line.specs.Texts.{stored_text, wrapped_text, at_columns, cells_of_text, texts_between, Overlays, IsPartlyOverlaid}
pub use Rattle.termwiz_line.specs.Lending.{KeepsLine}
pub use Rattle.termwiz_line.specs.Clicks.{AnswersAs, IsLower, IsUpper}
pub use Rattle.termwiz_line.specs.Wraps.{IsWrapped, FitsWidth}
pub use Rattle.termwiz_line.specs.Zones.{AreZones}
pub use Rattle.termwiz_line.specs.Clusters.{AreClusters, JoinTo}
pub use Rattle.termwiz_line.specs.Row.{IsRow, row_of, clear}
pub use Rattle.termwiz_line.specs.RowLaws.{CellsHaveRow, ClearClears}
pub use Rattle.termwiz_storage.specs.Stored.{stored, visible, set_cell, set_run}
pub use Rattle.termwiz_storage.specs.Letters.{set_letters}
pub use Rattle.termwiz_text.specs.Plain.{is_plain, IsPlainRun}
pub use Rattle.termwiz_text.specs.Letter.{AreLetters, IsLetterRun}
pub use Rattle.termwiz_storage.specs.VisibleCell.{VisibleCell}
pub use Rattle.termwiz_storage.specs.Halves.{resized}
pub use Rattle.termwiz_storage.specs.CellTexts.{texts_of}
pub use Rattle.termwiz_storage.specs.Edits.{inserted, erased, erased_within, removed, with_halves, columns_between}
-- cells, changes, and how wide texts are
pub use Rattle.termwiz_cell.specs.CellValue.{CellValue, blank, blank_of}
pub use Rattle.termwiz_cell.specs.Attributes.{Attributes, default_attributes, with_background}
pub use Rattle.termwiz_cell.specs.ChangeValue.{ChangeValue, change_value}
pub use Rattle.termwiz_cell.specs.Sequence.{SequenceValue, added, all_added, move_by}
pub use Rattle.termwiz_cell.specs.Measure.{measure}
pub use Rattle.termwiz_cell.specs.Width.{unversioned, unicode_columns, variation}
pub use Rattle.termwiz_cell.specs.WidthLaws.{unicode_columns-le, unicode_columns-space}
pub use Rattle.termwiz_cell.specs.UsualWidths.{HasNarrowAscii, HasWideLetters}
pub use Rattle.termwiz_cell.specs.declared.emoji.Presentation.TheVariants.{Text, Emoji}
pub use Rattle.termwiz_cell.specs.declared.color.ColorAttribute.{ColorAttribute}
pub use Rattle.termwiz_cell.specs.declared.change.Position.TheVariants.{Relative, Absolute, EndRelative}
pub use Rattle.termwiz_cell.specs.declared.change.LineAttribute.TheVariants.{DoubleHeightTopHalfLine, DoubleHeightBottomHalfLine, DoubleWidthLine, SingleWidthLine}
-- what the contracts of this crate use, by its name alone
pub use Rattle.std.specs.Cow.{IsBorrowedSlice, IsOwnedSlice, cow_slice_items}
pub use Rattle.std.specs.List.{All, Any, list_all}
pub use Rattle.std.specs.Option.{IfSome, IsNone}
pub use Rattle.std.specs.Prelude.{IfOk, IsOk, OnErr, OnOk, Some, false, length, map, nat_lt, not, true, ℕ}
pub use Rattle.std.specs.Str.{chars}
pub use Rattle.termwiz_cell.specs.AttributeChangeValue.{attribute_change_value, with_attribute}
pub use Rattle.termwiz_cell.specs.Attributes.{needs_box}
pub use Rattle.termwiz_screen.specs.Clear.{clear_eol, clear_eos, clear_screen, eol_lengths, eos_lengths, screen_lengths}
pub use Rattle.termwiz_screen.specs.Diff.{restoring}
pub use Rattle.termwiz_screen.specs.Measured.{IsMeasured}
pub use Rattle.termwiz_screen.specs.Place.{placed}
pub use Rattle.termwiz_screen.specs.Print.{columns_left, down, down_kept, one_kept, piece_of, print, print_kept, print_one, put_at_cursor, put_kept, returned, wrapped, wrapped_kept}
pub use Rattle.termwiz_screen.specs.RegionValue.{region_value}
pub use Rattle.termwiz_screen.specs.Repaint.{full_repaint, repaint}
pub use Rattle.termwiz_screen.specs.Runs.{AreNarrow, AreWide}
pub use Rattle.termwiz_screen.specs.ScreenValue.{cells_of}
pub use Rattle.termwiz_screen.specs.ScrollRegions.{region_down, region_up}
pub use Rattle.termwiz_screen.specs.Sides.{AreVectors, row_flags}
pub use Rattle.termwiz_screen.specs.Step.{region_fits}
pub use Rattle.termwiz_surface.specs.Accepting.{Declines, HasDropped, MayTake}
pub use Rattle.termwiz_surface.specs.Adding.{Refuses}
pub use Rattle.termwiz_surface.specs.Answer.{is_repaint}
pub use Rattle.termwiz_surface.specs.Asking.{forgotten}
pub use Rattle.termwiz_surface.specs.Following.{Accepts, Fetches, Fits, forgetful}
pub use Rattle.termwiz_surface.specs.FollowingLaws.{ChangesLeadOn, FlushesKeepLeading, LeadsWhereItIs, RestartsKeepLeading, StreamsLeadOn}
pub use Rattle.termwiz_surface.specs.HistoryLaws.{AnswersStay, CarriedLead, ChangesGoOn, FlushesKeepPast, GivenCarry, NamedAreLed, NamesStay, NothingIsNamedAtFirst, NumberNamesPicture, RestartsGoOn}
pub use Rattle.termwiz_surface.specs.ManySchedule.{Held, IsManyInRange, ResizesAs}
pub use Rattle.termwiz_surface.specs.ManySteps.{AnswersTo, DeliversTo, Remembers, ServesEvent}
pub use Rattle.termwiz_surface.specs.Printing.{PrintsFirst, PrintsGraphemes}
pub use Rattle.termwiz_surface.specs.Schedule.{Acts, Allows, IsInRange, IsScheduleOf, ReportsOutcome, Views, with_empty_log}
pub use Rattle.termwiz_surface.specs.ScheduleLaws.{BrokenListsLeaveForm, FollowedFullLeadOn, FollowedLeadOn, LackMemory, LackNumbers}
pub use Rattle.termwiz_surface.specs.RowNumbers.{AreMarked, AreRenewed}
pub use Rattle.termwiz_surface.specs.ScrolledOff.{KeepsTop, LeavesRows, first_leaves, left_behind_first, moves_down, top_leaves, topped}
pub use Rattle.termwiz_surface.specs.Surface.{Becomes, lengths_of, numbers_over}
pub use Rattle.termwiz_surface.specs.declared.surface.SurfaceError.TheVariants.{ScrollRegion}
pub use Rattle.unicode_segmentation.specs.Grapheme.{graphemes}
