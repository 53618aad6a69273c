pub mod Status
pub mod LastRow
pub mod Prompt
pub mod Headings
pub mod Words
pub mod FirstLetters
pub mod Late
pub mod Serving
pub mod Quiet
pub mod RowCopies
pub mod Scrollback
pub mod Watching
pub mod Streams
pub mod Turns
pub mod Making
pub mod Following
pub mod Passing
-- what the contracts of this crate use, by its name alone
pub use Rattle.termwiz_surface.specs.{Adds, AddsScrolledOff, AddsUnlogged, All, Any, AreRows, CellValue, DoubleWidthLine, Follows, FollowsTo, FullScreen, HasDrawn, IsDiff, IsDrawn, IsLower, IsPastOf, IsSurfaceSize, IsUnchanged, IsUpper, IsWhole, IsWrapped, KeepsShowing, LineValue, MeasureAlike, Preserves, Print, PrintsRegion, PrintsWithin, Screen, ShowsNamed, SingleWidthLine, SurfaceValue, ViewerValue, appended, blank_surface, blank_viewer, cells_of, change_value, default_attributes, flushed, full_of, full_screens, full_value, is_known, kept_of, line_contents, line_eq, measure, need, next_number, no_flags, number_at, own_repaint, passed, print_all, printed, region_at, row_at, row_of, rows_scrolled_off, screen_after, screen_of, screens, shown_at, stored, stored_text, texts_of, visible, whole, whole_at, with_sizes}
pub use Rattle.termwiz_surface.specs.declared.surface.SurfaceError.TheVariants.{ScrollRegion}
pub use Rattle.termwiz_share.specs.Serving.{KeepsClients}
pub use Rattle.termwiz_share.specs.{IsReady, IsResponse, PreservesServing, Serves, SourceValue, ask_of, trimmed_surface}
pub use Rattle.uses.specs.Serving.{ServesAll, ServesOnce, Shares, AllShowSource, Stands, TakesResponse}
pub use Rattle.uses.specs.Turns.{InTurn}
pub use Rattle.uses.specs.Making.{MakesOrRefuses, AddsEach, MakesOrFails, DrawsOn, MayRefuse, full_after}
pub use Rattle.uses.specs.Following.{FollowerCatchesUp, FollowInTurn, FollowsOnce, Relays, RelaysTwice}
pub use Rattle.uses.specs.Passing.{PassesOn}
pub use Rattle.uses.specs.FirstLetters.{SetsFirstLetters}
pub use Rattle.uses.specs.Headings.{heading_changes}
pub use Rattle.uses.specs.LastRow.{blank_in, last_row_cleared}
pub use Rattle.uses.specs.Late.{IsServed}
pub use Rattle.uses.specs.Prompt.{FailsToPrompt, prompt_texts, prompted}
pub use Rattle.uses.specs.Quiet.{output_changes, settings_changes}
pub use Rattle.uses.specs.Scrollback.{printed_text}
pub use Rattle.uses.specs.RowCopies.{AreCopiesAt, CopiesRows, KeepsOthers, MayDiffer, rows_shown}
pub use Rattle.uses.specs.Status.{status_line}
pub use Rattle.uses.specs.Watching.{FailsAfterSome, FailsToTakeEach, ShowsEach, StopsShowing, TakesSome}
pub use Rattle.uses.specs.Streams.{AnswersTwice, FailsToAnswer, FailsToAnswerBoth, FailsToShow, FeedsBoth, FeedsInTwo, HasNoFault, IsStreamOfBoth, ShowsLast}
pub use Rattle.uses.specs.Words.{is_in_word}
