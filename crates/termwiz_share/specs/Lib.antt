pub mod Source
pub mod Responses
pub mod Client
pub mod Feeding
pub mod Histories
pub mod Serving
-- what the contracts of this crate use, by its name alone
pub use Rattle.std.specs.Prelude.{IfErr, IfOk, OnErr, OnOk, length, map, true}
pub use Rattle.termwiz_cell.specs.ChangeValue.{change_value}
pub use Rattle.termwiz_cell.specs.Measure.{measure}
pub use Rattle.termwiz_screen.specs.FullScreen.{FullScreen, full_replay}
pub use Rattle.termwiz_screen.specs.Log.{flushed, next_number}
pub use Rattle.termwiz_surface.specs.Adding.{Adds, with_log}
pub use Rattle.termwiz_surface.specs.Answer.{is_repaint, suits}
pub use Rattle.termwiz_surface.specs.Copies.{IsCopied, IsDrawn, copied_region, region_at, whole_at}
pub use Rattle.termwiz_surface.specs.ChangeLists.{AddsList, change_list}
pub use Rattle.termwiz_surface.specs.Diffs.{HasCopied, HasDrawn}
pub use Rattle.termwiz_surface.specs.Resizing.{Resizes}
pub use Rattle.termwiz_surface.specs.RowNumbers.{NumbersRows}
pub use Rattle.termwiz_surface.specs.ScrolledOff.{AddsScrolledOff, rows_scrolled_off}
pub use Rattle.termwiz_surface.specs.Surface.{IsSurfaceSize, SurfaceValue, blank_surface, kept_of, screen_of}
pub use Rattle.termwiz_surface.specs.declared.surface.SurfaceError.TheVariants.{ScrollRegion}
pub use Rattle.termwiz_wire.specs.Answers.{answer_at}
pub use Rattle.termwiz_wire.specs.Lent.{lent_answer}
pub use Rattle.termwiz_wire.specs.Sent.{IsAsk, IsSent, ask}
pub use Rattle.termwiz_wire.specs.declared.fault.Fault.{Fault}
pub use Rattle.termwiz_share.specs.Source.{IsResponse, PutsAnswer, PutsDelta, Responds, SourceValue, WritesFront, bytes_of, most_bytes, number_asked, repaint_answer, response_bytes, sent_by, source_of, trimmed_surface}
pub use Rattle.termwiz_share.specs.Responses.{HasResponses, chosen, delta_part}
pub use Rattle.termwiz_share.specs.Client.{ClientValue, DisplayValue, IsReady, ask_of, fits, shown_by, shown_on, size_place, stale_place}
pub use Rattle.termwiz_share.specs.Feeding.{DecodesNext, EndsHere, Feeds, HasBegunNext, KeepsPiece, TakesWholeOnes, TakesNextOrNone, DisplayTakes, TakesNext, nameless, refusal}
pub use Rattle.termwiz_share.specs.Histories.{ClientFollows, FollowsNext, ClientFollowsTo, Given, HasGiven}
pub use Rattle.termwiz_share.specs.Serving.{PreservesServing, KeepsSources, Serves, ShowsSource}
