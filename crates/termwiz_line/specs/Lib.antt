pub mod Pieces
pub mod Trim
pub mod Zones
pub mod Wrapped
pub mod Clicks
pub mod Wraps
pub mod LineFlags
pub mod Directions
pub mod LineValue
pub mod LineEdits
pub mod EditLaws
pub mod Lending
pub mod LineEq
pub mod Filled
pub mod Texts
pub mod Row
pub mod Shows
pub mod Entries
pub mod RowLaws
pub mod Clusters
pub mod ClusterShapes
pub mod PlainCells
pub mod CutLaws
pub mod PennedValue
pub mod LastChange
pub mod GrowingText
pub mod Writing
pub mod StorageLaws
-- what the contracts of this crate use, by its name alone
pub use Rattle.std.specs.Borrow.{sem}
pub use Rattle.std.specs.Cmp.{decided, on_equiv, on_per, partial_equiv_from_equiv}
pub use Rattle.std.specs.Cow.{IsBorrowedStr, cow_str_bytes}
pub use Rattle.std.specs.Fn.{FnReturnsAt}
pub use Rattle.std.specs.List.{All, list_all, list_any}
pub use Rattle.std.specs.Option.{option_copied}
pub use Rattle.std.specs.Prelude.{IfOk, IfSome, IsOk, IsOkAnd, IsSome, IsTrue, List, None, OnErr, OnOk, Some, drop, false, length, map, max, nat_lt, not, take, true}
pub use Rattle.std.specs.Str.{chars}
pub use Rattle.termwiz_cell.specs.Attributes.{attributes_eq, default_attributes, has_only_background, needs_box}
pub use Rattle.termwiz_cell.specs.CellValue.{blank, blank_of, cell_of, columns, measured, space}
pub use Rattle.termwiz_cell.specs.ChangeValue.{change_value, is_text}
pub use Rattle.termwiz_cell.specs.Measure.{measure}
pub use Rattle.termwiz_cell.specs.Width.{at_version}
pub use Rattle.termwiz_line.specs.Clicks.{AnswersAs, IsLower, IsUpper, goes_on, lower_of, upper_of}
pub use Rattle.termwiz_line.specs.ClusterShapes.{grown, shape_of_one}
pub use Rattle.termwiz_line.specs.Clusters.{AreClusters, ClusterValue, cluster_of, look_of, unmarked_attributes, with_cell}
pub use Rattle.termwiz_line.specs.CutLaws.{BytesTellTheirCells, ClustersAreOne, ClustersJoin, WrapsAreAlike, WrapsAreOne, ZonesAreOne}
pub use Rattle.termwiz_line.specs.Directions.{goes_left, is_auto, is_right_to_left}
pub use Rattle.termwiz_line.specs.EditLaws.{AllColumnsShow, StoredAgainShows}
pub use Rattle.termwiz_line.specs.Entries.{Penned, add_text, joins, pen_entry, row_entries}
pub use Rattle.termwiz_line.specs.Filled.{AppendsCells, Fills, IsFilled, IsPartlyFilled, MakesVector}
pub use Rattle.termwiz_line.specs.GrowingText.{IsLastOf, ends_printable, with_text}
pub use Rattle.termwiz_line.specs.LastChange.{last_is}
pub use Rattle.termwiz_line.specs.Lending.{KeepsLine, LendsLine}
pub use Rattle.termwiz_line.specs.LineEdits.{HasCells, IsEditedAt, IsMade, IsTakenFrom}
pub use Rattle.termwiz_line.specs.LineEq.{contents_eq, contents_eq-Decides, flags_eq, line_contents, line_eq}
pub use Rattle.termwiz_line.specs.LineFlags.{flag_bits, flags_of, no_flags, with_direction, with_sizes}
pub use Rattle.termwiz_line.specs.LineValue.{AppendsAt, EditsElsewhere, IsEdited, IsUnchanged, Prunes}
pub use Rattle.termwiz_line.specs.PennedValue.{penned_value}
pub use Rattle.termwiz_line.specs.RowLaws.{CellsHaveRow, ClearClears, ClearPast, PaintPaints, PruningKeepsRow, ResizedIsRow, SetCellPaints, VisibleFixesRow, VisibleFixesRowOf, WalkGrows}
pub use Rattle.termwiz_line.specs.StorageLaws.{EqualInAnyForm, WholeIsVisible}
pub use Rattle.termwiz_line.specs.Texts.{IsPartlyOverlaid, Overlays, at_columns, cells_of_text, stored_text, text_within, texts_between, texts_of, wrapped_text}
pub use Rattle.termwiz_line.specs.Trim.{IsTrimmed}
pub use Rattle.termwiz_line.specs.Wrapped.{last_is_wrapped}
pub use Rattle.termwiz_line.specs.Wraps.{AreLinesOf, FitsWidth, IsSpace, IsWrapped}
pub use Rattle.termwiz_line.specs.Writing.{IsInText, IsUnderWay, IsWritten, and_cells, behind, spaces_of}
pub use Rattle.termwiz_line.specs.Zones.{AreZones, AreZonesOf, IsBlank, semantic, zone_of}
pub use Rattle.termwiz_line.specs.declared.line.line.clicks.DoubleClickRange.{DoubleClickRange}
pub use Rattle.termwiz_storage.specs.CellLists.{cells_eq}
pub use Rattle.termwiz_storage.specs.CellRef.{indexed_cell, ref_cell, ref_index}
pub use Rattle.termwiz_storage.specs.CellsLeft.{IsOfCell, cells_left}
pub use Rattle.termwiz_storage.specs.Clustered.{IsWhole}
pub use Rattle.termwiz_storage.specs.Edits.{columns_between, erased, erased_within, inserted, removed, with_half, with_halves}
pub use Rattle.termwiz_storage.specs.Halves.{resized}
pub use Rattle.termwiz_storage.specs.Letters.{set_letters}
pub use Rattle.termwiz_storage.specs.Storage.{cells_in, is_vector}
pub use Rattle.termwiz_storage.specs.Stored.{IsPruned, cell_at, is_linked, set_cell, set_run, visible}
pub use Rattle.termwiz_storage.specs.VisibleCell.{VisibleCell}
pub use Rattle.termwiz_storage.specs.Wrapped.{set_last_wrapped, with_wrapped}
pub use Rattle.termwiz_text.specs.Letter.{AreLetters}
pub use Rattle.termwiz_text.specs.Plain.{is_plain}
