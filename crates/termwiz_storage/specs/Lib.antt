pub mod Stored
pub mod Letters
pub mod Used
pub mod Halves
pub mod Edits
pub mod Wrapped
pub mod LastCell
pub mod FilledAs
pub mod CellLists
pub mod CellRef
pub mod CellsLeft
pub mod Storage
pub mod Lending
pub mod CellTexts
pub mod CellRuns
pub mod Clustered
pub mod PlainCells
pub mod VisibleCell
-- what the contracts of this crate use, by its name alone
pub use Rattle.std.specs.Borrow.{sem}
pub use Rattle.std.specs.Cmp.{decided, on_equiv, on_per, partial_equiv_from_equiv}
pub use Rattle.std.specs.Iterator.{item_count}
pub use Rattle.std.specs.List.{insert, last_or, list_all, list_any, remove, slice_get}
pub use Rattle.std.specs.Option.{is_some, option_copied, unwrap_or}
pub use Rattle.std.specs.Prelude.{IfOk, IfSome, IsOk, IsSome, IsTrue, MatchOption, None, OnErr, OnOk, Some, drop, false, length, map, nat_le, not, option_map, replicate, slice_set, string_bytes, string_len, take, true, vec_capacity, vec_len}
pub use Rattle.std.specs.Str.{chars}
pub use Rattle.termwiz_cell.specs.Attributes.{default_attributes, needs_box}
pub use Rattle.termwiz_cell.specs.CellValue.{blank, blank_of, cell_of, clean, columns, half, is_wide, owns_memory, plain_cell, space}
pub use Rattle.termwiz_storage.specs.CellLists.{cells_eq, cells_eq-Decides}
pub use Rattle.termwiz_storage.specs.CellRef.{contents, contents_of, indexed_cell, ref_cell, ref_index, ref_width}
pub use Rattle.termwiz_storage.specs.CellRuns.{AddsAttrs, attrs_of, map_last, marked, shape_in, shapes_of}
pub use Rattle.termwiz_storage.specs.CellTexts.{first_texts, texts_of}
pub use Rattle.termwiz_storage.specs.CellsLeft.{IsOfCell, YieldsCell, cells_left}
pub use Rattle.termwiz_storage.specs.Clustered.{HasByteCells, IsWhole, cell_len}
pub use Rattle.termwiz_storage.specs.Edits.{columns_between, erased, erased_within, inserted, inserted_at_margin, removed, removed_at_margin, with_half, with_halves}
pub use Rattle.termwiz_storage.specs.Halves.{resized}
pub use Rattle.termwiz_storage.specs.LastCell.{last_attrs}
pub use Rattle.termwiz_storage.specs.Lending.{LendsCells, LendsVector}
pub use Rattle.termwiz_storage.specs.Letters.{put_letters, set_letters}
pub use Rattle.termwiz_storage.specs.PlainCells.{ArePlain, IsPlainFirst, begins_plain, is_plain_with}
pub use Rattle.termwiz_storage.specs.Storage.{cells_in, is_vector, same_cells}
pub use Rattle.termwiz_storage.specs.Stored.{IsKept, cell_at, fill, hides, is_linked, padded, put_run, set_cell, set_run, stored, torn, visible}
pub use Rattle.termwiz_storage.specs.Used.{IsBlanked, IsFilledTo, IsMarked, IsUsedTo, OwnNothing}
pub use Rattle.termwiz_storage.specs.Wrapped.{last_index, set_last_wrapped, with_wrapped, wrapped_last}
pub use Rattle.termwiz_text.specs.Letter.{AreLetters}
pub use Rattle.termwiz_text.specs.Plain.{is_plain}
