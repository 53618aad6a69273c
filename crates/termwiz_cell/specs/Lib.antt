pub mod Style
pub mod Numbered
pub mod StyleWord
pub mod Link
pub mod LinkLayout
pub mod LinkText
pub mod LinkPairs
pub mod LinkParse
pub mod Attributes
pub mod FallbackWord
pub mod AttributesLayout
pub mod Width
pub mod Measure
pub mod UsualWidths
pub mod WidthLaws
pub mod CellValue
pub mod CellLayout
pub mod Lending
pub mod AttributeChangeValue
pub mod Shapes
pub mod ChangeValue
pub mod Graphemes
pub mod Sequence
pub mod AnsiColor
pub mod ColorSpec
pub mod ColorText
pub mod Rgb
pub mod Reads
pub mod StyleLending
-- what the contracts of this crate use, by its name alone
pub use Rattle.std.specs.Bool.{beq}
pub use Rattle.std.specs.Borrow.{sem}
pub use Rattle.std.specs.Char.{is_whitespace}
pub use Rattle.std.specs.Cmp.{decided, partial_equiv_from_equiv}
pub use Rattle.std.specs.Cmp.Lexicographic.{pointwise}
pub use Rattle.std.specs.Fmt.{WritesOnOk}
pub use Rattle.std.specs.Int.{int_rem_euclid, w64}
pub use Rattle.std.specs.Int.RustNames.{FitsSigned, int_rem}
pub use Rattle.std.specs.List.{list_all}
pub use Rattle.std.specs.Prelude.{IfErr, IfOk, IfSome, IsOk, IsSome, IsTrue, IsUtf8, None, OnErr, OnOk, Some, ℤ, bytes_eq, codes, false, length, map, not, pos, true}
pub use Rattle.std.specs.Str.{chars}
pub use Rattle.termwiz_cell.specs.AnsiColor.{ansi_index}
pub use Rattle.termwiz_cell.specs.AttributeChangeValue.{attribute_change_value, is_link, takes_memory, with_attribute}
pub use Rattle.termwiz_cell.specs.Attributes.{attributes_eq, attributes_eq-Decides, bits_of, color_eq, default_attributes, has_only_background, is_default, needs_box, option_link_eq, sgr_only, without_colors}
pub use Rattle.termwiz_cell.specs.CellLayout.{HasTextForm, text_in, wide_in}
pub use Rattle.termwiz_cell.specs.CellValue.{blank, blank_of, cell_eq, cell_eq-Decides, cell_of, clean, columns, is_wide, measured, owns_memory, plain_cell, space}
pub use Rattle.termwiz_cell.specs.ChangeValue.{Attribute, LineAttribute, Text, change_value, copy_takes_memory, is_text, sets_link}
pub use Rattle.termwiz_cell.specs.ColorText.{IsByte, IsColorText, IsDigit, IsHexColor, IsPart, IsX11Color, color_of, rgb_text, x11_text}
pub use Rattle.termwiz_cell.specs.Link.{link_eq, link_eq-Decides, linked, param_bytes, param_eq}
pub use Rattle.termwiz_cell.specs.LinkPairs.{are_pairs, has_equals, pair_of, params_of, with_pair}
pub use Rattle.termwiz_cell.specs.LinkParse.{AreEmpty, ArePrinted, AreTexts, HasPairs, ReadsLink, SpellsOnly, part}
pub use Rattle.termwiz_cell.specs.LinkText.{AreInOrder, IsReadable, link_text, params_text}
pub use Rattle.termwiz_cell.specs.Measure.{measure}
pub use Rattle.termwiz_cell.specs.Numbered.{IsNumbered}
pub use Rattle.termwiz_cell.specs.Sequence.{AddsAll, AddsOne, DistancesFit, IsSequence, MovesTo, RowFits, SequenceValue, aim, cell_place, grapheme_place, move_by, place_after, position_place, printed_columns, text_place}
pub use Rattle.termwiz_cell.specs.Shapes.{is_blinking_shape, line_at, line_number, shape_at, shape_number}
pub use Rattle.termwiz_cell.specs.Style.{blink_at, blink_number, flag_number, intensity_at, intensity_number, is_blinking, is_underlined, semantic_at, semantic_number, underline_at, underline_number, vertical_at, vertical_number}
pub use Rattle.termwiz_cell.specs.StyleLending.{LendsStyle}
pub use Rattle.termwiz_cell.specs.StyleWord.{FitsWord, IsRgb, bits_at, color_at, color_number, rgb_at, rgb_number, style_at, style_sgr_only}
pub use Rattle.termwiz_cell.specs.Width.{asked_by, at_version, columns_of, unicode_columns, variation, version_index}
pub use Rattle.termwiz_cell.specs.declared.change.sequence.SequenceError.TheVariants.{Range}
pub use Rattle.termwiz_text.specs.Plain.{is_one_plain, is_plain}
pub use Rattle.unicode_segmentation.specs.Grapheme.{graphemes}
pub use Rattle.termwiz_cell.specs.Lending.{LendsAttrs}
pub use Rattle.termwiz_cell.specs.Rgb.{rgb}
pub use Rattle.termwiz_cell.specs.FallbackWord.{fallback_at, fallback_number, fallback_of, no_fallbacks, with_fallback, word_part}
