pub mod Plain
pub mod Letter
pub mod First
pub mod Left
pub mod CutAt
-- what the contracts of this crate use, by its name alone
pub use Rattle.std.specs.List.{list_all}
pub use Rattle.std.specs.Prelude.{IfOk, IfSome, IsTrue, List, OnErr, OnOk, drop, encode_utf8, false, length, min, slice_index, take, true, ℕ}
pub use Rattle.std.specs.Str.{chars}
pub use Rattle.termwiz_text.specs.CutAt.{IsCutAt}
pub use Rattle.termwiz_text.specs.First.{IsFirst}
pub use Rattle.termwiz_text.specs.Plain.{is_plain, is_plain_last}
pub use Rattle.unicode_segmentation.specs.Grapheme.{graphemes}
pub use Rattle.termwiz_text.specs.Left.{graphemes_to_come}
