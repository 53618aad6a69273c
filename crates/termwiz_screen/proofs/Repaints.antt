-- Repaints: what they print, and that they give the screen.
pub mod EntryTexts
pub mod RowTrimming
pub mod RowEntries
pub mod Rows
pub mod Bottom
pub mod Screen
pub mod Length
pub mod LineEntries
pub mod LastChanges
pub mod Regions
pub mod PlainRuns
pub mod CalmEntries
pub mod Full
