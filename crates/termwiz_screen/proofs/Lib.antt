pub mod Stored
mod Measuring
pub mod Runs
pub mod LetterRuns
pub mod ShownTexts
mod ShownCells
pub mod Lines
pub mod Logs
pub mod Sides
pub mod Regions
mod AlikeRows
pub mod LogRegions
pub mod TextScrolls
pub mod FullScreens
mod Equality
pub mod Repaints
pub mod Diffs
pub mod RowChanges
