-- Diffs: what they print, and that it is what is not shown.
pub mod NeededRows
pub mod Calls
pub mod Rows
pub mod Screens
pub mod NeedWords
pub mod Streams
pub mod Lists
pub mod Restoring
pub mod FewestPrints
