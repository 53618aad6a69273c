-- Rows: scrolled, resized, joined, filled and cleared.
pub mod Clear
pub mod Fills
pub mod Joined
pub mod Tails
pub mod Filling
pub mod Reversed
pub mod Scrolled
pub mod Resized
pub mod Grown
pub mod Walked
pub mod CursorColumns
