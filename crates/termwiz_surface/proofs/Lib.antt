mod Drawn
mod Painted
mod Touching
pub mod RowNumbers
mod Printing
mod Changed
pub mod SoundRepaint
mod Settled
mod ResizedSize
mod KeptRows
pub mod Following
mod Copying
mod DiffSurfaces
pub mod Remembering
mod Forgetting
mod Unlogged
pub mod Preserving
mod ChangeLists
mod ScrolledOff
mod Measuring
mod Viewing
mod Accepting
mod FollowedRuns
mod Running
mod ScheduleLaws
mod ManyRuns
mod Equality
