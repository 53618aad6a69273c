pub mod Streams
pub mod Fed
pub mod Taking
pub mod Resumed
pub mod Served
mod AddedLists
pub mod StillServed
pub mod Answering
