pub mod Entry
pub mod Shown
pub mod Explained
pub mod Replay
pub mod Flawed
pub mod Laws
pub mod Decisions
pub mod internal
