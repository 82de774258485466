pub mod Deciding
pub mod Ending
pub mod Program
pub mod Replay
pub mod Serving
