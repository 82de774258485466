pub mod Behind
pub mod Documents
pub mod Each
pub mod EachAt
pub mod Few
pub mod Joined
pub mod Kept
pub mod Listed
pub mod OneEach
pub mod Parted
pub mod RuleReading
pub mod Steps
pub mod Limits
pub mod TwoFormats
pub mod keys_lemmas
pub mod faults_lemmas
mod Stopping
