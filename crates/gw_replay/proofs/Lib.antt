pub mod ShownLemmas
pub mod LineOutcomeLemmas
pub mod ReplayLemmas
pub mod DeniedLemmas
pub mod CountingLemmas
