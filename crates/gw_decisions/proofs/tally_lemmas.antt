pub mod CountingLemmas
pub mod LineLaw
pub mod Written
