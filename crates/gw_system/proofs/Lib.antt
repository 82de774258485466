pub mod BegunLemmas
pub mod RequestLemmas
pub mod ReplacingLemmas
pub mod StoreLemmas
pub mod EndLemmas
