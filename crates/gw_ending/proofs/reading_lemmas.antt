pub mod AppendLemmas
pub mod KnownLemmas
