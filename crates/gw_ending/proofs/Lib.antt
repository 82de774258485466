mod AppendLemmas
pub mod reading_lemmas
