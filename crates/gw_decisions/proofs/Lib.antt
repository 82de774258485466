pub mod CountedLemmas
pub mod tally_lemmas
