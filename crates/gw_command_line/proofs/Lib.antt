mod CallLemmas
mod WordsLemmas
pub mod options_lemmas
