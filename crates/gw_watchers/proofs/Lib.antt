pub mod RecordLemmas
pub mod WantedLemmas
pub mod TrialLemmas
pub mod files_lemmas
